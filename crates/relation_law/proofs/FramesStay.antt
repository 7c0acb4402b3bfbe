-- What the events of each party leave as it was, one by one and over lists.
use Rattle.std.proofs.Common.{ℕ, List, [], ◌∷◌, ◌++◌, refl, ◌∙◌}
use Rattle.std.specs.Prelude.{take, zero, suc}
use Rattle.fence_law.specs.State.{State, Event}
use Rattle.fence_law.specs.State.Event.{Grants, Refuses, ServesOther, Frees, Fences, SetsTag, Fenced, Refenced, Performs, Shows, Fails, Drops, Declares, Loses, Leaves, PerformsLost, Commits, RefusesCommit, Repairs, Repaired, Rebuilds}
use Rattle.fence_law.specs.Machine.{after, after_all, Lawful, Allowed}
use Rattle.file_simulation.specs.EventLists.{Lines}
use Rattle.file_simulation.specs.Events.{joined}
use Rattle.relation_law.specs.Frames.{AreAll, LinesAre, IsOfClient, ServerStays}

-- ---- lists

pub all_more : (P : Event → Type 0) (es fs : List Event) → AreAll P es → AreAll P fs → AreAll P (es ++ fs)
all_more P [] fs a b = b
all_more P (e ∷ es) fs a b = (a.0, all_more P es fs a.1 b)

pub lines_more : (P : Event → Type 0) (x y : Lines) → LinesAre P x → LinesAre P y → LinesAre P (x ++ y)
lines_more P [] y a b = b
lines_more P (l ∷ x) y a b = (a.0, lines_more P x y a.1 b)

-- all events of some lines
pub all_joined : (P : Event → Type 0) (x : Lines) → LinesAre P x → AreAll P (joined x)
all_joined P [] a = tt
all_joined P (l ∷ x) a = all_more P l (joined x) a.0 (all_joined P x a.1)

-- the first lines
pub lines_taken : (P : Event → Type 0) (n : ℕ) (x : Lines) → LinesAre P x → LinesAre P (take n x)
lines_taken P zero x a = tt
lines_taken P (suc n) [] a = tt
lines_taken P (suc n) (l ∷ x) a = (a.0, lines_taken P n x a.1)

-- what is so of each such event is so of each other that follows from it
pub all_as : (P Q : Event → Type 0) → ((e : Event) → P e → Q e) → (es : List Event) → AreAll P es → AreAll Q es
all_as P Q f [] a = tt
all_as P Q f (e ∷ es) a = (f e a.0, all_as P Q f es a.1)

pub lines_as : (P Q : Event → Type 0) → ((e : Event) → P e → Q e) → (x : Lines) → LinesAre P x → LinesAre Q x
lines_as P Q f [] a = tt
lines_as P Q f (l ∷ x) a = (all_as P Q f l a.0, lines_as P Q f x a.1)

-- ---- over a list

-- what each event of a kind keeps, all of them keep
pub kept_by_all : (P : Event → Type 0) (R : State → Type 0)
    → ((s : State) (e : Event) → P e → Allowed s e → R s → R (after s e))
    → (s : State) (es : List Event) → AreAll P es → Lawful s es → R s → R (after_all s es)
kept_by_all P R keep s [] a l r = r
kept_by_all P R keep s (e ∷ es) a l r = kept_by_all P R keep (after s e) es a.1 l.1 (keep s e a.0 l.0 r)

-- and what each makes of the machine, all of them do, whether it can happen or not
pub related_by_all : (P : Event → Type 0) (R : State → State → Type 0) → ((s : State) → R s s)
    → ((s t u : State) → R s t → R t u → R s u) → ((s : State) (e : Event) → P e → R s (after s e))
    → (s : State) (es : List Event) → AreAll P es → R s (after_all s es)
related_by_all P R same more one s [] a = same s
related_by_all P R same more one s (e ∷ es) a =
    more s (after s e) (after_all (after s e) es) (one s e a.0) (related_by_all P R same more one (after s e) es a.1)

-- ---- events of clients

server_same : (s : State) → ServerStays s s
server_same s = record {
  layout = refl;
  object_tag = refl;
  last_nonce = refl;
  cell = refl;
  lost = refl;
  gone = refl;
  dropped = refl;
  missing = refl;
  fencing = refl;
  repairing = refl;
  ended_tag = refl;
  repaired_at = refl;
  tag = refl;
  outstanding = refl;
  next = refl;
  granted_since = refl;
  slot = refl;
  kept_grant = refl;
  kept_size = refl;
  size = refl;
  answers = refl;
  replies = refl;
  shown = refl;
  set_tags = refl;
  tag_replies = refl;
}

server_more : (s t u : State) → ServerStays s t → ServerStays t u → ServerStays s u
server_more s t u a b = record {
  layout = b.layout ∙ a.layout;
  object_tag = b.object_tag ∙ a.object_tag;
  last_nonce = b.last_nonce ∙ a.last_nonce;
  cell = b.cell ∙ a.cell;
  lost = b.lost ∙ a.lost;
  gone = b.gone ∙ a.gone;
  dropped = b.dropped ∙ a.dropped;
  missing = b.missing ∙ a.missing;
  fencing = b.fencing ∙ a.fencing;
  repairing = b.repairing ∙ a.repairing;
  ended_tag = b.ended_tag ∙ a.ended_tag;
  repaired_at = b.repaired_at ∙ a.repaired_at;
  tag = b.tag ∙ a.tag;
  outstanding = b.outstanding ∙ a.outstanding;
  next = b.next ∙ a.next;
  granted_since = b.granted_since ∙ a.granted_since;
  slot = b.slot ∙ a.slot;
  kept_grant = b.kept_grant ∙ a.kept_grant;
  kept_size = b.kept_size ∙ a.kept_size;
  size = b.size ∙ a.size;
  answers = b.answers ∙ a.answers;
  replies = b.replies ∙ a.replies;
  shown = b.shown ∙ a.shown;
  set_tags = b.set_tags ∙ a.set_tags;
  tag_replies = b.tag_replies ∙ a.tag_replies;
}

server_stays : (c : ℕ) (s : State) (e : Event) → IsOfClient c e → ServerStays s (after s e)
server_stays c s (Grants d number rw range extending) is = absurd is
server_stays c s (Refuses d kind) is = absurd is
server_stays c s (Frees d) is = absurd is
server_stays c s (ServesOther d) is = absurd is
server_stays c s Fences is = absurd is
server_stays c s (SetsTag k) is = absurd is
server_stays c s Fenced is = absurd is
server_stays c s Refenced is = absurd is
server_stays c s (Performs m) is = absurd is
server_stays c s (Shows j k) is = absurd is
server_stays c s (Fails k) is = absurd is
server_stays c s (Drops k) is = absurd is
server_stays c s (Declares k) is = absurd is
server_stays c s (Loses d k) is = absurd is
server_stays c s (Leaves d g) is = absurd is
server_stays c s (PerformsLost m) is = absurd is
server_stays c s (Commits d j g) is = absurd is
server_stays c s (RefusesCommit d j) is = absurd is
server_stays c s (Repairs k cells e) is = absurd is
server_stays c s (Repaired done e) is = absurd is
server_stays c s (Rebuilds k cells) is = absurd is
server_stays c s e is = server_same s

-- A client's events leave all that the server and the drives have.
pub server_stays_all : (c : ℕ) (s : State) (es : List Event) → AreAll (IsOfClient c) es → ServerStays s (after_all s es)
server_stays_all c = related_by_all (IsOfClient c) ServerStays server_same server_more (server_stays c)
