-- The lines of a step of the server: without a new request all events are of no request, and with one those of its notes; the
-- answer stands last.
use Rattle.std.proofs.Common.{◌≡◌, ℕ, Bool, true, false, List, [], ◌∷◌, ◌++◌, Option, Some, None, refl, sym, ap, subst, ◌∙◌, if◌then◌else◌}
use Rattle.std.specs.Prelude.{◌+◌, ◌==◌, ◌&&◌}
use Rattle.osd_lists.specs.declared.node.Node.{Node}
use Rattle.osd_lists.specs.declared.node.Node.TheVariants as node
use Rattle.server_rules.specs.Files.{Step}
use Rattle.server_rules.specs.Messages.{Message, Asks as AsksServer, Replies as RepliesServer, Orders as OrdersServer}
use Rattle.server_rules.specs.History.{Input, Hears, Makes, Obeys, Adds, Zones, Formats, Resends, Crashes, Opens}
use Rattle.client_rules.specs.Answers.{is_loss_taken}
use Rattle.layout_ops.specs.declared.messages.Answer.{Answer}
use Rattle.world_history.specs.ServerNames as server_rules
use Rattle.world_history.specs.ServerNames.{Server, File, Component, Note, NoteKind, Outgoing, ToDrive, Recalls, Answers, AnswersOrder, OrderKind, ToRecall, ToRevoke, ToDeclare, ToRebuild, ToAudit}
use Rattle.world_history.specs.State.{World, at_number}
use Rattle.fence_law.specs.State.{State, Event}
use Rattle.fence_law.specs.State.Event.{Commits, Fences, Fenced, Refenced}
use Rattle.fence_law.specs.Machine.{after, after_all}
use Rattle.history_law.specs.Answers.{AnswersOnly, Never}
use Rattle.file_simulation.specs.Components.{has_failed}
use Rattle.file_simulation.specs.EventLists.{where_so}
use Rattle.file_simulation.specs.Events.{joined}
use Rattle.file_simulation.specs.ServerEvents as table
use Rattle.relation_law.specs.Frames.{AreAll, LinesAre}
use Rattle.relation_law.specs.Requests.{IsPlain, IsSteady, SteadyStays}
use Rattle.relation_law.specs.RequestsGoing.{is_served_in}
use Rattle.relation_law.proofs.FramesStay.{all_more, all_as}
use Rattle.relation_law.proofs.FramesClient.{where_all, grant_all}
use Rattle.relation_law.proofs.RequestsPlain.{asking_same, asking_more, asking_stays_all}
use Rattle.relation_law.proofs.KeptNotes.{after_both}

-- ---- events of no request, and of no commit

pub steady_plain : (e : Event) → IsSteady e → IsPlain e
steady_plain (Commits c j g) is = absurd is
steady_plain e is = is

steady_size : (s : State) (e : Event) → IsSteady e → (after s e).size ≡ s.size
steady_size s (Commits c j g) is = absurd is
steady_size s e is = refl

steady_sizes : (s : State) (es : List Event) → AreAll IsSteady es → (after_all s es).size ≡ s.size
steady_sizes s [] a = refl
steady_sizes s (e ∷ es) a = steady_sizes (after s e) es a.1 ∙ steady_size s e a.0

pub steady_same : (s : State) → SteadyStays s s
steady_same s = record { asking = asking_same s; size = refl }

pub steady_more : (s t u : State) → SteadyStays s t → SteadyStays t u → SteadyStays s u
steady_more s t u a b = record { asking = asking_more s t u a.asking b.asking; size = b.size ∙ a.size }

pub steady_stays : (s : State) (es : List Event) → AreAll IsSteady es → SteadyStays s (after_all s es)
steady_stays s es a = record {
  asking = asking_stays_all s es (all_as IsSteady IsPlain steady_plain es a);
  size = steady_sizes s es a;
}

abbrev Plain : List Event → Type 0
Plain = AreAll IsSteady

-- ---- fences, and what an order does

pub fences_plain : (f g : File) → Plain (table.fences f g)
fences_plain f g = where_all IsSteady (table.begins_fence f g) (Fences ∷ []) (tt, tt)

declared : (d : ℕ) (cs : List Component) (k : ℕ) → Plain (table.declared_from d cs k)
unfolding table.declared_from
declared d [] k = tt
declared d (at ∷ cs) k =
    all_more IsSteady _ (table.declared_from d cs (k + 1)) (where_all IsSteady (at.drive == d) _ (tt, tt))
    (declared d cs (k + 1))

ordered : (f g : File) (kind : OrderKind) (n : ℕ) → Plain (table.ordered f g kind n)
ordered f g ToDeclare d = declared d f.kept.components 0
ordered f g ToRecall n = tt
ordered f g ToRevoke n = where_all IsSteady (n == f.kept.number) _ (fences_plain f g)
ordered f g ToRebuild n = where_all IsSteady (n == f.kept.number) _ (fences_plain f g)
ordered f g ToAudit n = where_all IsSteady (n == f.kept.number) _ (fences_plain f g)

-- ---- notes

lacks_space : (missing lost : Bool) (k : ℕ) → Plain (table.lacks_space missing lost k)
lacks_space true lost k = tt
lacks_space false true k = (tt, tt)
lacks_space false false k = (tt, tt)

reported : (k : ℕ) (o : Option ℕ) → Plain (table.reported k o)
reported k None = tt
reported k (Some c) = (tt, tt)

fence_over : (b : Bool) → Plain ((if b then Refenced else Fenced) ∷ [])
fence_over true = (tt, tt)
fence_over false = (tt, tt)

noted_here : (s : State) (w : World) (f : File) (i : Input) (n : NoteKind) → Plain (table.noted_here s w f i n)
noted_here s w f i (server_rules.Fenced tag) = fence_over s.repairing
noted_here s w f i (server_rules.Repaired stripes short) = (tt, tt)
noted_here s w f i (server_rules.NoSpace k) = lacks_space (s.missing k) (s.lost k) k
noted_here s w f i (server_rules.Reported k) = reported k (table.asker i)
noted_here s w f i (server_rules.Rebuilt k d) = (tt, where_all IsSteady (has_failed (at_number w.drives d)) _ (tt, tt))
noted_here s w f i n = tt

pub noted_plain : (s : State) (w : World) (f : File) (i : Input) (n : Note) → Plain (table.noted s w f i n)
noted_plain s w f i n = where_all IsSteady (n.file == f.kept.number) _ (noted_here s w f i n.kind)

-- ---- no new request

none_heard : (s : State) (server : Server) (did : Step) (f g : File) (from : Node) (m : Message)
    → is_served_in server (Hears 0 from m) ≡ false → Plain (table.heard s server did f g from m)
none_heard s server did f g (node.Client c) (AsksServer q) no_ =
    subst (λ (b : Bool). Plain (where_so b (table.served s q (table.is_ok (table.answer_of did.sends)) f g))) (sym no_) tt
none_heard s server did f g (node.Client c) (RepliesServer r) no_ = tt
none_heard s server did f g (node.Client c) (OrdersServer o) no_ = tt
none_heard s server did f g node.Server m no_ = tt
none_heard s server did f g (node.Drive d) m no_ = tt

pub served_at : (server : Server) (now : ℕ) (from : Node) (m : Message)
    → is_served_in server (Hears 0 from m) ≡ is_served_in server (Hears now from m)
served_at server now (node.Client c) (AsksServer q) = refl
served_at server now (node.Client c) (RepliesServer r) = refl
served_at server now (node.Client c) (OrdersServer o) = refl
served_at server now node.Server m = refl
served_at server now (node.Drive d) m = refl

first_plain : (s : State) (server : Server) (did : Step) (f g : File) (i : Input) → is_served_in server i ≡ false
    → Plain (table.at_first s server did f g i)
first_plain s server did f g (Hears now from m) no_ =
    none_heard s server did f g from m (served_at server now from m ∙ no_)
first_plain s server did f g (Obeys kind n) no_ = ordered f g kind n
first_plain s server did f g Opens no_ = fences_plain f g
first_plain s server did f g (Makes n m tag zoned) no_ = tt
first_plain s server did f g (Adds d) no_ = tt
first_plain s server did f g (Zones d zone) no_ = tt
first_plain s server did f g (Formats n) no_ = tt
first_plain s server did f g Resends no_ = tt
first_plain s server did f g Crashes no_ = tt

none_answered : (s : State) (server : Server) (g : File) (a : Answer) (i : Input) → is_served_in server i ≡ false
    → Plain (table.answered_to s server g a i)
none_answered s server g a (Hears now (node.Client c) (AsksServer q)) no_ =
    subst (λ (b : Bool). Plain (where_so (b && (q.file == g.kept.number)) (table.answered_here s c q.args a g))) (sym no_) tt
none_answered s server g a (Hears now (node.Client c) (RepliesServer r)) no_ = tt
none_answered s server g a (Hears now (node.Client c) (OrdersServer o)) no_ = tt
none_answered s server g a (Hears now node.Server m) no_ = tt
none_answered s server g a (Hears now (node.Drive d) m) no_ = tt
none_answered s server g a (Obeys kind n) no_ = tt
none_answered s server g a Opens no_ = tt
none_answered s server g a (Makes n m tag zoned) no_ = tt
none_answered s server g a (Adds d) no_ = tt
none_answered s server g a (Zones d zone) no_ = tt
none_answered s server g a (Formats n) no_ = tt
none_answered s server g a Resends no_ = tt
none_answered s server g a Crashes no_ = tt

sent_plain : (s : State) (server : Server) (g : File) (i : Input) (o : Outgoing) → is_served_in server i ≡ false
    → Plain (table.sent s server g i o)
sent_plain s server g i (Answers a) no_ = none_answered s server g a i no_
sent_plain s server g i (ToDrive d c) no_ = tt
sent_plain s server g i (Recalls r) no_ = tt
sent_plain s server g i (AnswersOrder a) no_ = tt

sends_plain : (s : State) (server : Server) (g : File) (i : Input) (os : List Outgoing) → is_served_in server i ≡ false
    → LinesAre IsSteady (table.sends_all s server g i os)
unfolding table.sends_all
sends_plain s server g i [] no_ = tt
sends_plain s server g i (o ∷ os) no_ =
    (sent_plain s server g i o no_, sends_plain (after_all s (table.sent s server g i o)) server g i os no_)

notes_plain : (s : State) (w : World) (f g : File) (i : Input) (os : List Outgoing) (ns : List Note)
    → is_served_in w.server i ≡ false → LinesAre IsSteady (table.notes_all s w f g i os ns)
unfolding table.notes_all
notes_plain s w f g i os [] no_ = sends_plain s w.server g i os no_
notes_plain s w f g i os (n ∷ ns) no_ =
    (noted_plain s w f i n, notes_plain (after_all s (table.noted s w f i n)) w f g i os ns no_)

-- A step of the server that is on no new request has only events of no request.
pub server_plain : (s : State) (w : World) (did : Step) (i : Input) (o p : Option File) → is_served_in w.server i ≡ false
    → LinesAre IsSteady (table.server_goes s w did i o p)
server_plain s w did i (Some f) (Some g) no_ = (
  first_plain s w.server did f g i no_,
  notes_plain (after_all s (table.at_first s w.server did f g i)) w f g i did.sends did.notes no_,
)
server_plain s w did i (Some f) None no_ = tt
server_plain s w did i None p no_ = tt

-- ---- a new request

module _ (w : World) (f g : File) (i : Input) where
  -- the machine behind what is sent, before which it was s
  abbrev sent_behind : State → List Outgoing → State
  sent_behind s os = after_all s (joined (table.sends_all s w.server g i os))

  one_sent : (s : State) (o : Outgoing) (os : List Outgoing)
      → sent_behind s (o ∷ os) ≡ sent_behind (after_all s (table.sent s w.server g i o)) os
  unfolding table.sends_all
  one_sent s o os = after_both s (table.sent s w.server g i o)
      (joined (table.sends_all (after_all s (table.sent s w.server g i o)) w.server g i os))

  -- commands and recalls have no event, and the answer stands last
  pub answer_last : (s : State) (os : List Outgoing) (a : Answer) → AnswersOnly Never os
      → sent_behind s (os ++ Answers a ∷ []) ≡ after_all s (table.answered_to s w.server g a i)
  unfolding table.sends_all
  answer_last s [] a none = one_sent s (Answers a) []
  answer_last s (ToDrive d c ∷ os) a none = one_sent s (ToDrive d c) (os ++ Answers a ∷ []) ∙ answer_last s os a none
  answer_last s (Recalls r ∷ os) a none = one_sent s (Recalls r) (os ++ Answers a ∷ []) ∙ answer_last s os a none
  answer_last s (Answers b ∷ os) a none = absurd none.0
  answer_last s (AnswersOrder b ∷ os) a none = one_sent s (AnswersOrder b) (os ++ Answers a ∷ []) ∙ answer_last s os a none

  -- the machine behind the notes
  unfoldable noted_behind : State → List Note → State
  noted_behind s [] = s
  noted_behind s (n ∷ ns) = noted_behind (after_all s (table.noted s w f i n)) ns

  noted_stays : (s : State) (ns : List Note) → SteadyStays s (noted_behind s ns)
  unfolding noted_behind
  noted_stays s [] = steady_same s
  noted_stays s (n ∷ ns) =
      steady_more s (after_all s (table.noted s w f i n)) (noted_behind (after_all s (table.noted s w f i n)) ns)
      (steady_stays s (table.noted s w f i n) (noted_plain s w f i n))
      (noted_stays (after_all s (table.noted s w f i n)) ns)

  notes_behind : (s : State) (os : List Outgoing) (ns : List Note)
      → after_all s (joined (table.notes_all s w f g i os ns)) ≡ sent_behind (noted_behind s ns) os
  unfolding table.notes_all noted_behind
  notes_behind s os [] = refl
  notes_behind s os (n ∷ ns) =
      after_both s (table.noted s w f i n)
      (joined (table.notes_all (after_all s (table.noted s w f i n)) w f g i os ns))
      ∙ notes_behind (after_all s (table.noted s w f i n)) os ns

  -- So a step whose answer stands last goes from its first line over events of no request to its answer.
  pub answered_behind : (s : State) (did : Step) (os : List Outgoing) (a : Answer) → AnswersOnly Never os
      → did.sends ≡ os ++ Answers a ∷ []
      → (u : State) × SteadyStays (after_all s (table.at_first s w.server did f g i)) u
      × (after_all s (joined (table.server_goes s w did i (Some f) (Some g)))
      ≡ after_all u (table.answered_to u w.server g a i))
  answered_behind s did os a none is =
      let t : State = after_all s (table.at_first s w.server did f g i) in
      let u : State = noted_behind t did.notes in (
        u,
        noted_stays t did.notes,
        after_both s (table.at_first s w.server did f g i) (joined (table.notes_all t w f g i did.sends did.notes))
            ∙ notes_behind t did.sends did.notes ∙ ap (λ (l : List Outgoing). sent_behind u l) is
            ∙ answer_last u os a none,
      )

-- what a taken report adds is of no request
pub loss_plain : (s : State) (c : ℕ) (a : Answer) → Plain (where_so (is_loss_taken a) (table.loss_answered s c))
loss_plain s c a =
    where_all IsSteady (is_loss_taken a) _ (tt, grant_all IsSteady (s.held c) _ (λ x. (tt, tt)))

-- what a commit adds is so too, but for the size
pub committed_plain : (s : State) (c : ℕ) (ok : Bool) → AreAll IsPlain (table.committed s c ok)
committed_plain s c true = grant_all IsPlain (s.outstanding c) _ (λ x. (tt, tt))
committed_plain s c false = (tt, tt)
