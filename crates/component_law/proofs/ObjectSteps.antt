-- Each step of the server keeps the owners of the object numbers that were used, and gives new ones to one file each.
use Rattle.std.proofs.Common.{◌≡◌, ◌==◌, ◌&&◌, ℕ, ◌+◌, ◌<◌, ◌≤◌, nat_le, nat_lt, Bool, true, false, List, [], ◌∷◌, length, find, Option, Some, None, refl, sym, subst, ◌∙◌, arith, inl, inr, lt-ltb, le-ltb, if◌then◌else◌}
use Rattle.osd_lists.specs.declared.node.Node.{Node}
use Rattle.osd_lists.specs.declared.node.Node.TheVariants.{Server as FromServer, Client as FromClient, Drive as FromDrive}
use Rattle.data_map.specs.declared.check.RawMap.{RawMap}
use Rattle.server_rules.specs.declared.limits.TheConstants.{GREATEST_TAG, MAX_CLIENT}
use Rattle.server_rules.specs.Laws.{In}
use Rattle.server_rules.specs.Going.{Going, noting}
use Rattle.server_rules.specs.Get.{lowest}
use Rattle.server_rules.specs.Files.{Step, still, begins, at_file, step_at, file_at, put_file}
use Rattle.server_rules.specs.Slots.{Admit, New, Again, Misordered, admit, slot_of}
use Rattle.server_rules.specs.Requests.{serves, carried_out, carries_out, by_admit, on_request}
use Rattle.server_rules.specs.Replies.{answers, hearing, heard_by, heard_in, on_reply}
use Rattle.server_rules.specs.Messages.{Message, Asks, Replies, Orders, or_else, heard_at, by_heard, on_drive_reply, handled, on_message, counters_have_room}
use Rattle.server_rules.specs.Orders.{Ordered, begins_job, starts, recalls_on, declares_each, with_offline, offline, declare, declares_known, ordered, with_result}
use Rattle.server_rules.specs.Openings.{crashed_file, opens, opens_each, reopen}
use Rattle.server_rules.specs.Rounds.{Round, step_round}
use Rattle.server_rules.specs.Jobs.{declares, fence_begins, making}
use Rattle.server_rules.specs.Making.{components_on, refusal, drives_for, unmade, with_file, makes_file, unless_refused, create_file}
use Rattle.server_rules.specs.History.{Input, Hears, Makes, Obeys, Adds, Zones, Formats, Resends, Crashes, Opens, step, unless_made}
use Rattle.server_rules.proofs.Members.{in_mapped}
use Rattle.history_law.specs.Names.{Server, File, Kept, Target, Drive, Job, JobKind, Revoking, Rebuilding, Auditing, Effects, Reply, ClientRequest, Awaited, Refusal, OrderKind, ToRecall, ToRevoke, ToDeclare, ToRebuild, ToAudit, Busy, Spent}
use Rattle.history_law.proofs.JobFiles.{found_file, in_put, in_add, add_there}
use Rattle.component_law.specs.Objects.{target_of, IsOwned, AreOwned}
use Rattle.component_law.proofs.SentNumbers.{in_new, new_differ}
use Rattle.component_law.proofs.ObjectJobs.{Lasts, Ends, objects_walked}
use Rattle.component_law.proofs.Walking.{IsWalked, ends_making, ends_fence, ends_hears, ends_declares, ends_opens, ends_serves}
use Rattle.component_law.proofs.Ends.{IsAim}

-- ---- owners

-- numbers from n on are this file's
unfoldable pub with_owner : (ℕ → ℕ) → (n number : ℕ) → ℕ → ℕ
with_owner owner n number o = if nat_lt o n then owner o else number

pub owner_below : (owner : ℕ → ℕ) (n number o : ℕ) → o < n → with_owner owner n number o ≡ owner o
unfolding with_owner
owner_below owner n number o less = rw (lt-ltb o n less) refl

pub owner_from : (owner : ℕ → ℕ) (n number o : ℕ) → n ≤ o → with_owner owner n number o ≡ number
unfolding with_owner
owner_from owner n number o from = rw (le-ltb o n from) refl

-- the owners below a number are the same
abbrev pub Agree : (owner later : ℕ → ℕ) → (next : ℕ) → Type 0
Agree owner later next = (o : ℕ) → o < next → later o ≡ owner o

pub owned_later : (owner later : ℕ → ℕ) (n m : ℕ) (f : File) → Agree owner later n → n ≤ m → IsOwned owner n f
    → IsOwned later m f
owned_later owner later n m f agree le h = record {
  components = λ o i. let r = h.components o i in (omega (arith, r.0, le), agree o r.0 ∙ r.1);
  target = λ t e. let r = h.target t e in (omega (arith, r.0, le), agree t.object r.0 ∙ r.1);
  differ = h.differ;
  apart = h.apart;
}

-- ---- a step at a file

module _ (owner : ℕ → ℕ) (n number : ℕ) where
  abbrev Mine : ℕ → Type 0
  Mine o = with_owner owner n number o ≡ number

  mine_fresh : (o : ℕ) → n ≤ o → Mine o
  mine_fresh o from = owner_from owner n number o from

  abbrev Stay : List Drive → (next : ℕ) → Kept → Option Target → Type 0
  Stay = Lasts Mine number n

  walked : IsWalked Stay
  walked = objects_walked Mine number n mine_fresh

  -- in the middle of a step
  into : (g : Going) → g.effects.object ≡ n → g.file.kept.number ≡ number → IsOwned owner n g.file
      → Ends Mine number n g
  into g at is h = (
    (
      is,
      omega (arith, at),
      λ o i.
          let r = h.components o i in
          (owner_below owner n number o r.0 ∙ r.1 ∙ is, subst (λ (m : ℕ). o < m) (sym at) r.0),
      h.differ,
    ),
    aims (target_of g.file.job) refl,
  )
    where
      aims : (o : Option Target) → target_of g.file.job ≡ o → IsAim Mine g.effects.object g.file.kept.components o
      aims None e = tt
      aims (Some t) e =
          let r = h.target t e in (
            (owner_below owner n number t.object r.0 ∙ r.1 ∙ is, subst (λ (m : ℕ). t.object < m) (sym at) r.0),
            h.apart t e,
          )

  -- and behind it
  out : (g : Going) → Ends Mine number n g → IsOwned (with_owner owner n number) g.effects.object g.file
  out g h = record {
    components = λ o i. let r = h.0.2 o i in (r.1, r.0 ∙ sym h.0.0);
    target = λ t e.
        let a = subst (IsAim Mine g.effects.object g.file.kept.components) e h.1 in (a.0.1, a.0.0 ∙ sym h.0.0);
    differ = h.0.3;
    apart = λ t e. (subst (IsAim Mine g.effects.object g.file.kept.components) e h.1).1;
  }

-- ---- a step

-- by some owners that agree with the former
pub record Keeps (owner : ℕ → ℕ) (s : Server) (t : Server) : Type 0 where
  pub later : ℕ → ℕ
  pub agree : Agree owner later s.next_object
  pub rises : s.next_object ≤ t.next_object
  pub owned : AreOwned later t

-- it keeps that
pub record Steps (s : Server) (t : Step) : Type 0 where
  pub keeps : (owner : ℕ → ℕ) → AreOwned owner s → Keeps owner s t.state

-- the files stay, or lose their jobs
idle : (s : Server) (t : Step) → t.state.next_object ≡ s.next_object
    → ((f : File) → In f t.state.files → In f s.files) → Steps s t
idle s t next files = record {
  keeps = λ owner h. record {
    later = owner;
    agree = λ o less. refl;
    rises = omega (arith, next);
    owned = λ f i. subst (λ (m : ℕ). IsOwned owner m f) (sym next) (h f (files f i));
  };
}

stays : (s : Server) → Steps s (still s)
stays s = idle s (still s) refl (λ f i. i)

either_step : (s : Server) (b : Bool) (x y : Step) → Steps s x → Steps s y → Steps s (if b then x else y)
either_step s true x y p q = p
either_step s false x y p q = q

-- one file goes on
goes_at : (s : Server) (number : ℕ) (f : File) (h : Going) (t : Step) → In f s.files
    → t.state.files ≡ put_file s.files number h.file → t.state.next_object ≡ h.effects.object
    → ((owner : ℕ → ℕ) → IsOwned owner s.next_object f
    → Ends (Mine owner s.next_object f.kept.number) f.kept.number s.next_object h) → Steps s t
goes_at s number f h t i files next ends = record {
  keeps = λ owner own.
      let e = ends owner (own f i) in
      record {
        later = with_owner owner s.next_object f.kept.number;
        agree = λ o less. owner_below owner s.next_object f.kept.number o less;
        rises = omega (arith, next, e.0.1);
        owned = λ x j. elim (in_put s.files number h.file x (subst (In x) files j)) [
          | inl same ↦
              subst (λ (y : File). IsOwned (with_owner owner s.next_object f.kept.number) t.state.next_object y)
              (sym same)
              (subst (λ (m : ℕ). IsOwned (with_owner owner s.next_object f.kept.number) m h.file) (sym next)
              (out owner s.next_object f.kept.number h e))
          | inr k ↦
              owned_later owner (with_owner owner s.next_object f.kept.number) s.next_object t.state.next_object x
              (λ o less. owner_below owner s.next_object f.kept.number o less) (omega (arith, next, e.0.1)) (own x k)
        ];
      };
}

begun : (s : Server) (chosen : List ℕ) (f : File) (owner : ℕ → ℕ) → IsOwned owner s.next_object f
    → Ends (Mine owner s.next_object f.kept.number) f.kept.number s.next_object (at_file s chosen f)
begun s chosen f owner h = into owner s.next_object f.kept.number (at_file s chosen f) refl refl h

-- ---- a request

carries : (s : Server) (now : ℕ) (chosen : List ℕ) (q : ClientRequest) (o : Option File) → file_at s.files q.file ≡ o
    → Steps s (carries_out s now chosen q o)
carries s now chosen q None e = idle s _ refl (λ f i. i)
carries s now chosen q (Some f) e =
    let found = found_file s.files q.file f e in
    let v = serves (at_file s chosen f) s.next_grant s.format now q.client q.args in
    goes_at s q.file f v.going (carried_out s q v) found.0 refl refl (λ owner h.
    ends_serves (Stay owner s.next_object f.kept.number) (walked owner s.next_object f.kept.number) (at_file s chosen f)
    s.next_grant s.format now q.client q.args
    (begun s chosen f owner h))

admitted : (s : Server) (now : ℕ) (chosen : List ℕ) (q : ClientRequest) (a : Admit) → Steps s (by_admit s now chosen q a)
admitted s now chosen q New = carries s now chosen q (file_at s.files q.file) refl
admitted s now chosen q (Again kept) = idle s _ refl (λ f i. i)
admitted s now chosen q (Misordered expected) = idle s _ refl (λ f i. i)

asked : (s : Server) (now : ℕ) (chosen : List ℕ) (q : ClientRequest) → Steps s (on_request s now chosen q)
unfolding on_request
asked s now chosen q = admitted s now chosen q (admit (slot_of s.slots q.client) q.sequence)

-- ---- a reply

-- a file goes on by it, if any
abbrev HeardBy : Server → Option Going → Type 0
HeardBy s None = Unit {0}
HeardBy s (Some h) =
    (f : File) × In f s.files
    × ((owner : ℕ → ℕ) → IsOwned owner s.next_object f
    → Ends (Mine owner s.next_object f.kept.number) f.kept.number s.next_object h)

heard_one : (s : Server) (chosen : List ℕ) (r : Reply) (f : File) (j : Job) (o : Option Awaited) → In f s.files
    → f.job ≡ Some j → HeardBy s (heard_by (at_file s chosen f) r j o)
heard_one s chosen r f j None i is = tt
heard_one s chosen r f j (Some a) i is = (
  f,
  i,
  λ owner h.
      ends_hears (Stay owner s.next_object f.kept.number) (walked owner s.next_object f.kept.number) (at_file s chosen f) j a r
      (hearing (at_file s chosen f).file.kept a r) is (begun s chosen f owner h),
)

heard_file : (s : Server) (chosen : List ℕ) (drive : ℕ) (r : Reply) (f : File) (o : Option Job) → In f s.files
    → f.job ≡ o → HeardBy s (heard_in (at_file s chosen f) drive r o)
heard_file s chosen drive r f None i is = tt
heard_file s chosen drive r f (Some j) i is = heard_one s chosen r f j (find (answers drive r) j.awaited) i is

heard_reply : (s : Server) (chosen : List ℕ) (drive : ℕ) (r : Reply) (f : File) → In f s.files
    → HeardBy s (on_reply (at_file s chosen f) drive r)
unfolding on_reply
heard_reply s chosen drive r f i = heard_file s chosen drive r f f.job i refl

first_heard : (s : Server) (a b : Option Going) → HeardBy s a → HeardBy s b → HeardBy s (or_else a b)
first_heard s None b h k = k
first_heard s (Some g) b h k = h

all_heard : (s : Server) (chosen : List ℕ) (drive : ℕ) (r : Reply) (fs : List File)
    → ((f : File) → In f fs → In f s.files) → HeardBy s (heard_at s chosen drive r fs)
unfolding heard_at
all_heard s chosen drive r [] there = tt
all_heard s chosen drive r (f ∷ fs) there =
    first_heard s (on_reply (at_file s chosen f) drive r) _ (heard_reply s chosen drive r f (there f (inl refl)))
    (all_heard s chosen drive r fs (λ x i. there x (inr i)))

by_reply : (s : Server) (o : Option Going) → HeardBy s o → Steps s (by_heard s o)
by_reply s None h = stays s
by_reply s (Some g) h = goes_at s g.file.kept.number h.0 g (step_at s g.file.kept.number g) h.1 refl refl h.2

replied : (s : Server) (chosen : List ℕ) (drive : ℕ) (r : Reply) → Steps s (on_drive_reply s chosen drive r)
unfolding on_drive_reply
replied s chosen drive r = by_reply s _ (all_heard s chosen drive r s.files (λ f i. i))

-- ---- orders

either_order : (s : Server) (b : Bool) (x y : Ordered) → Steps s x.step → Steps s y.step
    → Steps s (if b then x else y).step
either_order s true x y p q = p
either_order s false x y p q = q

job_begun : (s : Server) (chosen : List ℕ) (kind : JobKind) (f : File) (j : Option Job) → In f s.files
    → Steps s (begins_job s chosen kind f j).step
job_begun s chosen kind f (Some j) i =
    goes_at s f.kept.number f (noting (at_file s chosen f) (Busy (lowest j.awaited))) _ i refl refl
    (λ owner h. begun s chosen f owner h)
job_begun s chosen kind f None i =
    either_order s (f.kept.tag == GREATEST_TAG) _ _
    (goes_at s f.kept.number f (noting (at_file s chosen f) Spent) _ i refl refl (λ owner h. begun s chosen f owner h))
    (goes_at s f.kept.number f (fence_begins kind s.format (at_file s chosen f)) _ i refl refl (λ owner h.
    ends_fence (Stay owner s.next_object f.kept.number) (walked owner s.next_object f.kept.number) kind s.format
    (at_file s chosen f) ((begun s chosen f owner h).0, tt)))

started : (s : Server) (chosen : List ℕ) (kind : JobKind) (n : ℕ) (o : Option File) → file_at s.files n ≡ o
    → Steps s (starts s chosen kind o).step
started s chosen kind n None e = stays s
started s chosen kind n (Some f) e = job_begun s chosen kind f f.job (found_file s.files n f e).0

recalled : (s : Server) (o : Option File) → Steps s (recalls_on s o).step
recalled s None = stays s
recalled s (Some f) = idle s _ refl (λ x i. i)

-- ---- all files, in order

record KeepsAll (owner : ℕ → ℕ) (next : ℕ) (r : Round) : Type 0 where
  later : ℕ → ℕ
  agree : Agree owner later next
  rises : next ≤ r.effects.object
  owned : (f : File) → In f r.files → IsOwned later r.effects.object f

no_files : (owner : ℕ → ℕ) (m : Effects) (chosen : List ℕ)
    → KeepsAll owner m.object (record { files = []; effects = m; chosen = chosen })
no_files owner m chosen = record {
  later = owner;
  agree = λ o less. refl;
  rises = omega arith;
  owned = λ f i. absurd i;
}

-- the first file goes on, and then the others
then_all : (owner : ℕ → ℕ) (n : ℕ) (f : File) (h : Going) (r : Round)
    → Ends (Mine owner n f.kept.number) f.kept.number n h
    → KeepsAll (with_owner owner n f.kept.number) h.effects.object r
    → KeepsAll owner n (record r { files = h.file ∷ r.files })
then_all owner n f h r e k = record {
  later = k.later;
  agree =
      λ o less. k.agree o (omega (arith, less, e.0.1)) ∙ owner_below owner n f.kept.number o less;
  rises = omega (arith, e.0.1, k.rises);
  owned = λ x i. elim i [
    | inl same ↦
        subst (IsOwned k.later r.effects.object) (sym same)
        (owned_later (with_owner owner n f.kept.number) k.later h.effects.object r.effects.object h.file k.agree k.rises
        (out owner n f.kept.number h e))
    | inr j ↦ k.owned x j
  ];
}

others_owned : (owner : ℕ → ℕ) (n number m : ℕ) (fs : List File) → n ≤ m
    → ((f : File) → In f fs → IsOwned owner n f) → (f : File) → In f fs → IsOwned (with_owner owner n number) m f
others_owned owner n number m fs le own f i =
    owned_later owner (with_owner owner n number) n m f (λ o less. owner_below owner n number o less) le (own f i)

declared_each : (drive : ℕ) (ds : List Drive) (fs : List File) (m : Effects) (chosen : List ℕ) (owner : ℕ → ℕ)
    → ((f : File) → In f fs → IsOwned owner m.object f) → KeepsAll owner m.object (declares_each drive ds fs m chosen)
unfolding declares_each
declared_each drive ds [] m chosen owner own = no_files owner m chosen
declared_each drive ds (f ∷ fs) m chosen owner own =
    let g : Going = record { file = f; effects = m; drives = ds; chosen = chosen } in
    let h : Going = declares g drive in
    let e = ends_declares (Stay owner m.object f.kept.number) (walked owner m.object f.kept.number) g drive
    (into owner m.object f.kept.number g refl refl (own f (inl refl))) in
    then_all owner m.object f h _ e
    (declared_each drive ds fs h.effects h.chosen (with_owner owner m.object f.kept.number)
    (others_owned owner m.object f.kept.number h.effects.object fs e.0.1 (λ x i. own x (inr i))))

opened_each : (format : ℕ) (ds : List Drive) (fs : List File) (m : Effects) (owner : ℕ → ℕ)
    → ((f : File) → In f fs → IsOwned owner m.object f) → KeepsAll owner m.object (opens_each format ds fs m)
unfolding opens_each
opened_each format ds [] m owner own = no_files owner m []
opened_each format ds (f ∷ fs) m owner own =
    let g : Going = record { file = f; effects = m; drives = ds; chosen = [] } in
    let h : Going = opens format g in
    let e = ends_opens (Stay owner m.object f.kept.number) (walked owner m.object f.kept.number) format g
    (into owner m.object f.kept.number g refl refl (own f (inl refl))) in
    then_all owner m.object f h _ e
    (opened_each format ds fs h.effects (with_owner owner m.object f.kept.number)
    (others_owned owner m.object f.kept.number h.effects.object fs e.0.1 (λ x i. own x (inr i))))

round_keeps : (owner : ℕ → ℕ) (s t : Server) (r : Round) → KeepsAll owner s.next_object r
    → Keeps owner s (step_round t r).state
round_keeps owner s t r k = record { later = k.later; agree = k.agree; rises = k.rises; owned = k.owned }

declared : (s : Server) (chosen : List ℕ) (n : ℕ) (b : Bool) → Steps s (declares_known s chosen n b).step
unfolding declare
declared s chosen n false = stays s
declared s chosen n true = record {
  keeps = λ owner own.
      round_keeps owner s (with_offline s n) _
      (declared_each n (offline s.drives n) s.files (begins s) chosen owner own);
}

obeyed : (s : Server) (chosen : List ℕ) (kind : OrderKind) (n : ℕ) → Steps s (ordered s chosen kind n).step
unfolding ordered
obeyed s chosen ToRecall n = recalled s (file_at s.files n)
obeyed s chosen ToRevoke n = started s chosen Revoking n (file_at s.files n) refl
obeyed s chosen ToDeclare n = declared s chosen n _
obeyed s chosen ToRebuild n = started s chosen Rebuilding n (file_at s.files n) refl
obeyed s chosen ToAudit n = started s chosen Auditing n (file_at s.files n) refl

-- with the order's answer behind
answered : (s : Server) (kind : OrderKind) (o : Ordered) → Steps s o.step → Steps s (with_result kind o)
answered s kind o k = record {
  keeps = λ owner own.
      let x = k.keeps owner own in record { later = x.later; agree = x.agree; rises = x.rises; owned = x.owned };
}

-- ---- a message

heard_message : (s : Server) (now : ℕ) (chosen : List ℕ) (from : Node) (m : Message)
    → Steps s (handled s now chosen from m)
heard_message s now chosen (FromClient c) (Asks q) =
    either_step s ((q.client == c) && nat_le c MAX_CLIENT) _ _ (asked s now chosen q) (stays s)
heard_message s now chosen (FromDrive d) (Replies r) = replied s chosen d r
heard_message s now chosen FromServer (Orders o) = answered s o.order _ (obeyed s chosen o.order o.target)
heard_message s now chosen from m = stays s

-- ---- making, crashing, opening

-- a file that isn't made yet has numbers of its own
new_owned : (s : Server) (number : ℕ) (m : RawMap) (tag : ℕ) (zoned : Bool) (ds : List ℕ) (owner : ℕ → ℕ)
    → IsOwned (with_owner owner s.next_object number) (s.next_object + length (components_on ds s.next_object))
    (unmade s number m tag zoned ds)
new_owned s number m tag zoned ds owner = record {
  components = λ o i.
      let r = in_new ds s.next_object o i in (r.1, owner_from owner s.next_object number o r.0);
  target = λ t e. absurd (cc e);
  differ = new_differ ds s.next_object;
  apart = λ t e. absurd (cc e);
}

-- the server with the file
with_keeps : (s : Server) (number : ℕ) (m : RawMap) (tag : ℕ) (zoned : Bool) (ds : List ℕ) (owner : ℕ → ℕ) → AreOwned owner s
    → Keeps owner s (with_file s (unmade s number m tag zoned ds))
with_keeps s number m tag zoned ds owner own = record {
  later = with_owner owner s.next_object number;
  agree = λ o less. owner_below owner s.next_object number o less;
  rises = omega arith;
  owned = λ x i. elim (in_add s.files (unmade s number m tag zoned ds) x i) [
    | inl same ↦
        subst (IsOwned (with_owner owner s.next_object number) (s.next_object + length (components_on ds
        s.next_object))) (sym same) (new_owned s number m tag zoned ds owner)
    | inr j ↦
        owned_later owner (with_owner owner s.next_object number) s.next_object _ x
        (λ o less. owner_below owner s.next_object number o less) (omega arith) (own x j)
  ];
}

-- one step behind another
keeps_then : (owner : ℕ → ℕ) (s t u : Server) (k : Keeps owner s t) → Keeps k.later t u → Keeps owner s u
keeps_then owner s t u k l = record {
  later = l.later;
  agree = λ o less. l.agree o (omega (arith, less, k.rises)) ∙ k.agree o less;
  rises = omega (arith, k.rises, l.rises);
  owned = l.owned;
}

made : (s : Server) (number : ℕ) (m : RawMap) (tag : ℕ) (zoned : Bool) (ds : List ℕ)
    → Steps s (makes_file s (unmade s number m tag zoned ds))
made s number m tag zoned ds =
    let f : File = unmade s number m tag zoned ds in
    let t : Server = with_file s f in
    let goes : Steps t (makes_file s f) =
    goes_at t number f (making (at_file t [] f)) (makes_file s f) (add_there s.files f) refl refl (λ o h.
    ends_making (Stay o t.next_object number) (walked o t.next_object number) (at_file t [] f)
    ((begun t [] f o h).0, tt)) in
    record {
      keeps = λ owner own.
          let k = with_keeps s number m tag zoned ds owner own in
          keeps_then owner s t (makes_file s f).state k (goes.keeps k.later k.owned);
    }

unless : (s : Server) (number : ℕ) (m : RawMap) (tag : ℕ) (zoned : Bool) (ds : List ℕ) (r : Option Refusal)
    → Steps s (unless_made s (unless_refused r (makes_file s (unmade s number m tag zoned ds))))
unless s number m tag zoned ds None = made s number m tag zoned ds
unless s number m tag zoned ds (Some why) = stays s

crashed : (s : Server) (chosen : List ℕ) → Steps s (step s chosen Crashes)
crashed s chosen = record {
  keeps = λ owner own. record {
    later = owner;
    agree = λ o less. refl;
    rises = omega arith;
    owned = λ f i.
        let r = in_mapped crashed_file f s.files i in
        let h = own r.0 r.1 in
        subst (IsOwned owner s.next_object) (sym r.2) (record {
          components = h.components;
          target = λ t e. absurd (cc e);
          differ = h.differ;
          apart = λ t e. absurd (cc e);
        });
  };
}

-- ---- any step

pub step_owns : (s : Server) (chosen : List ℕ) (i : Input) → Steps s (step s chosen i)
unfolding on_message create_file reopen
step_owns s chosen (Hears now from m) =
    either_step s (counters_have_room s) _ _ (heard_message s now chosen from m) (stays s)
step_owns s chosen (Makes n m tag zoned) = unless s n m tag zoned (drives_for zoned s.drives m chosen) (refusal s n m zoned)
step_owns s chosen (Obeys kind n) = obeyed s chosen kind n
step_owns s chosen (Adds d) = idle s _ refl (λ f i. i)
step_owns s chosen (Zones d zone) = idle s _ refl (λ f i. i)
step_owns s chosen (Formats n) = idle s _ refl (λ f i. i)
step_owns s chosen Resends = idle s _ refl (λ f i. i)
step_owns s chosen Crashes = crashed s chosen
step_owns s chosen Opens =
    either_step s (counters_have_room s) _ _
    (record {
      keeps = λ owner own.
          round_keeps owner s s _ (opened_each s.format s.drives s.files (begins s) owner own);
    }) (stays s)
