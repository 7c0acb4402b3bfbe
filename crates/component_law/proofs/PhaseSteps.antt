-- What each request, reply and order leaves of files, and of what was sent.
use Rattle.std.proofs.Common.{◌≡◌, ◌==◌, ◌&&◌, ℕ, ◌≤◌, ◌⊎◌, nat_le, Bool, true, false, List, [], ◌∷◌, find, Option, Some, None, refl, sym, subst, ◌∙◌, arith, inl, inr, if◌then◌else◌}
use Rattle.osd_lists.specs.declared.node.Node.{Node}
use Rattle.osd_lists.specs.declared.node.Node.TheVariants.{Server as FromServer, Client as FromClient, Drive as FromDrive}
use Rattle.server_rules.specs.declared.limits.TheConstants.{GREATEST_TAG, MAX_CLIENT}
use Rattle.server_rules.specs.Answers.{recalls_from}
use Rattle.server_rules.specs.Laws.{In}
use Rattle.server_rules.specs.Going.{Going, noting}
use Rattle.server_rules.specs.Get.{lowest}
use Rattle.server_rules.specs.Files.{begins, at_file, step_at, file_at, to_drives}
use Rattle.server_rules.specs.Slots.{Admit, New, Again, Misordered, admit, slot_of}
use Rattle.server_rules.specs.Requests.{serves, carried_out, carries_out, by_admit, on_request}
use Rattle.server_rules.specs.Replies.{answers, hearing, heard_by, heard_in, on_reply}
use Rattle.server_rules.specs.Messages.{Message, Asks, Replies, Orders, or_else, heard_at, by_heard, on_drive_reply, handled}
use Rattle.server_rules.specs.Orders.{Ordered, begins_job, starts, recalls_on, declares_each, with_offline, offline, declare, declares_known, ordered, with_result}
use Rattle.server_rules.specs.Openings.{opens, opens_each}
use Rattle.server_rules.specs.Rounds.{Round, step_round}
use Rattle.server_rules.specs.Jobs.{declares, fence_begins}
use Rattle.server_rules.proofs.Members.{in_either}
use Rattle.history_law.specs.Names.{Command, ToDrive, Server, File, Drive, Job, JobKind, Revoking, Rebuilding, Auditing, Effects, Reply, ClientRequest, Awaited, OrderKind, ToRecall, ToRevoke, ToDeclare, ToRebuild, ToAudit, Busy, Spent}
use Rattle.history_law.proofs.JobFiles.{found_file, in_drives}
use Rattle.history_law.proofs.JobSteps.{no_answer, no_recall}
use Rattle.component_law.proofs.ObjectSteps.{Agree, with_owner, owner_below}
use Rattle.component_law.proofs.Ends.{Ends}
use Rattle.component_law.proofs.PhaseJobs.{ends_fence, ends_hears, ends_declares, ends_opens}
use Rattle.component_law.proofs.PhaseServing.{ends_served}
use Rattle.component_law.proofs.Going.{IsFine, mine_later, fine_later, Mine, mine_fresh, into, out, IsFrom, IsSent, Keeps, Steps, idle, stays, either_step, goes_at, begun}

-- ---- a request

pub carries : (s : Server) (now : ℕ) (chosen : List ℕ) (q : ClientRequest) (o : Option File) → file_at s.files q.file ≡ o
    → Steps s (carries_out s now chosen q o)
carries s now chosen q None e = idle s _ refl refl (λ owner h drive c i. absurd (no_answer _ drive c i))
carries s now chosen q (Some f) e =
    let found = found_file s.files q.file f e in
    let v = serves (at_file s chosen f) s.next_grant s.format now q.client q.args in
    goes_at s q.file f v.going (carried_out s q v) found.0 refl refl (λ e. found.1)
    (λ drive c i. elim (in_either (ToDrive drive c) (to_drives s.drives v.going.effects.sent) _ i) [
      | inl j ↦ j
      | inr j ↦ elim (in_either (ToDrive drive c) (recalls_from s.next_recall v.recalled) _ j) [
        | inl k ↦ absurd (no_recall s.next_recall v.recalled drive c k)
        | inr k ↦ absurd (no_answer _ drive c k)
      ]
    ])
    (λ owner h.
    ends_served (Mine owner s.next_object f.kept.number) f.kept.number s.next_object
    (mine_fresh owner s.next_object f.kept.number) f.kept [] (at_file s chosen f) s.next_grant s.format now q.client q.args
    (begun s chosen f owner h))

pub admitted : (s : Server) (now : ℕ) (chosen : List ℕ) (q : ClientRequest) (a : Admit) → Steps s (by_admit s now chosen q a)
admitted s now chosen q New = carries s now chosen q (file_at s.files q.file) refl
admitted s now chosen q (Again kept) = idle s _ refl refl (λ owner h drive c i. absurd (no_answer _ drive c i))
admitted s now chosen q (Misordered expected) =
    idle s _ refl refl (λ owner h drive c i. absurd (no_answer _ drive c i))

pub asked : (s : Server) (now : ℕ) (chosen : List ℕ) (q : ClientRequest) → Steps s (on_request s now chosen q)
unfolding on_request
asked s now chosen q = admitted s now chosen q (admit (slot_of s.slots q.client) q.sequence)

-- ---- a reply

-- a file goes on by it, if any
abbrev pub HeardBy : Server → Option Going → Type 0
HeardBy s None = Unit {0}
HeardBy s (Some h) =
    (f : File) × In f s.files
    × ((owner : ℕ → ℕ) → IsFine owner s.next_object f
    → Ends (Mine owner s.next_object f.kept.number) f.kept.number s.next_object f.kept [] h)

pub found_in : (p : Awaited → Bool) (ws : List Awaited) (a : Awaited) → find p ws ≡ Some a → In a ws
found_in p [] a e = absurd (cc e)
found_in p (x ∷ ws) a e = either (p x) (found_in p ws a) e
  where
    same : Some x ≡ Some a → x ≡ a
    same f = cc f

    either : (b : Bool) → (find p ws ≡ Some a → In a ws) → (if b then Some x else find p ws) ≡ Some a → In a (x ∷ ws)
    either true rest f = inl (sym (same f))
    either false rest f = inr (rest f)

pub heard_one : (s : Server) (chosen : List ℕ) (drive : ℕ) (r : Reply) (f : File) (j : Job) (o : Option Awaited)
    → In f s.files → f.job ≡ Some j → find (answers drive r) j.awaited ≡ o
    → HeardBy s (heard_by (at_file s chosen f) r j o)
heard_one s chosen drive r f j None i is found = tt
heard_one s chosen drive r f j (Some a) i is found = (
  f,
  i,
  λ owner h.
      ends_hears (Mine owner s.next_object f.kept.number) f.kept.number s.next_object
      (mine_fresh owner s.next_object f.kept.number) f.kept [] (at_file s chosen f) j a r
      (hearing (at_file s chosen f).file.kept a r) is (found_in (answers drive r) j.awaited a found)
      (begun s chosen f owner h),
)

pub heard_file : (s : Server) (chosen : List ℕ) (drive : ℕ) (r : Reply) (f : File) (o : Option Job) → In f s.files
    → f.job ≡ o → HeardBy s (heard_in (at_file s chosen f) drive r o)
heard_file s chosen drive r f None i is = tt
heard_file s chosen drive r f (Some j) i is =
    heard_one s chosen drive r f j (find (answers drive r) j.awaited) i is refl

pub heard_reply : (s : Server) (chosen : List ℕ) (drive : ℕ) (r : Reply) (f : File) → In f s.files
    → HeardBy s (on_reply (at_file s chosen f) drive r)
unfolding on_reply
heard_reply s chosen drive r f i = heard_file s chosen drive r f f.job i refl

pub first_heard : (s : Server) (a b : Option Going) → HeardBy s a → HeardBy s b → HeardBy s (or_else a b)
first_heard s None b h k = k
first_heard s (Some g) b h k = h

pub all_heard : (s : Server) (chosen : List ℕ) (drive : ℕ) (r : Reply) (fs : List File)
    → ((f : File) → In f fs → In f s.files) → HeardBy s (heard_at s chosen drive r fs)
unfolding heard_at
all_heard s chosen drive r [] there = tt
all_heard s chosen drive r (f ∷ fs) there =
    first_heard s (on_reply (at_file s chosen f) drive r) _ (heard_reply s chosen drive r f (there f (inl refl)))
    (all_heard s chosen drive r fs (λ x i. there x (inr i)))

pub by_reply : (s : Server) (o : Option Going) → HeardBy s o → Steps s (by_heard s o)
by_reply s None h = stays s
by_reply s (Some g) h =
    goes_at s g.file.kept.number h.0 g (step_at s g.file.kept.number g) h.1 refl refl (λ e. sym e) (λ drive c i. i) h.2

pub replied : (s : Server) (chosen : List ℕ) (drive : ℕ) (r : Reply) → Steps s (on_drive_reply s chosen drive r)
unfolding on_drive_reply
replied s chosen drive r = by_reply s _ (all_heard s chosen drive r s.files (λ f i. i))

-- ---- orders

pub either_order : (s : Server) (b : Bool) (x y : Ordered) → Steps s x.step → Steps s y.step
    → Steps s (if b then x else y).step
either_order s true x y p q = p
either_order s false x y p q = q

pub job_begun : (s : Server) (chosen : List ℕ) (kind : JobKind) (f : File) (j : Option Job) → In f s.files
    → Steps s (begins_job s chosen kind f j).step
job_begun s chosen kind f (Some j) i =
    goes_at s f.kept.number f (noting (at_file s chosen f) (Busy (lowest j.awaited))) _ i refl refl
    (λ e. refl) (λ drive c i. i) (λ owner h. begun s chosen f owner h)
job_begun s chosen kind f None i =
    either_order s (f.kept.tag == GREATEST_TAG) _ _
    (goes_at s f.kept.number f (noting (at_file s chosen f) Spent) _ i refl refl (λ e. refl) (λ drive c i. i)
    (λ owner h. begun s chosen f owner h))
    (goes_at s f.kept.number f (fence_begins kind s.format (at_file s chosen f)) _ i refl refl (λ e. refl)
    (λ drive c i. i) (λ owner h.
    ends_fence (Mine owner s.next_object f.kept.number) f.kept.number s.next_object
    (mine_fresh owner s.next_object f.kept.number) f.kept [] kind s.format (at_file s chosen f) (begun s chosen f owner h).0))

pub started : (s : Server) (chosen : List ℕ) (kind : JobKind) (n : ℕ) (o : Option File) → file_at s.files n ≡ o
    → Steps s (starts s chosen kind o).step
started s chosen kind n None e = stays s
started s chosen kind n (Some f) e = job_begun s chosen kind f f.job (found_file s.files n f e).0

pub recalled : (s : Server) (o : Option File) → Steps s (recalls_on s o).step
recalled s None = stays s
recalled s (Some f) = idle s _ refl refl (λ owner h drive c i. absurd (no_recall s.next_recall f.kept.grants drive c i))

-- ---- all files, in order

pub record KeepsAll (owner : ℕ → ℕ) (next : ℕ) (before : List Awaited) (fs : List File) (r : Round) : Type 0 where
  pub later : ℕ → ℕ
  pub agree : Agree owner later next
  pub rises : next ≤ r.effects.object
  pub fine : (f : File) → In f r.files → IsFine later r.effects.object f
  pub from : (x : File) → In x r.files → IsFrom fs x
  pub sent : (a : Awaited) → In a r.effects.sent → In a before ⊎ IsSent later r.effects.object r.files a.command

pub no_files : (owner : ℕ → ℕ) (m : Effects) (chosen : List ℕ)
    → KeepsAll owner m.object m.sent [] (record { files = []; effects = m; chosen = chosen })
no_files owner m chosen = record {
  later = owner;
  agree = λ o less. refl;
  rises = omega arith;
  fine = λ f i. absurd i;
  from = λ x i. absurd i;
  sent = λ a i. inl i;
}

pub from_more : (f : File) (fs : List File) (x : File) → IsFrom fs x → IsFrom (f ∷ fs) x
from_more f fs x r = record { file = r.file; there = inr r.there; number = r.number; behind = r.behind }

pub sent_more : (owner : ℕ → ℕ) (n : ℕ) (f : File) (fs : List File) (c : Command) → IsSent owner n fs c
    → IsSent owner n (f ∷ fs) c
sent_more owner n f fs c r = record { file = r.file; there = inr r.there; used = r.used; behind = r.behind }

-- the first file goes on, and then the others
pub then_all : (owner : ℕ → ℕ) (n : ℕ) (before : List Awaited) (f : File) (fs : List File) (h : Going) (r : Round)
    → Ends (Mine owner n f.kept.number) f.kept.number n f.kept before h
    → KeepsAll (with_owner owner n f.kept.number) h.effects.object h.effects.sent fs r
    → KeepsAll owner n before (f ∷ fs) (record r { files = h.file ∷ r.files })
then_all owner n before f fs h r e k = record {
  later = k.later;
  agree =
      λ o less. k.agree o (omega (arith, less, e.0.1)) ∙ owner_below owner n f.kept.number o less;
  rises = omega (arith, e.0.1, k.rises);
  fine = λ x i. elim i [
    | inl same ↦
        subst (IsFine k.later r.effects.object) (sym same)
        (fine_later (with_owner owner n f.kept.number) k.later h.effects.object r.effects.object h.file k.agree k.rises
        (out owner n f.kept.number f.kept before h e))
    | inr j ↦ k.fine x j
  ];
  from = λ x i. elim i [
    | inl same ↦
        subst (IsFrom (f ∷ fs)) (sym same)
        (record { file = f; there = inl refl; number = sym e.0.0; behind = e.0.4.0 })
    | inr j ↦ from_more f fs x (k.from x j)
  ];
  sent = λ a i. elim (k.sent a i) [
    | inr x ↦ inr (sent_more k.later r.effects.object h.file r.files a.command x)
    | inl j ↦ elim (e.0.4.1 a j) [
      | inl old ↦ inl old
      | inr x ↦
          let y = mine_later (with_owner owner n f.kept.number) k.later h.effects.object r.effects.object h.file k.agree
          k.rises a ((x.0.0 ∙ sym e.0.0, x.0.1), x.1) in
          inr (record { file = h.file; there = inl refl; used = y.0; behind = y.1 })
    ]
  ];
}

pub others_fine : (owner : ℕ → ℕ) (n number m : ℕ) (fs : List File) → n ≤ m
    → ((f : File) → In f fs → IsFine owner n f) → (f : File) → In f fs → IsFine (with_owner owner n number) m f
others_fine owner n number m fs le own f i =
    fine_later owner (with_owner owner n number) n m f (λ o less. owner_below owner n number o less) le (own f i)

pub declared_each : (drive : ℕ) (ds : List Drive) (fs : List File) (m : Effects) (chosen : List ℕ) (owner : ℕ → ℕ)
    → ((f : File) → In f fs → IsFine owner m.object f)
    → KeepsAll owner m.object m.sent fs (declares_each drive ds fs m chosen)
unfolding declares_each
declared_each drive ds [] m chosen owner own = no_files owner m chosen
declared_each drive ds (f ∷ fs) m chosen owner own =
    let g : Going = record { file = f; effects = m; drives = ds; chosen = chosen } in
    let h : Going = declares g drive in
    let e = ends_declares (Mine owner m.object f.kept.number) f.kept.number m.object
    (mine_fresh owner m.object f.kept.number) f.kept m.sent g drive
    (into owner m.object f.kept.number g refl refl (own f (inl refl))) in
    then_all owner m.object m.sent f fs h _ e
    (declared_each drive ds fs h.effects h.chosen (with_owner owner m.object f.kept.number)
    (others_fine owner m.object f.kept.number h.effects.object fs e.0.1 (λ x i. own x (inr i))))

pub opened_each : (format : ℕ) (ds : List Drive) (fs : List File) (m : Effects) (owner : ℕ → ℕ)
    → ((f : File) → In f fs → IsFine owner m.object f) → KeepsAll owner m.object m.sent fs (opens_each format ds fs m)
unfolding opens_each
opened_each format ds [] m owner own = no_files owner m []
opened_each format ds (f ∷ fs) m owner own =
    let g : Going = record { file = f; effects = m; drives = ds; chosen = [] } in
    let h : Going = opens format g in
    let e = ends_opens (Mine owner m.object f.kept.number) f.kept.number m.object
    (mine_fresh owner m.object f.kept.number) f.kept m.sent format g
    (into owner m.object f.kept.number g refl refl (own f (inl refl))) in
    then_all owner m.object m.sent f fs h _ e
    (opened_each format ds fs h.effects (with_owner owner m.object f.kept.number)
    (others_fine owner m.object f.kept.number h.effects.object fs e.0.1 (λ x i. own x (inr i))))

pub round_keeps : (owner : ℕ → ℕ) (s t : Server) (r : Round) → KeepsAll owner s.next_object [] s.files r
    → Keeps owner s.next_object s.files (step_round t r)
round_keeps owner s t r k = record {
  later = k.later;
  agree = k.agree;
  rises = k.rises;
  fine = k.fine;
  from = k.from;
  sent = λ drive c i.
      let x = in_drives t.drives r.effects.sent drive c i in
      elim (k.sent x.0 x.2) [
        | inl none ↦ absurd none
        | inr y ↦
            subst (IsSent k.later r.effects.object r.files) (sym x.1.1)
            (record { file = y.file; there = y.there; used = y.used; behind = y.behind })
      ];
}

pub declared : (s : Server) (chosen : List ℕ) (n : ℕ) (b : Bool) → Steps s (declares_known s chosen n b).step
unfolding declare
declared s chosen n false = stays s
declared s chosen n true = record {
  keeps = λ owner own.
      round_keeps owner s (with_offline s n) _
      (declared_each n (offline s.drives n) s.files (begins s) chosen owner own);
}

pub obeyed : (s : Server) (chosen : List ℕ) (kind : OrderKind) (n : ℕ) → Steps s (ordered s chosen kind n).step
unfolding ordered
obeyed s chosen ToRecall n = recalled s (file_at s.files n)
obeyed s chosen ToRevoke n = started s chosen Revoking n (file_at s.files n) refl
obeyed s chosen ToDeclare n = declared s chosen n _
obeyed s chosen ToRebuild n = started s chosen Rebuilding n (file_at s.files n) refl
obeyed s chosen ToAudit n = started s chosen Auditing n (file_at s.files n) refl

-- with the order's answer behind
pub answered : (s : Server) (kind : OrderKind) (o : Ordered) → Steps s o.step → Steps s (with_result kind o)
answered s kind o k = record {
  keeps = λ owner own.
      let x = k.keeps owner own in
      record {
        later = x.later;
        agree = x.agree;
        rises = x.rises;
        fine = x.fine;
        from = x.from;
        sent = λ drive c i. elim (in_either (ToDrive drive c) o.step.sends _ i) [
          | inl j ↦ x.sent drive c j
          | inr (inl e) ↦ absurd (cc e)
          | inr (inr none) ↦ absurd none
        ];
      };
}

-- ---- a message

pub heard_message : (s : Server) (now : ℕ) (chosen : List ℕ) (from : Node) (m : Message)
    → Steps s (handled s now chosen from m)
heard_message s now chosen (FromClient c) (Asks q) =
    either_step s ((q.client == c) && nat_le c MAX_CLIENT) _ _ (asked s now chosen q) (stays s)
heard_message s now chosen (FromDrive d) (Replies r) = replied s chosen d r
heard_message s now chosen FromServer (Orders o) = answered s o.order _ (obeyed s chosen o.order o.target)
heard_message s now chosen from m = stays s
