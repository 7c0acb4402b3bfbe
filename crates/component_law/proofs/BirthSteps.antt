-- What each request, reply and order leaves of files, and of what was sent.
use Rattle.std.proofs.Common.{◌≡◌, ◌∙◌, ℕ, ◌≤◌, false, List, [], ◌∷◌, refl, sym, subst, arith, inl, inr, Bool}
use Rattle.server_rules.specs.Answers.{recalls_from}
use Rattle.server_rules.specs.Laws.{In}
use Rattle.server_rules.specs.Going.{Going, noting}
use Rattle.server_rules.specs.Files.{Step, still, begins, at_file, step_at, to_drives}
use Rattle.server_rules.specs.Requests.{serves, carried_out}
use Rattle.server_rules.specs.Replies.{answers, hearing}
use Rattle.server_rules.specs.Orders.{declares_each, with_offline, offline, declare}
use Rattle.server_rules.specs.Openings.{crashed_file, crash, opens, opens_each}
use Rattle.server_rules.specs.Rounds.{Round, step_round}
use Rattle.server_rules.specs.Jobs.{declares, fence_begins}
use Rattle.history_law.specs.Names.{Command, ToDrive, Server, File, Drive, Effects, ClientRequest, Awaited, OrderKind}
use Rattle.server_rules.proofs.Members.{in_either, in_mapped}
use Rattle.history_law.proofs.JobFiles.{found_file, in_drives}
use Rattle.history_law.proofs.JobSteps.{no_answer, no_recall}
use Rattle.component_law.proofs.ObjectSteps.{Agree}
use Rattle.component_law.proofs.PhaseSteps.{found_in}
use Rattle.component_law.proofs.BirthEnds.{IsFine, born_later, fine_later, AllSent, Ends, holds_on}
use Rattle.component_law.proofs.BirthJobs.{ends_fence, ends_hears, ends_declares, ends_opens}
use Rattle.component_law.proofs.BirthServing.{ends_served}
use Rattle.component_law.proofs.BirthGoing.{AreFine, sent_of, Keeps, idle, stays, goes_at, begun}
use Rattle.data_map.specs.declared.check.RawMap.{RawMap}
use Rattle.server_rules.specs.History.{Input}
use Rattle.server_rules.specs.Making.{makes_file}
use Rattle.server_rules.specs.Messages.{resend}
use Rattle.world_history.specs.ServerNames.{OrderResult}
use Rattle.history_law.specs.Steps.{answered_file, new_file, with_answer, RequestCases, StepCases}
use Rattle.history_law.proofs.Steps.{each_request}

-- ---- all files, in order

record KeepsAll (birth : ℕ → ℕ) (next : ℕ) (before : List Awaited) (r : Round) : Type 0 where
  later : ℕ → ℕ
  agree : Agree birth later next
  rises : next ≤ r.effects.object
  fine : (f : File) → In f r.files → IsFine later r.effects.object f
  sent : AllSent later r.effects.object before r.effects.sent

-- the first file goes on, and then the others
then_all : (birth : ℕ → ℕ) (n : ℕ) (before : List Awaited) (h : Going) (r : Round) (e : Ends birth n before h)
    → KeepsAll e.0 h.effects.object h.effects.sent r → KeepsAll birth n before (record r { files = h.file ∷ r.files })
then_all birth n before h r e k = record {
  later = k.later;
  agree = λ o less. k.agree o (omega (arith, less, e.2)) ∙ e.1 o less;
  rises = omega (arith, e.2, k.rises);
  fine = λ x i. elim i [
    | inl same ↦
        subst (IsFine k.later r.effects.object) (sym same)
        (fine_later e.0 k.later h.effects.object r.effects.object h.file k.agree k.rises e.3)
    | inr j ↦ k.fine x j
  ];
  sent = λ a i. elim (k.sent a i) [
    | inr x ↦ inr x
    | inl j ↦ elim (e.4 a j) [
      | inl old ↦ inl old
      | inr x ↦
          let c = a.command in
          inr (born_later e.0 k.later h.effects.object r.effects.object c.object c.capability.tag k.agree k.rises x)
    ]
  ];
}

declared_each : (drive : ℕ) (ds : List Drive) (fs : List File) (m : Effects) (chosen : List ℕ) (birth : ℕ → ℕ)
    → ((f : File) → In f fs → IsFine birth m.object f)
    → KeepsAll birth m.object m.sent (declares_each drive ds fs m chosen)
unfolding declares_each
declared_each drive ds [] m chosen birth own = record {
  later = birth;
  agree = λ o less. refl;
  rises = omega arith;
  fine = λ f i. absurd i;
  sent = λ a i. inl i;
}
declared_each drive ds (f ∷ fs) m chosen birth own =
    let g : Going = record { file = f; effects = m; drives = ds; chosen = chosen } in
    let h : Going = declares g drive in
    let w = own f (inl refl) in
    let e : Ends birth m.object m.sent h =
    ends_declares birth m.object m.sent g drive ((refl, w.0, λ a i. inl i, w.3, w.4), w.1, w.2) in
    then_all birth m.object m.sent h _ e
    (declared_each drive ds fs h.effects h.chosen e.0
    (λ x i. fine_later birth e.0 m.object h.effects.object x e.1 e.2 (own x (inr i))))

-- each file that isn't ready has its first tag
abbrev pub HaveFirst : List File → Type 0
HaveFirst fs = (f : File) → In f fs → f.kept.ready ≡ false → f.kept.tag ≡ f.kept.first_tag

opened_each : (format : ℕ) (ds : List Drive) (fs : List File) (m : Effects) (birth : ℕ → ℕ) → HaveFirst fs
    → ((f : File) → In f fs → IsFine birth m.object f) → KeepsAll birth m.object m.sent (opens_each format ds fs m)
unfolding opens_each
opened_each format ds [] m birth first own = record {
  later = birth;
  agree = λ o less. refl;
  rises = omega arith;
  fine = λ f i. absurd i;
  sent = λ a i. inl i;
}
opened_each format ds (f ∷ fs) m birth first own =
    let g : Going = record { file = f; effects = m; drives = ds; chosen = [] } in
    let h : Going = opens format g in
    let w = own f (inl refl) in
    let e : Ends birth m.object m.sent h =
    ends_opens birth m.object m.sent format g (first f (inl refl))
    ((refl, w.0, λ a i. inl i, w.3, w.4), w.1, w.2) in
    then_all birth m.object m.sent h _ e
    (opened_each format ds fs h.effects e.0 (λ x i. first x (inr i))
    (λ x i. fine_later birth e.0 m.object h.effects.object x e.1 e.2 (own x (inr i))))

module _ (birth : ℕ → ℕ) (s : Server) (own : AreFine birth s) where
  abbrev IsKept : Step → Type 0
  IsKept t = Keeps birth s.next_object t

  -- nothing but an answer
  answer_kept : (t : Step) → t.state.next_object ≡ s.next_object → t.state.files ≡ s.files
      → ((drive : ℕ) (c : Command) → In (ToDrive drive c) t.sends → ⊥) → IsKept t
  answer_kept t next files none = idle birth s own t next files (λ drive c i. absurd (none drive c i))

  still_kept : IsKept (still s)
  still_kept = stays birth s own

  -- the file goes on like this
  step_kept : (number : ℕ) (g : Going) → Ends birth s.next_object [] g → IsKept (step_at s number g)
  step_kept number g e = goes_at birth s own number g (step_at s number g) refl refl (λ drive c i. i) e

  round_kept : (t : Server) (r : Round) → KeepsAll birth s.next_object [] r → IsKept (step_round t r)
  round_kept t r k = record {
    later = k.later;
    agree = k.agree;
    rises = k.rises;
    fine = k.fine;
    sent = λ drive c i.
        let x = in_drives t.drives r.effects.sent drive c i in
        elim (k.sent x.0 x.2) [
          | inl none ↦ absurd none
          | inr y ↦ sent_of k.later r.effects.object drive c x.0 x.1 y
        ];
  }

  -- all jobs end
  crash_kept : IsKept (still (crash s))
  crash_kept = record {
    later = birth;
    agree = λ o less. refl;
    rises = omega arith;
    fine = λ f i.
        let r = in_mapped crashed_file f s.files i in
        let h = own r.0 r.1 in
        subst (IsFine birth s.next_object) (sym r.2) (h.0, tt, λ a j. absurd j, h.3, h.4);
    sent = λ drive c i. absurd i;
  }

  -- ---- a request

  requests : (now : ℕ) (chosen : List ℕ) (q : ClientRequest) → RequestCases s now chosen q IsKept
  requests now chosen q = record {
    again = λ kept is. answer_kept _ refl refl (no_answer _);
    misordered = λ expected is. answer_kept _ refl refl (no_answer _);
    without = λ new none. answer_kept _ refl refl (no_answer _);
    served = λ new f found.
        let v = serves (at_file s chosen f) s.next_grant s.format now q.client q.args in
        goes_at birth s own q.file v.going (carried_out s q v) refl refl
        (λ drive c i. elim (in_either (ToDrive drive c) (to_drives s.drives v.going.effects.sent) _ i) [
          | inl j ↦ j
          | inr j ↦ elim (in_either (ToDrive drive c) (recalls_from s.next_recall v.recalled) _ j) [
            | inl k ↦ absurd (no_recall s.next_recall v.recalled drive c k)
            | inr k ↦ absurd (no_answer _ drive c k)
          ]
        ])
        (ends_served birth s.next_object [] (at_file s chosen f) s.next_grant s.format now q.client q.args
        (begun birth s own chosen f (found_file s.files q.file f found).0));
  }

  -- the answer to an order behind
  told_behind : (t : Step) (kind : OrderKind) (result : OrderResult) → IsKept t → IsKept (with_answer t kind result)
  told_behind t kind result x = record {
    later = x.later;
    agree = x.agree;
    rises = x.rises;
    fine = x.fine;
    sent = λ drive c i. elim (in_either (ToDrive drive c) t.sends _ i) [
      | inl j ↦ x.sent drive c j
      | inr (inl e) ↦ absurd (cc e)
      | inr (inr none) ↦ absurd none
    ];
  }

  -- ---- any step, but for what follows from these

  pub kept_cases : (chosen : List ℕ) (i : Input) → HaveFirst s.files
      → ((n : ℕ) (m : RawMap) (tag : ℕ) (zoned : Bool) → IsKept (makes_file s (new_file s chosen n m tag zoned)))
      → IsKept (record (still s) { sends = resend s }) → StepCases s chosen i IsKept
  unfolding declare
  kept_cases chosen i first made again = record {
    rests = still_kept;
    asked = λ now q is. each_request s now chosen q IsKept (requests now chosen q);
    answered = λ x is.
        step_kept (answered_file s chosen x).file.kept.number (answered_file s chosen x)
        (ends_hears birth s.next_object [] (at_file s chosen x.file) x.job x.awaited x.reply
        (hearing x.file.kept x.awaited x.reply) is.runs
        (found_in (answers x.drive x.reply) x.job.awaited x.awaited is.awaits)
        (begun birth s own chosen x.file is.there));
    recalled = λ f is. answer_kept _ refl refl (no_recall s.next_recall f.kept.grants);
    refused = λ f is n why.
        step_kept f.kept.number (noting (at_file s chosen f) n)
        (holds_on birth s.next_object [] (at_file s chosen f)
        (begun birth s own chosen f (found_file s.files is.target f is.found).0));
    fenced = λ f is kind none low.
        step_kept f.kept.number (fence_begins kind s.format (at_file s chosen f))
        (ends_fence birth s.next_object [] kind s.format (at_file s chosen f)
        (begun birth s own chosen f (found_file s.files is.target f is.found).0).0);
    declared = λ d known.
        round_kept (with_offline s d) _ (declared_each d (offline s.drives d) s.files (begins s) chosen birth own);
    told = λ t now o is result x. told_behind t o.order result x;
    made = λ n m tag zoned is none. made n m tag zoned;
    added = λ d is. idle birth s own _ refl refl (λ drive c j. absurd j);
    zoned = λ d zone is. idle birth s own _ refl refl (λ drive c j. absurd j);
    formats = λ n is. idle birth s own _ refl refl (λ drive c j. absurd j);
    resends = λ is. again;
    crashes = λ is. crash_kept;
    opened = λ is low. round_kept s _ (opened_each s.format s.drives s.files (begins s) birth first own);
  }
