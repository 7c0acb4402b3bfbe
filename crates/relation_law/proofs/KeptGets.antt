-- A LAYOUTGET on a file: it is refused, or a grant is given on the file as it is so far.
-- Towards `KeptGoesOn` (`specs/Steps.antt`).
use Rattle.std.proofs.Common.{◌≡◌, ◌==◌, ◌||◌, ℕ, ◌+◌, min, Bool, true, false, not, nat_lt, List, [], ◌∷◌, find, is_some, Option, Some, None, refl, sym, ap, subst, ◌∙◌, arith, inl, inr, if◌then◌else◌}
use Rattle.std.proofs.lemmas.Bool.{true≢false, cases_Bool, eq-eqb}
use Rattle.std.proofs.lemmas.Bool.Decides.{nat_tests}
use Rattle.layout_ops.specs.declared.statuses.TheConstants.{LAYOUTIOMODE4_READ, LAYOUTIOMODE4_RW, NFS4_OK}
use Rattle.server_rules.specs.declared.limits.TheConstants.{GREATEST_TAG, GREATEST_GRANT}
use Rattle.component_law.specs.Tagged.{fence_open}
use Rattle.client_rules.specs.Results.{status_of}
use Rattle.server_rules.specs.Answers.{result_of}
use Rattle.server_rules.specs.Files.{at_file}
use Rattle.server_rules.specs.Get.{Early, BadMode, Invalid, Unable, Waits, On, by_job, early, must_fence, Late, NoNumber, Lacks, Conflict, Gives, by_first, by_lacked, lacked, late, by_late, give_or_refuse, after_fence, fence_first, on_grants, by_early, gets}
use Rattle.server_rules.specs.Going.{Going, noting}
use Rattle.server_rules.specs.Grants.{conflicts, grant_of, against, any_expired, asked}
use Rattle.server_rules.specs.History.{Input}
use Rattle.server_rules.specs.Jobs.{ending, fence_begins}
use Rattle.server_rules.specs.Served.{Served, says}
use Rattle.world_history.specs.ServerNames.{File, Kept, Grant, Still, Note, Spent, Job, Revoking, RequestArgs, Get}
use Rattle.world_history.specs.State.{World}
use Rattle.fence_law.specs.State.{State, Event}
use Rattle.fence_law.specs.Machine.{Lawful, after_all}
use Rattle.fence_law.specs.State.Event.{Fences}
use Rattle.fence_law.proofs.Safe.{Safe, safe_all}
use Rattle.file_simulation.specs.EventLists.{where_so}
use Rattle.file_simulation.specs.ServerEvents.{begins_fence, fences}
use Rattle.data_map.specs.declared.ranges.TheConstants.{MAX_FILE_SIZE}
use Rattle.relation_law.proofs.KeptOpens.{none_shows}
use Rattle.relation_law.specs.KeptGets.{GetsAs, Refused, Given_}
use Rattle.relation_law.specs.KeptSteps.{notes_events, behind_notes, IsSoFar, IsKeptAt, IsDone}
use Rattle.component_law.specs.KeptWalk.{IsWalked, FileFits, JobFits}
use Rattle.component_law.proofs.KeptJobs.{fence_by}
use Rattle.relation_law.proofs.KeptNotes.{AreSupplied, IsBehind, walked}
use Rattle.relation_law.proofs.KeptEnds.{so_far_from, begins_so_far, fence_shows}
use Rattle.relation_law.proofs.KeptRounds.{begun, done}

-- what a LAYOUTGET needs of a going file: no job runs, it is still and was made, and the client has no grant on it
pub record IsFree (c : ℕ) (g : Going) : Type 0 where
  pub idle : g.file.job ≡ None
  pub still : g.file.kept.phase ≡ Still
  pub ready : g.file.kept.ready ≡ true
  pub own : grant_of g.file.kept.grants c ≡ None

module _ (next : ℕ) (t : State) (w : World) (f : File) (i : Input) (Given : List Note
    → Type 0) (format now c iomode offset count : ℕ)
  where
    abbrev args : RequestArgs
    args = Get iomode offset count

    abbrev rw_ : Bool
    rw_ = iomode == LAYOUTIOMODE4_RW

    abbrev Gets : Served → Type 0
    Gets v = GetsAs next t w f i Given args c rw_ v

    -- ---- the late rows

    module _ (G : Going) (d : IsDone next t w f i Given G) (busy : Bool)
        (so_far : Given G.effects.notes → IsSoFar next busy (behind_notes t w f i G.effects.notes) G.file.kept) (x : Grant)
        (rw_is : x.rw ≡ rw_) (client : x.client ≡ c) (number : x.number ≡ min next GREATEST_GRANT) (free : IsFree c G) where
      by_row : (l : Late) → late G.file.kept next x ≡ l → Gets (by_late G x l)
      unfolding late
      by_row NoNumber is = Refused (record {
        done = record { number = d.number; lawful = d.lawful; kept = d.kept };
        none = refl;
        status = refl;
        numbers = refl;
      })
      by_row (Lacks k) is = Refused (record {
        done = record { number = d.number; lawful = d.lawful; kept = d.kept };
        none = refl;
        status = refl;
        numbers = refl;
      })
      by_row (Conflict holder) is = Refused (record {
        done = record { number = d.number; lawful = d.lawful; kept = d.kept };
        none = refl;
        status = refl;
        numbers = refl;
      })
      by_row Gives is =
          let r = room (nat_lt GREATEST_GRANT next) refl is in
          Given_ (record {
            before = G;
            grant = x;
            gives_it = refl;
            can = record {
              still = free.still;
              ready = free.ready;
              own = free.own;
              clear = r.1;
              number = number ∙ r.0;
              client = client;
            };
            rw_is = rw_is;
            idle = free.idle;
            number = d.number;
            busy = busy;
            lawful = d.lawful;
            so_far = so_far;
          })
        where
          first : (o : Option Grant) → by_first o ≡ Gives → o ≡ None
          first None e = refl
          first (Some y) e = absurd (cc e)

          lacks : (o : Option ℕ) (p : Option Grant) → by_lacked o p ≡ Gives → p ≡ None
          lacks None p e = first p e
          lacks (Some k) p e = absurd (cc e)

          room : (b : Bool) → nat_lt GREATEST_GRANT next ≡ b → late G.file.kept next x ≡ Gives
              → (min next GREATEST_GRANT ≡ next) × (find (conflicts x) G.file.kept.grants ≡ None)
          room true e l = absurd (cc (rw e at l))
          room false e l =
              (grind (arith, nat_tests, e), lacks (lacked G.file.kept x) (find (conflicts x) G.file.kept.grants) (rw e at l))

      pub given_or_refused : Gets (give_or_refuse G next x)
      unfolding give_or_refuse
      given_or_refused = by_row (late G.file.kept next x) refl

-- ---- the rows that end a grant with a fence, or don't

module _ (next : ℕ) (s : State) (w : World) (f : File) (i : Input) (Given : State → List Note → Type 0)
    (supplied : (busy : Bool) (t : State) → AreSupplied next busy t w f i (Given t)) (safe : Safe s) (h : IsKeptAt next s f)
    (fits : FileFits f) (made : f.job ≡ None → f.spent ≡ false → f.kept.ready ≡ true)
    (chosen : List ℕ) (format now c iomode offset count : ℕ) where
  abbrev go : Going
  go = at_file w.server chosen f

  abbrev wanted : Grant
  wanted = asked f.kept next c now offset count (iomode == LAYOUTIOMODE4_RW)

  abbrev GetsAt : State → Served → Type 0
  GetsAt t v = GetsAs next t w f i (Given t) (Get iomode offset count) c (iomode == LAYOUTIOMODE4_RW) v

  -- the machine as it is before the step, for a file that stays as it is
  pub stays_done : IsDone next s w f i (Given s) go
  unfolding notes_events
  stays_done = record { number = refl; lawful = λ x. tt; kept = λ x. h }

  -- with a note that has no event
  pub noted_done : IsDone next s w f i (Given s) (noting go Spent)
  unfolding notes_events
  noted_done = record {
    number = refl;
    lawful = λ x. rw (eq-eqb f.kept.number f.kept.number refl) tt;
    kept = λ x. rw (eq-eqb f.kept.number f.kept.number refl) h;
  }

  refused : (st detail : ℕ) → (status_of (result_of (Get iomode offset count) st) == NFS4_OK) ≡ false
      → GetsAt s (says go st detail)
  refused st detail e = Refused (record { done = stays_done; none = refl; status = e; numbers = refl })

  -- no fence is wanted
  unfenced : f.job ≡ None → f.spent ≡ false → must_fence now f.kept.grants wanted ≡ false
      → GetsAt s (give_or_refuse go next wanted)
  unfolding notes_events must_fence asked
  unfenced none fresh no_fence =
      let still : f.kept.phase ≡ Still = subst (JobFits f.spent f.kept.phase) none fits fresh in
      given_or_refused next s w f i (Given s) format now c iomode offset count go stays_done false
      (λ x. so_far_from next false s f (λ b. absurd (true≢false (sym b))) h) wanted refl refl refl
      (record { idle = none; still = still; ready = made none fresh; own = own (grant_of f.kept.grants c) refl no_fence })
    where
      own : (o : Option Grant) → grant_of f.kept.grants c ≡ o
          → (is_some (grant_of f.kept.grants c) || any_expired now (against f.kept.grants wanted)) ≡ false
          → grant_of f.kept.grants c ≡ None
      own None is e = is
      own (Some g) is e = absurd (true≢false (rw is at e))

  -- ---- a fence is wanted

  -- it waits, or is over at once
  abbrev InFence : State → (spent : Bool) → Kept → List Note → Type 0
  InFence t spent k ns =
      (spent ≡ false) × (k.ready ≡ true) × (k.grants ≡ []) × IsBehind next true t w f i (Given t) k ns

  in_fence_walked : (t : State) → Safe t → (spent : Bool) → IsWalked (InFence t spent)
  in_fence_walked t safe_ spent =
      let u = walked next true t w f i (Given t) (supplied true t) safe_ in
      record {
        alike = λ k l ns a q. (
          q.0,
          elim (cases_Bool l.ready) [ inl e ↦ e | inr e ↦ absurd (true≢false (sym q.1 ∙ a.ready e)) ],
          a.grants ∙ q.2,
          u.alike k l ns a q.3,
        );
        plain = λ k ns kind p q. (q.0, q.1, q.2, u.plain k ns kind p q.3);
        fenced = λ k ns p q. (q.0, q.1, q.2, u.fenced k ns p q.3);
        mended = λ k ns stripes short p q. (q.0, q.1, q.2, u.mended k ns stripes short p q.3);
      }

  -- the events with which it begins
  abbrev fence_events : List Event
  fence_events = where_so (not (fence_open f.kept)) (Fences ∷ [])

  abbrev behind_fence : State
  behind_fence = after_all s fence_events

  -- the file behind the fence
  abbrev fenced_file : Going
  fenced_file = fence_begins Revoking format go

  fence_behind : f.job ≡ None → f.spent ≡ false → Lawful s fence_events
      → InFence behind_fence fenced_file.file.spent fenced_file.file.kept fenced_file.effects.notes
      × FileFits fenced_file.file
  unfolding notes_events
  fence_behind none fresh l =
      let t : State = behind_fence in
      let safe_ : Safe t = safe_all s fence_events l safe in
      fence_by (InFence t) (in_fence_walked t safe_) Revoking format go (
        fresh,
        made none fresh,
        refl,
        begun next t w f i (Given t) (λ b. supplied b t) true (ending f.kept format) [] refl refl refl
            (begins_so_far next s f.kept format f.kept.phase refl l safe false
            (so_far_from next false s f (λ b. absurd (true≢false (sym b))) h)),
      )

  -- behind a fence that is over at once the order goes on; one that waits refuses it
  after : f.job ≡ None → f.spent ≡ false → Lawful s fence_events → (o : Option Job) → fenced_file.file.job ≡ o
      → GetsAt behind_fence (after_fence fenced_file next wanted o)
  unfolding asked
  after none fresh l (Some j) is =
      let e = fence_behind none fresh l in
      Refused (record {
        done = done next behind_fence w f i (Given behind_fence) (λ b. supplied b behind_fence) true fenced_file
            (λ b. absurd (true≢false b)) e.0.3;
        none = refl;
        status = refl;
        numbers = refl;
      })
  after none fresh l None is =
      let e = fence_behind none fresh l in
      let d = done next behind_fence w f i (Given behind_fence) (λ b. supplied b behind_fence) true fenced_file
      (λ b. absurd (true≢false b)) e.0.3 in
      let still : fenced_file.file.kept.phase ≡ Still =
      subst (JobFits fenced_file.file.spent fenced_file.file.kept.phase) is e.1 e.0.0 in
      given_or_refused next behind_fence w f i (Given behind_fence) format now c iomode offset count fenced_file d true
      e.0.3.so_far wanted refl refl refl
      (record { idle = is; still = still; ready = e.0.1; own = rw e.0.2 refl })

  -- ---- the first line

  -- the events of the step's first line, and what the LAYOUTGET comes to behind them
  pub record GetsOn (v : Served) : Type 0 where
    pub events : List Event
    pub seen : fences f v.going.file ≡ events
    pub is : Lawful s events → GetsAt (after_all s events) v

  -- giving a grant keeps phase and tag
  late_keeps : (G : Going) (x : Grant) (l : Late)
      → ((by_late G x l).going.file.kept.phase ≡ G.file.kept.phase) × ((by_late G x l).going.file.kept.tag ≡ G.file.kept.tag)
  late_keeps G x NoNumber = (refl, refl)
  late_keeps G x (Lacks k) = (refl, refl)
  late_keeps G x (Conflict holder) = (refl, refl)
  late_keeps G x Gives = (refl, refl)

  plain : (v : Served) → v.going.file.kept.phase ≡ f.kept.phase → v.going.file.kept.tag ≡ f.kept.tag → GetsAt s v
      → GetsOn v
  plain v p e g = record {
    events = [];
    seen = ap (λ (b : Bool). where_so b (Fences ∷ [])) (none_shows f v.going.file p e);
    is = λ l. g;
  }

  given_on : f.job ≡ None → f.spent ≡ false → must_fence now f.kept.grants wanted ≡ false
      → GetsOn (give_or_refuse go next wanted)
  unfolding give_or_refuse
  given_on none fresh no_fence =
      let k = late_keeps go wanted (late f.kept next wanted) in
      plain (give_or_refuse go next wanted) k.0 k.1 (unfenced none fresh no_fence)

  -- what is seen of the fence is seen behind what follows it
  seen_after : (o : Option Job) → fenced_file.file.job ≡ o
      → fences f (after_fence fenced_file next wanted o).going.file ≡ fence_events
  unfolding give_or_refuse
  seen_after o is =
      let k = keeps o in
      let same : begins_fence f (after_fence fenced_file next wanted o).going.file ≡ begins_fence f fenced_file.file =
      rw (k.0, k.1) refl in
      ap (λ (b : Bool). where_so b (Fences ∷ [])) (same ∙ shows)
    where
      keeps : (p : Option Job)
          → ((after_fence fenced_file next wanted p).going.file.kept.phase ≡ fenced_file.file.kept.phase)
          × ((after_fence fenced_file next wanted p).going.file.kept.tag ≡ fenced_file.file.kept.tag)
      keeps None = late_keeps fenced_file wanted (late fenced_file.file.kept next wanted)
      keeps (Some j) = (refl, refl)

      shows : begins_fence f fenced_file.file ≡ not (fence_open f.kept)
      shows = elim (cases_Bool (fence_open f.kept)) [
        | inl o ↦ rw o refl
        | inr o ↦ fence_shows Revoking format go o ∙ sym (ap not o)
      ]

  fenced_on : f.job ≡ None → f.spent ≡ false → GetsOn (fence_first go next format wanted)
  unfolding fence_first notes_events
  fenced_on none fresh = elim (cases_Bool (f.kept.tag == GREATEST_TAG)) [
    | inl e ↦
        rw e (plain _ refl refl (Refused (record { done = noted_done; none = refl; status = refl; numbers = refl })))
    | inr e ↦
        rw e (record {
          events = fence_events;
          seen = seen_after fenced_file.file.job refl;
          is = λ l. after none fresh l fenced_file.file.job refl;
        })
  ]

  on_grants_on : f.job ≡ None → f.spent ≡ false → GetsOn (on_grants go next format now wanted)
  unfolding on_grants
  on_grants_on none fresh = elim (cases_Bool (must_fence now f.kept.grants wanted)) [
    | inl e ↦ rw e (fenced_on none fresh)
    | inr e ↦ rw e (given_on none fresh e)
  ]

  by_early_on : (e : Early) → early f iomode offset count ≡ e → GetsOn (by_early go next format now wanted e)
  unfolding early
  by_early_on BadMode is = plain _ refl refl (refused _ 0 refl)
  by_early_on Invalid is = plain _ refl refl (refused _ 0 refl)
  by_early_on Unable is = plain _ refl refl (refused _ _ refl)
  by_early_on (Waits k) is = plain _ refl refl (refused _ k refl)
  by_early_on On is =
      let r = rows (not ((iomode == LAYOUTIOMODE4_READ) || (iomode == LAYOUTIOMODE4_RW)))
      ((count == 0) || nat_lt MAX_FILE_SIZE (offset + count)) f.spent f.job is in
      on_grants_on r.1 r.0
    where
      job_none : (o : Option Job) → by_job o ≡ On → o ≡ None
      job_none None e = refl
      job_none (Some j) e = absurd (cc e)

      rows : (a b d : Bool) (o : Option Job)
          → (if a then BadMode else if b then Invalid else if d then Unable else by_job o) ≡ On → (d ≡ false) × (o ≡ None)
      rows true b d o e = absurd (cc e)
      rows false true d o e = absurd (cc e)
      rows false false true o e = absurd (cc e)
      rows false false false o e = (refl, job_none o e)

  -- a LAYOUTGET on the file
  pub gets_on : GetsOn (gets go next format now c iomode offset count)
  unfolding gets
  gets_on = by_early_on (early f iomode offset count) refl
