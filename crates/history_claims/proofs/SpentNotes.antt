-- Where a fence is needed and there is no further tag, the step notes that.
use Rattle.std.proofs.Common.{◌≡◌, ◌≢◌, ◌==◌, ◌&&◌, ◌||◌, ℕ, ◌+◌, Bool, true, false, not, nat_lt, nat_le, List, [], ◌∷◌, Option, Some, None, refl, sym, subst, arith, inl, inr, if◌then◌else◌}
use Rattle.std.proofs.lemmas.Bool.{cases_Bool, eq-eqb}
use Rattle.std.proofs.lemmas.Bool.Decides.{nat_tests}
use Rattle.data_map.specs.declared.ranges.TheConstants.{MAX_FILE_SIZE}
use Rattle.layout_ops.specs.declared.statuses.TheConstants.{LAYOUTIOMODE4_READ, LAYOUTIOMODE4_RW}
use Rattle.layout_ops.specs.declared.results.Results.{Results}
use Rattle.server_rules.specs.declared.limits.TheConstants.{GREATEST_TAG, NO_COMPONENT}
use Rattle.server_rules.specs.Files.{file_at, at_file, begins}
use Rattle.server_rules.specs.Get as rows
use Rattle.server_rules.specs.Get.{by_job, early, must_fence, by_early, fence_first, give_or_refuse, on_grants, gets}
use Rattle.server_rules.specs.Going.{Going}
use Rattle.server_rules.specs.Grants.{asked}
use Rattle.server_rules.specs.History.{Input, Opens, step}
use Rattle.server_rules.specs.Jobs.{fence_begins}
use Rattle.server_rules.specs.Laws.{In, ConflictsAreExact, Apart, Rests}
use Rattle.server_rules.specs.Messages.{awaited_by, counters_have_room, on_message}
use Rattle.server_rules.specs.Openings.{is_unsettled, opens_made, opens_spent, opens_fenced, opens, opens_each, reopen}
use Rattle.server_rules.specs.Requests.{serves, on_request}
use Rattle.server_rules.specs.Return as returning
use Rattle.server_rules.specs.Return.{Returned, return_row, by_return, returns_on}
use Rattle.server_rules.specs.declared.limits.TheConstants.{MAX_CLIENT}
use Rattle.server_rules.proofs.Members.{in_front, in_behind}
use Rattle.world_history.specs.ServerNames.{Server, Drive, File, Kept, Grant, Job, Revoking, Effects, Note, Spent, ClientRequest, IoErr}
use Rattle.relation_law.proofs.Walk.{walk_fence, walk_making}
use Rattle.cause_law.specs.Answers.{asking, IsNew}
use Rattle.cause_law.specs.Commits.{HasGrant}
use Rattle.cause_law.specs.Gets.{IsLowest, BadMode, BadRange, LeftOpen, Waits, TagSpent, IsFirst}
use Rattle.cause_law.specs.Returns as return_rows
use Rattle.cause_law.specs.Returns.{LosesSome, Returns}
use Rattle.cause_law.proofs.Returning.{return_comes}
use Rattle.cause_law.proofs.Words.{job_waits, needs_none}
use Rattle.history_claims.specs.Notes.{IsLeftOpen}
use Rattle.history_claims.proofs.NoteCauses.{none_open}
use Rattle.history_claims.proofs.StageJobs.{Noted, HasNote, note_stays}

abbrev pub spent_note : File → Note
spent_note f = record { file = f.kept.number; kind = Spent }

-- ---- an opening

opens_notes : (x : Note) (format : ℕ) (g : Going) → In x g.effects.notes → In x (opens format g).effects.notes
unfolding opens opens_fenced
opens_notes x format g i = by (is_unsettled g.file.kept)
  where
    tag : (b : Bool) → In x (if b then opens_spent g else fence_begins Revoking format g).effects.notes
    tag true = in_front x g.effects.notes _ i
    tag false = walk_fence (Noted x) (HasNote x) (note_stays x) Revoking format g i

    made : (b : Bool) → In x (opens_made g b).effects.notes
    made true = i
    made false = walk_making (Noted x) (HasNote x) (note_stays x) g i

    by : (b : Bool) → In x (if b then (if g.file.kept.tag == GREATEST_TAG then opens_spent g
        else fence_begins Revoking format g) else opens_made g g.file.kept.ready).effects.notes
    by true = tag (g.file.kept.tag == GREATEST_TAG)
    by false = made g.file.kept.ready

all_notes : (x : Note) (format : ℕ) (ds : List Drive) (fs : List File) (m : Effects) → In x m.notes
    → In x (opens_each format ds fs m).effects.notes
unfolding opens_each
all_notes x format ds [] m i = i
all_notes x format ds (f ∷ fs) m i =
    let g : Going = record { file = f; effects = m; drives = ds; chosen = [] } in
    all_notes x format ds fs (opens format g).effects (opens_notes x format g i)

unsettled : (f : Kept) → IsLeftOpen f → is_unsettled f ≡ true
unsettled f left = elim (cases_Bool (is_unsettled f)) [ inl t ↦ t | inr z ↦ absurd (none_open f z left) ]

opened_note : (format : ℕ) (ds : List Drive) (fs : List File) (m : Effects) (f : File) → In f fs → IsLeftOpen f.kept
    → f.kept.tag ≡ GREATEST_TAG → In (spent_note f) (opens_each format ds fs m).effects.notes
unfolding opens_each opens opens_fenced
opened_note format ds [] m f i left tag = absurd i
opened_note format ds (x ∷ fs) m f (inr i) left tag =
    let g : Going = record { file = x; effects = m; drives = ds; chosen = [] } in
    opened_note format ds fs (opens format g).effects f i left tag
opened_note format ds (x ∷ fs) m f (inl same) left tag =
    let g : Going = record { file = x; effects = m; drives = ds; chosen = [] } in
    all_notes (spent_note f) format ds fs (opens format g).effects
    (subst (λ (y : File). In (spent_note y) (opens format g).effects.notes) (sym same)
    (here (subst (λ (y : File). IsLeftOpen y.kept) same left)
    (subst (λ (y : File). y.kept.tag ≡ GREATEST_TAG) same tag)))
  where
    here : IsLeftOpen x.kept → x.kept.tag ≡ GREATEST_TAG
        → In (spent_note x) (opens format (record { file = x; effects = m; drives = ds; chosen = [] })).effects.notes
    here l t = rw (unsettled x.kept l, eq-eqb x.kept.tag GREATEST_TAG t) (in_behind (spent_note x) m.notes _ (inl refl))

-- ---- a LAYOUTGET

module _ (exact : ConflictsAreExact) (s : Server) (chosen : List ℕ) (f g : File) (rests : Rests f.job) (now : ℕ)
    (q : ClientRequest) where
  abbrev go : Going
  go = at_file s chosen f

  pub gets_note : (iomode offset count : ℕ)
      → IsFirst (asking f g s.next_grant now q.client iomode offset count) TagSpent
      → In (spent_note f) (gets go s.next_grant s.format now q.client iomode offset count).going.effects.notes
  unfolding gets early on_grants fence_first
  gets_note iomode offset count first =
      by ((iomode == LAYOUTIOMODE4_READ) || (iomode == LAYOUTIOMODE4_RW)) refl
      ((count == 0) || nat_lt MAX_FILE_SIZE (offset + count)) refl f.spent refl f.job refl
    where
      wanted : Grant
      wanted = asked f.kept s.next_grant q.client now offset count (iomode == LAYOUTIOMODE4_RW)

      at_tag : (b : Bool) → (f.kept.tag == GREATEST_TAG) ≡ b
          → In (spent_note f) (fence_first go s.next_grant s.format wanted).going.effects.notes
      at_tag b e = rw (eq-eqb f.kept.tag GREATEST_TAG first.applies.1) (inl refl)

      at_fence : (b : Bool) → must_fence now f.kept.grants wanted ≡ b
          → In (spent_note f) (if b then fence_first go s.next_grant s.format wanted
          else give_or_refuse go s.next_grant wanted).going.effects.notes
      at_fence true e = at_tag (f.kept.tag == GREATEST_TAG) refl
      at_fence false e = absurd (needs_none exact now f.kept.grants wanted e first.applies.0)

      by : (b : Bool) → ((iomode == LAYOUTIOMODE4_READ) || (iomode == LAYOUTIOMODE4_RW)) ≡ b → (c : Bool)
          → ((count == 0) || nat_lt MAX_FILE_SIZE (offset + count)) ≡ c → (d : Bool) → f.spent ≡ d → (o : Option Job)
          → f.job ≡ o
          → In (spent_note f) (by_early go s.next_grant s.format now wanted
          (if not b then rows.BadMode else if c then rows.Invalid else if d then rows.Unable else by_job o)).going.effects.notes
      by false m c r d p o j =
          absurd (first.none BadMode (omega (arith)) (
            λ x. absurd (grind (arith, nat_tests, m, x)),
            λ x. absurd (grind (arith, nat_tests, m, x)),
          ))
      by true m true r d p o j = absurd (first.none BadRange (omega (arith)) (grind (arith, nat_tests, r)))
      by true m false r true p o j = absurd (first.none LeftOpen (omega (arith)) p)
      by true m false r false p (Some job) j =
          absurd (first.none (Waits (rows.lowest job.awaited)) (omega (arith))
          (subst (λ (x : Option Job). IsLowest (awaited_by x) (rows.lowest job.awaited)) (sym j)
          (job_waits job (subst Rests j rests))))
      by true m false r false p None j = at_fence (must_fence now f.kept.grants wanted) refl

  -- ---- a LAYOUTRETURN

  fences_not : (before behind : Kept) (client : ℕ) (report : List IoErr) (detail : ℕ) (r : Results)
      → Returns before behind client report detail r → report ≢ [] → HasGrant before client
      → (LosesSome before client report → ⊥) → before.tag ≡ GREATEST_TAG → detail ≡ NO_COMPONENT
  fences_not k l c _ _ _ (return_rows.NoGrant report none same) some has lost tag = absurd (none has)
  fences_not k l c _ _ _ (return_rows.Clean has_ same) some has lost tag = absurd (some refl)
  fences_not k l c _ _ _ (return_rows.Taken report some_ loss same) some has lost tag = absurd (lost loss)
  fences_not k l c _ _ _ (return_rows.TagSpent report some_ has_ none tag_ same) some has lost tag = refl
  fences_not k l c _ _ _ (return_rows.Fences report some_ has_ none other grants size) some has lost tag =
      absurd (other tag)

  pub returns_note : Apart f.kept.grants → (report : List IoErr) → report ≢ [] → HasGrant f.kept q.client
      → (LosesSome f.kept q.client report → ⊥) → f.kept.tag ≡ GREATEST_TAG
      → In (spent_note f) (returns_on go s.format q.client report).going.effects.notes
  unfolding returns_on
  returns_note apart report some has lost tag =
      by (return_row f.kept q.client report)
      (fences_not f.kept _ q.client report _ _ (return_comes s.drives go q.client apart s.format report) some has lost tag)
    where
      by : (r : Returned) → (by_return go s.format q.client r).told.detail ≡ NO_COMPONENT
          → In (spent_note f) (by_return go s.format q.client r).going.effects.notes
      by returning.NoGrant e = absurd (cc e)
      by returning.Clean e = absurd (cc e)
      by (returning.Taken ks) e = absurd (cc e)
      by returning.TooMany e = inl refl
      by returning.Fencing e = absurd (cc e)

-- ---- a request's step

module _ (s : Server) (chosen : List ℕ) (i : Input) (now : ℕ) (q : ClientRequest) (new : IsNew s i now q) (f : File)
    (found : file_at s.files q.file ≡ Some f) (x : Note)
    (there : In x (serves (at_file s chosen f) s.next_grant s.format now q.client q.args).going.effects.notes) where
  parts : (a b c d : Bool) → (a && (b && (c && d))) ≡ true → (b ≡ true) × (c ≡ true) × (d ≡ true)
  parts true true true true e = (refl, refl, refl)
  parts a b c d e = absurd (cc e)

  pub request_noted : In x (step s chosen i).notes
  unfolding on_message on_request
  request_noted =
      let r = parts (q.client == q.client) (counters_have_room s) (q.client == q.client) (nat_le q.client MAX_CLIENT) new.taken in
      subst (λ (y : Input). In x (step s chosen y).notes) (sym new.comes) (rw (r.0, r.1, r.2, new.new, found) there)

-- a server that is opened has its step
pub opened_noted : (s : Server) (chosen : List ℕ) (i : Input) (f : File) → i ≡ Opens → counters_have_room s ≡ true
    → In f s.files → IsLeftOpen f.kept → f.kept.tag ≡ GREATEST_TAG → In (spent_note f) (step s chosen i).notes
unfolding reopen
opened_noted s chosen i f is low there left tag =
    subst (λ (y : Input). In (spent_note f) (step s chosen y).notes) (sym is)
    (rw low (opened_note s.format s.drives s.files (begins s) f there left tag))
