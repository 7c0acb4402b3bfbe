-- Where a step leaves a file whose repair was cut off, its components kept their places.
-- Towards `OweFollows` (`specs/Parts.antt`).
use Rattle.std.proofs.Common.{◌≡◌, ◌⊎◌, ◌==◌, ◌||◌, ℕ, ◌+◌, Bool, true, false, List, [], ◌∷◌, Option, Some, None, refl, sym, ap, subst, ◌∙◌, inl, inr, if◌then◌else◌}
use Rattle.server_rules.specs.declared.limits.TheConstants.{GREATEST_TAG}
use Rattle.server_rules.specs.Files.{at_file, file_at}
use Rattle.server_rules.specs.Going.{Going, noting, noting_if, with_components}
use Rattle.server_rules.specs.History.{Input, step}
use Rattle.server_rules.specs.Jobs.{fence_begins, loses, declares, declared_in, is_target, others_than, targets}
use Rattle.server_rules.specs.Openings.{is_unsettled, opens_made, opens_fenced, opens}
use Rattle.server_rules.specs.Replies.{Hearing, Older, Full, Done, Nothing, others, fills_up, heard_with, hears}
use Rattle.server_rules.specs.Standing.{any_on, lose_on, lose_from}
use Rattle.history_law.specs.Names.{Server, File, Component, Awaited, Heard, Job, JobKind, Revoking, Phase, Still, Repairing, FencingAgain, Work, Creates, Fences, Fetches, Stores, Targets, Gathers, Fills, Lengths, Checks, NoDrive, NoSpace, NoteKind, Reply}
use Rattle.server_rules.specs.Making.{with_file}
use Rattle.server_rules.proofs.FileLaws.{number_at}
use Rattle.server_rules.proofs.Runs.{ran_making}
use Rattle.component_law.specs.KeptWalk.{WorkFits}
use Rattle.component_law.specs.Distinct.{AreDistinct}
use Rattle.relation_law.proofs.Places.{KeepPlaces, keep_here, keep_then, keep_from, keep_on}
use Rattle.relation_law.proofs.Walk.{Place, AtStart, AtFence, Behind, AtRepair, AtRows, AtRebuild, AtFill, AtSources, AtAudit, JobCases, place_behind, lost_place, walk_waits, walk_loses, walk_full, walk_fence, walk_making}
use Rattle.relation_law.proofs.Ways.{FileWays}
use Rattle.relation_law.proofs.WaysSteps.{files_go}

-- a further fence is to begin, or a repair was cut off
abbrev pub IsIdle : Phase → Option Job → Type 0
IsIdle p o = (p ≡ FencingAgain) ⊎ ((p ≡ Repairing) × (o ≡ None))

not_still : (p : Phase) (o : Option Job) → p ≡ Still → IsIdle p o → ⊥
not_still p o still (inl again) = cc (sym still ∙ again)
not_still p o still (inr both) = cc (sym still ∙ both.0)

module _ (cs : List Component) where
  abbrev Q : Place → Going → Type 0
  Q AtStart g = KeepPlaces cs g.file.kept.components
  Q AtFence g = KeepPlaces cs g.file.kept.components
  Q (AtRepair ps) g = KeepPlaces cs g.file.kept.components
  Q (AtRows p ps heard) g = KeepPlaces cs g.file.kept.components
  Q place g = g.file.kept.phase ≡ Still

  abbrev E : Going → Type 0
  E g = IsIdle g.file.kept.phase g.file.job → KeepPlaces cs g.file.kept.components

  at_place : (place : Place) (g : Going) (o : Option Job) → Q place g → IsIdle g.file.kept.phase o →
      KeepPlaces cs g.file.kept.components
  at_place AtStart g o q idle = q
  at_place AtFence g o q idle = q
  at_place (AtRepair ps) g o q idle = q
  at_place (AtRows p ps heard) g o q idle = q
  at_place Behind g o q idle = absurd (not_still g.file.kept.phase o q idle)
  at_place (AtRebuild n) g o q idle = absurd (not_still g.file.kept.phase o q idle)
  at_place (AtFill t ps) g o q idle = absurd (not_still g.file.kept.phase o q idle)
  at_place (AtSources t p ps heard) g o q idle = absurd (not_still g.file.kept.phase o q idle)
  at_place (AtAudit ps) g o q idle = absurd (not_still g.file.kept.phase o q idle)

  cases : JobCases Q E
  cases = record {
    asks = λ place work c ds kind g q a idle. at_place place g _ q idle;
    aims = λ t g q is idle. absurd (not_still g.file.kept.phase _ q idle);
    readied = λ g q idle. q;
    rests_behind = λ g q idle. absurd (not_still g.file.kept.phase _ q idle);
    built = λ n g q idle. absurd (not_still g.file.kept.phase _ q idle);
    counted = λ t g q idle. absurd (not_still g.file.kept.phase _ q idle);
    raises = λ g q. q;
    skips = λ p ps g q e. q;
    unchanged = λ p ps heard g q e. q;
    repaired = λ short g q. refl;
    begins = λ g q. q;
    passes = λ b k g q. passing b k (NoDrive k) g q;
    builds = λ t g q. q;
    loses_it = λ t p ps lacked g q e. q;
    gone = λ t todo g q. q;
    full = λ t todo g q. q;
    zeros = λ t p ps heard g q e. q;
    lengths = λ g q. q;
    counts = λ p ps g q. q;
  }
    where
      passing : (b : Bool) (k : ℕ) (x : NoteKind) (g : Going) → g.file.kept.phase ≡ Still →
          Q (AtRebuild (k + 1)) (noting_if b g x)
      passing true k x g q = q
      passing false k x g q = q

  -- where a job goes on
  behind : (g : Going) (work : Work) (heard : List Heard) → KeepPlaces cs g.file.kept.components →
      WorkFits g.file.kept.phase work → Q (place_behind g.file.kept work heard) g
  behind g Creates heard keeps fits = keeps
  behind g Fences heard keeps fits = keeps
  behind g (Fetches [] short) heard keeps fits = keeps
  behind g (Fetches (p ∷ ps) short) heard keeps fits = keeps
  behind g (Stores [] short b) heard keeps fits = keeps
  behind g (Stores (p ∷ ps) short true) heard keeps fits = keeps
  behind g (Stores (p ∷ ps) short false) heard keeps fits = keeps
  behind g (Targets t) heard keeps fits = fits
  behind g (Gathers t []) heard keeps fits = fits
  behind g (Gathers t (p ∷ ps)) heard keeps fits = fits
  behind g (Fills t []) heard keeps fits = fits
  behind g (Fills t (p ∷ ps)) heard keeps fits = fits
  behind g Lengths heard keeps fits = fits
  behind g (Checks [] tally) heard keeps fits = fits
  behind g (Checks (p ∷ ps) tally) heard keeps fits = fits

  lost : (g : Going) (work : Work) → KeepPlaces cs g.file.kept.components → WorkFits g.file.kept.phase work →
      Q (lost_place g.file.kept work) g
  lost g Creates keeps fits = keeps
  lost g Fences keeps fits = keeps
  lost g (Fetches ps short) keeps fits = keeps
  lost g (Stores ps short b) keeps fits = keeps
  lost g (Targets t) keeps fits = fits
  lost g (Gathers t ps) keeps fits = fits
  lost g (Fills t ps) keeps fits = fits
  lost g Lengths keeps fits = fits
  lost g (Checks ps tally) keeps fits = fits

  loses_on : (g : Going) (j : Job) (work : Work) (rest : List Awaited) (gone : Bool) → j.work ≡ work →
      KeepPlaces cs g.file.kept.components → WorkFits g.file.kept.phase work → E (loses g j work rest gone)
  loses_on g j work rest gone is keeps fits =
      walk_loses Q E cases g j work rest gone is (record {
        waits = λ c ds e idle. keeps;
        stays = λ idle. keeps;
        on = λ none. lost g j.work keeps (subst (WorkFits g.file.kept.phase) (sym is) fits);
      })

  filled : (g : Going) (j : Job) (a : Awaited) (work : Work) → j.work ≡ work → KeepPlaces cs g.file.kept.components →
      WorkFits g.file.kept.phase work → E (fills_up g j a work)
  filled g j a work is keeps fits = by_work work is fits
    where
      loses_it : (x : Work) → j.work ≡ x → WorkFits g.file.kept.phase x →
          E (loses (noting (with_components g (lose_from (a.component ∷ []) g.file.kept.components 0)) (NoSpace a.component)) j
          x (others j.awaited a.command.nonce) false)
      loses_it x e fit =
          loses_on _ j x (others j.awaited a.command.nonce) false e
          (keep_then cs g.file.kept.components _ keeps (keep_from (a.component ∷ []) g.file.kept.components 0)) fit

      by_work : (x : Work) → j.work ≡ x → WorkFits g.file.kept.phase x → E (fills_up g j a x)
      by_work (Targets t) e fit = walk_full Q E cases t [] g fit
      by_work (Gathers t ps) e fit = walk_full Q E cases t ps g fit
      by_work (Fills t ps) e fit = walk_full Q E cases t ps g fit
      by_work Creates e fit = loses_it Creates e fit
      by_work Fences e fit = loses_it Fences e fit
      by_work (Fetches ps short) e fit = loses_it (Fetches ps short) e fit
      by_work (Stores ps short b) e fit = loses_it (Stores ps short b) e fit
      by_work Lengths e fit = loses_it Lengths e fit
      by_work (Checks ps t) e fit = loses_it (Checks ps t) e fit

  heard_on : (g : Going) (j : Job) (a : Awaited) (r : Reply) (x : Hearing) → KeepPlaces cs g.file.kept.components →
      WorkFits g.file.kept.phase j.work → E (hears g j a r x)
  heard_on g j a r Older keeps fits = λ idle. keeps
  heard_on g j a r Full keeps fits = filled g j a j.work refl keeps fits
  heard_on g j a r Done keeps fits =
      walk_waits Q E cases g j j.work (others j.awaited a.command.nonce) (heard_with j a r)
      (λ c ds e idle. keeps) (λ none. behind g j.work (heard_with j a r) keeps fits)
  heard_on g j a r Nothing keeps fits = λ idle. keeps

  fences : (kind : JobKind) (format : ℕ) (g : Going) → KeepPlaces cs g.file.kept.components → E (fence_begins kind format g)
  fences kind format g keeps = walk_fence Q E cases kind format g keeps

  pick : (b : Bool) (x y : Going) → E x → E y → E (if b then x else y)
  pick true x y p q = p
  pick false x y p q = q

  declares_on : (drive : ℕ) (g : Going) → KeepPlaces cs g.file.kept.components →
      ((j : Job) → g.file.job ≡ Some j → WorkFits g.file.kept.phase j.work) → E (declares g drive)
  unfolding declares
  declares_on drive g keeps fits =
      pick (any_on drive g.file.kept.components || targets g.file.job drive) (declared_in h drive g.file.job) g
      (by_job g.file.job refl) (λ idle. keeps)
    where
      h : Going
      h = with_components g (lose_on drive g.file.kept.components)

      keeps_h : KeepPlaces cs (lose_on drive g.file.kept.components)
      keeps_h = keep_then cs g.file.kept.components _ keeps (keep_on drive g.file.kept.components)

      by_job : (o : Option Job) → g.file.job ≡ o →
          E (declared_in (with_components g (lose_on drive g.file.kept.components)) drive o)
      by_job None is = λ idle. keeps_h
      by_job (Some j) is =
          loses_on (with_components g (lose_on drive g.file.kept.components)) j j.work (others_than drive j.awaited)
          (is_target j.work drive) refl keeps_h (fits j is)

  opens_on : (format : ℕ) (g : Going) → KeepPlaces cs g.file.kept.components → E (opens format g)
  unfolding opens opens_fenced
  opens_on format g keeps =
      pick (is_unsettled g.file.kept) _ _
      (pick (g.file.kept.tag == GREATEST_TAG) _ _ (λ idle. keeps) (fences Revoking format g keeps))
      (by_ready g.file.kept.ready)
    where
      by_ready : (b : Bool) → E (opens_made g b)
      by_ready true = λ idle. keeps
      by_ready false = walk_making Q E cases g keeps

-- ---- a step

abbrev Fits : File → Type 0
Fits f = (j : Job) → f.job ≡ Some j → WorkFits f.kept.phase j.work

abbrev Keeps : File → Going → Type 0
Keeps f g = Fits f → E f.kept.components g

same_keeps : (f : File) (g : Going) → g.file ≡ f → KeepPlaces f.kept.components g.file.kept.components
same_keeps f g same =
    subst (λ (x : File). KeepPlaces f.kept.components x.kept.components) (sym same) (keep_here f.kept.components)

ways : (s : Server) (chosen : List ℕ) (i : Input) → FileWays s chosen i Keeps (λ f. file_at s.files f.kept.number ≡ None)
ways s chosen i = record {
  stays = λ f g j same fits idle. same_keeps f g same;
  alike = λ f g h a p fits idle.
      keep_then f.kept.components g.file.kept.components h.file.kept.components
      (p fits (elim idle [
        | inl again ↦ inl (sym a.phase ∙ again)
        | inr both ↦ inr (sym a.phase ∙ both.0, sym a.job ∙ both.1)
      ])) a.places;
  heard = λ x is fits.
      heard_on x.file.kept.components (at_file s chosen x.file) x.job x.awaited x.reply _ (keep_here x.file.kept.components)
      (fits x.job is.runs);
  fenced = λ f g kind format j same fits. fences f.kept.components kind format g (same_keeps f g same);
  declared = λ f g drive j same fits.
      declares_on f.kept.components drive g (same_keeps f g same)
      (λ k runs. subst (λ (p : Phase). WorkFits p k.work) (sym (ap (λ (x : File). x.kept.phase) same))
      (fits k (sym (ap (λ (x : File). x.job) same) ∙ runs)));
  crashed = λ f g j same fits idle.
      subst (λ (x : File). KeepPlaces f.kept.components x.kept.components) (sym same) (keep_here f.kept.components);
  opened = λ f g format j same fits. opens_on f.kept.components format g (same_keeps f g same);
  made = λ f there none.
      ap (file_at s.files) (ran_making (at_file (with_file s f) [] f)).number ∙ there;
}

-- A file that is behind a step with a repair that was cut off has its components where they were.
pub idle_keeps : (s : Server) (chosen : List ℕ) (i : Input) → AreDistinct s.files → (n : ℕ) (f g : File) →
    file_at s.files n ≡ Some f → file_at (step s chosen i).state.files n ≡ Some g → Fits f →
    IsIdle g.kept.phase g.job → KeepPlaces f.kept.components g.kept.components
idle_keeps s chosen i apart n f g there behind_ fits idle =
    elim (files_go s chosen i Keeps (λ x. file_at s.files x.kept.number ≡ None) (ways s chosen i) apart n g behind_) [
      | inl x ↦
          let same : x.before ≡ f = cc (sym x.there ∙ there) in
          subst (λ (y : File). KeepPlaces y.kept.components g.kept.components) same
          (subst (λ (y : File). KeepPlaces x.before.kept.components y.kept.components) x.is
          (x.so (subst Fits (sym same) fits)
          (subst (λ (y : File). IsIdle y.kept.phase y.job) (sym x.is) idle)))
      | inr new ↦ absurd (cc (sym there ∙ sym (ap (file_at s.files)
          (number_at (step s chosen i).state.files n g behind_)) ∙ new))
    ]
