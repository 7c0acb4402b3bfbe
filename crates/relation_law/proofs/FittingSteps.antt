-- What jobs await is as their work asks, behind each step of the server, and at each moment.
use Rattle.std.proofs.Common.{◌≡◌, ◌==◌, ◌||◌, ℕ, Bool, true, false, List, [], ◌∷◌, Option, Some, None, refl, sym, subst, inl, inr, if◌then◌else◌}
use Rattle.server_rules.specs.declared.limits.TheConstants.{GREATEST_TAG}
use Rattle.server_rules.specs.Files.{at_file}
use Rattle.server_rules.specs.Going.{Going, with_components}
use Rattle.server_rules.specs.History.{Input, Act, step, state_after}
use Rattle.server_rules.specs.Jobs.{fence_begins, declares, declared_in, is_target, others_than, targets}
use Rattle.server_rules.specs.Laws.{In}
use Rattle.server_rules.specs.Making.{new_server, with_file}
use Rattle.server_rules.specs.Openings.{is_unsettled, opens_made, opens_fenced, opens}
use Rattle.server_rules.specs.Standing.{any_on, lose_on}
use Rattle.server_rules.proofs.Members.{in_filtered}
use Rattle.history_law.specs.Names.{Server, File, Job, JobKind, Revoking}
use Rattle.history_law.proofs.Hearing.{found_in}
use Rattle.component_law.specs.Sound.{IsSound}
use Rattle.component_law.proofs.Making.{each_step_is_sound}
use Rattle.history_law.specs.Steps.{Answering, IsAnswering, answered_file}
use Rattle.history_law.proofs.Files.{in_at}
use Rattle.world_history.specs.History.{OneEventMore}
use Rattle.component_law.specs.Sent.{IsSentByRun}
use Rattle.component_law.specs.Tagged.{AreNamedActs}
use Rattle.component_law.proofs.Moments.{server_sent_its_run}
use Rattle.relation_law.proofs.KeptServer.{at_place}
use Rattle.relation_law.specs.Awaiting.{IsFit, FitsIn, JobsAskTheirOwn}
use Rattle.relation_law.proofs.Walk.{walk_fence, walk_making}
use Rattle.relation_law.proofs.RepairAsked.{PlaceFits}
use Rattle.relation_law.proofs.Places.{KeepPlaces, keep_on}
use Rattle.relation_law.proofs.Fitting.{FitsAt, fit_cases, fits_hears, fits_loses, fits_kept}
use Rattle.relation_law.proofs.Ways.{IsAlike, FileWays}
use Rattle.relation_law.proofs.WaysSteps.{files_go}

-- ---- one file

-- of a file whose map and places of components stay
fits_stays : (g h : Going) → IsAlike g h → FitsAt g → FitsAt h
fits_stays g h a fit =
    subst (FitsIn h.file.kept) (sym a.job) (by_job g.file.job refl fit)
  where
    by_job : (o : Option Job) → g.file.job ≡ o → FitsIn g.file.kept o → FitsIn h.file.kept o
    by_job None is f = tt
    by_job (Some j) is f = fits_kept g j f h.file.kept a.map a.places

at_same : (f : File) (g : Going) → g.file ≡ f → FitsIn f.kept f.job → FitsAt g
at_same f g same fit = subst (λ (x : File). FitsIn x.kept x.job) (sym same) fit

pick : (b : Bool) (x y : Going) → FitsAt x → FitsAt y → FitsAt (if b then x else y)
pick true x y p q = p
pick false x y p q = q

fits_fence : (kind : JobKind) (format : ℕ) (g : Going) → FitsAt (fence_begins kind format g)
fits_fence kind format g = walk_fence PlaceFits FitsAt fit_cases kind format g tt

fits_declares : (drive : ℕ) (g : Going) → FitsAt g → FitsAt (declares g drive)
unfolding declares
fits_declares drive g fit =
    let h : Going = with_components g (lose_on drive g.file.kept.components) in
    pick (any_on drive g.file.kept.components || targets g.file.job drive) (declared_in h drive g.file.job) g
    (by_job h (keep_on drive g.file.kept.components) g.file.job refl fit) fit
  where
    by_job : (h : Going) → KeepPlaces g.file.kept.components (lose_on drive g.file.kept.components) → (o : Option Job) →
        g.file.job ≡ o → FitsIn g.file.kept o →
        FitsAt (declared_in (with_components g (lose_on drive g.file.kept.components)) drive o)
    by_job h keeps None is f = subst (FitsIn _) (sym is) tt
    by_job h keeps (Some j) is f =
        let l : Going = with_components g (lose_on drive g.file.kept.components) in
        let lost : IsFit l.file.kept j = fits_kept g j f l.file.kept refl keeps in
        fits_loses l j lost (others_than drive j.awaited) (is_target j.work drive)
        (λ a i. (in_filtered _ a j.awaited i).0) (subst (FitsIn l.file.kept) (sym is) lost)

fits_opens : (format : ℕ) (g : Going) → FitsAt g → FitsAt (opens format g)
unfolding opens opens_fenced
fits_opens format g fit =
    pick (is_unsettled g.file.kept) _ _
    (pick (g.file.kept.tag == GREATEST_TAG) _ _ fit (fits_fence Revoking format g)) (by_ready g.file.kept.ready)
  where
    by_ready : (b : Bool) → FitsAt (opens_made g b)
    by_ready true = tt
    by_ready false = walk_making PlaceFits FitsAt fit_cases g tt

-- ---- a step

-- where it was so of a file, it is so of what the file has become
abbrev FitsFrom : File → Going → Type 0
FitsFrom f g = FitsIn f.kept f.job → FitsAt g

abbrev FitsNow : File → Type 0
FitsNow f = FitsIn f.kept f.job

answered_fits : (s : Server) (chosen : List ℕ) (i : Input) (x : Answering) → IsAnswering s i x → FitsNow x.file →
    FitsAt (answered_file s chosen x)
answered_fits s chosen i x is fit =
    fits_hears (at_file s chosen x.file) x.job x.awaited x.reply _ is.runs
    (found_in _ x.job.awaited x.awaited is.awaits).0
    (subst (FitsIn x.file.kept) is.runs fit)

ways : (s : Server) (chosen : List ℕ) (i : Input) → FileWays s chosen i FitsFrom FitsNow
ways s chosen i = record {
  stays = λ f g j same fit. at_same f g same fit;
  alike = λ f g h a p fit. fits_stays g h a (p fit);
  heard = λ x is fit. answered_fits s chosen i x is fit;
  fenced = λ f g kind format j same fit. fits_fence kind format g;
  declared = λ f g drive j same fit. fits_declares drive g (at_same f g same fit);
  crashed = λ f g j same fit. subst (λ (x : File). FitsIn x.kept x.job) (sym same) tt;
  opened = λ f g format j same fit. fits_opens format g (at_same f g same fit);
  made = λ f there none. walk_making PlaceFits FitsAt fit_cases (at_file (with_file s f) [] f) tt;
}

abbrev pub AllFit : List File → Type 0
AllFit fs = (f : File) → In f fs → FitsIn f.kept f.job

pub fit_step : (s : Server) (chosen : List ℕ) (i : Input) → IsSound s → IsSound (step s chosen i).state → AllFit s.files →
    AllFit (step s chosen i).state.files
fit_step s chosen i before behind fit f j =
    elim (files_go s chosen i FitsFrom FitsNow (ways s chosen i) before.distinct f.kept.number f
    (at_place (step s chosen i).state.files f behind.distinct j)) [
      | inl x ↦
          subst (λ (y : File). FitsIn y.kept y.job) x.is
          (x.so (fit x.before (in_at s.files f.kept.number x.before x.there)))
      | inr new ↦ new
    ]

fit_run : (s : Server) (acts : List Act) → AreNamedActs acts → IsSound s → AllFit s.files →
    AllFit (state_after s acts).files
fit_run s [] named sound fit = fit
fit_run s (a ∷ acts) named sound fit =
    let next : IsSound (step s a.chosen a.input).state = each_step_is_sound s a.chosen a.input sound named.0 in
    fit_run (step s a.chosen a.input).state acts named.1 next (fit_step s a.chosen a.input sound next fit)

pub first_sound : IsSound (new_server [])
first_sound = record { distinct = tt; components = tt; aimed = tt; files = tt; drives = tt }

pub jobs_ask : OneEventMore → JobsAskTheirOwn
jobs_ask more w h k named f i =
    let r : IsSentByRun w = server_sent_its_run more w h k named in
    fit_run (new_server []) r.acts r.named first_sound (λ g j. absurd j) f
    (subst (λ (s : Server). In f s.files) r.server i)
