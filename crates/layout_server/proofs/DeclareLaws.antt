-- A drive is declared, at each file in order.
use Rattle.std.specs.Prelude.{ℕ, List, [], ◌∷◌, ◌++◌, ◌≡◌, ◌==◌, ◌+◌, refl}
use Rattle.std.specs.BTreeMap.{BTreeMap}
use Rattle.std.proofs.Common.{inl, inr, ap, sym, subst, append-nil, ◌∙◌}
use Rattle.std.proofs.lemmas.Bool.{cases_Bool}
use Rattle.server_rules.specs.declared.files.File.{File}
use Rattle.server_rules.specs.declared.server.Drive.{Drive}
use Rattle.server_rules.specs.declared.server.Effects.{Effects}
use Rattle.server_rules.specs.declared.server.Server.{Server}
use Rattle.server_rules.specs.Files.{begins}
use Rattle.server_rules.specs.Going.{Going}
use Rattle.server_rules.specs.Jobs.{declares}
use Rattle.server_rules.specs.Orders.{declare, declares_each, offline}
use Rattle.server_rules.specs.Rounds.{Round, then_files, step_round}
use Rattle.stripe_repair.specs.declared.loads.DriveLoad.{DriveLoad}
use Rattle.file_jobs.specs.declared.job.FileState.{FileState}
use Rattle.file_jobs.specs.Placing.{AreLoadsOf}
use Rattle.server_state.specs.declared.state.State.{State}
use Rattle.server_state.specs.declared.step.Step.{Step}
use Rattle.server_state.specs.Drives.{RiseFrom, AreDrives}
use Rattle.server_state.specs.Tables.{files_in}
use Rattle.server_state.specs.States.{server_of, Did, IsGood, IsReady, Settles}
use Rattle.layout_server.specs.Rounds.{each_file, GoesRound}

-- the round of the rules
declared_each : (drive : ℕ) (ds : List Drive) (fs : List File) (m : Effects) (chosen : List ℕ) →
    each_file (λ g. declares g drive) ds fs m chosen ≡ declares_each drive ds fs m chosen
unfolding each_file declares_each
declared_each drive ds [] m chosen = refl
declared_each drive ds (f ∷ fs) m chosen =
    let g : Going = declares (record { file = f; effects = m; drives = ds; chosen = chosen }) drive in
    ap (then_files g) (declared_each drive ds fs g.effects g.chosen)

-- ---- the step

-- the drives are the same, but for one that is offline
offline_rises : (least : ℕ) (ds : List Drive) (drive : ℕ) → RiseFrom least ds → RiseFrom least (offline ds drive)
unfolding offline
offline_rises least [] drive r = tt
offline_rises least (d ∷ ds) drive r = elim (cases_Bool (d.number == drive)) [
  | inl here ↦ rw here (r.0, r.1, offline_rises (d.number + 1) ds drive r.2)
  | inr other ↦ rw other (r.0, r.1, offline_rises (d.number + 1) ds drive r.2)
]

pub still_drives : (ds : List Drive) (drive : ℕ) → AreDrives ds → AreDrives (offline ds drive)
still_drives ds drive r = offline_rises 0 ds drive r

-- what comes of it, once it was declared at each file
pub declared_at : (old : State) (drives : List Drive) (files : BTreeMap ℕ FileState) (new : State) (m : Effects)
    (loads : List DriveLoad) (drive : ℕ) (out : Step) →
    IsGood old → drives ≡ offline old.drives drive → AreLoadsOf loads drives →
    GoesRound (AreLoadsOf loads) (λ g. declares g drive) old.files.entries (begins (server_of old)) files.entries m →
    Settles (record old { drives = drives; files = files }) m new out →
    ((chosen : List ℕ) × Did out (server_of new) (declare (server_of old) chosen drive)) × IsReady new
unfolding declare
declared_at old drives files new m loads drive out good off loaded did fin =
    let s : Server = server_of old in
    let h = did.round drives loaded in
    let e : record { files = files_in files.entries; effects = m; chosen = [] } ≡ declares_each drive
    (offline old.drives drive) s.files (begins s) h.0 =
    h.1 [] ∙ declared_each drive drives s.files (begins s) (h.0 ++ [])
    ∙ ap (λ (cs : List ℕ). declares_each drive drives s.files (begins s) cs) (append-nil h.0)
    ∙ ap (λ (ds : List Drive). declares_each drive ds s.files (begins s) h.0) off in (
      (
        h.0,
        subst (λ (r : Round). Did out (server_of new) (step_round (record s { drives = offline old.drives drive }) r)) e
            (subst (λ (ds : List Drive). Did out (server_of new)
            (step_round (record s { drives = ds }) (record { files = files_in files.entries; effects = m; chosen = [] }))) off
            (record { state = ap server_of fin.state; sends = fin.sends; notes = fin.notes; mended = fin.mended })),
      ),
      subst (λ (z : State). IsReady z) (sym fin.state)
          (record {
            files = did.entries;
            grants = good.grants;
            drives =
                subst (λ (ds : List Drive). AreDrives ds) (sym off) (still_drives old.drives drive good.drives);
          }),
    )
