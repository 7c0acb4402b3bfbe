-- A crash of the server and the opening after it, at each file in order.
use Rattle.std.specs.Prelude.{ℕ, List, [], ◌∷◌, ◌++◌, true, false, Bool, ◌≡◌, map, length, nat_lt, not, ◌||◌, refl}
use Rattle.std.specs.BTreeMap.{BTreeMap}
use Rattle.std.proofs.Common.{arith, ap, sym, subst, ◌∙◌}
use Rattle.std.proofs.lemmas.Bool.{true≢false}
use Rattle.std.proofs.lemmas.Bool.Decides.{nat_tests}
use Rattle.server_rules.specs.declared.files.File.{File}
use Rattle.server_rules.specs.declared.files.Kept.{Kept}
use Rattle.server_rules.specs.declared.grants.Grant.{Grant}
use Rattle.server_rules.specs.declared.server.Drive.{Drive}
use Rattle.server_rules.specs.declared.server.Effects.{Effects}
use Rattle.server_rules.specs.declared.server.Server.{Server}
use Rattle.server_rules.specs.Files.{begins}
use Rattle.server_rules.specs.Going.{Going}
use Rattle.server_rules.specs.Messages.{counters_have_room}
use Rattle.server_rules.specs.Openings.{crash, crashed_file, is_still, is_unsettled, opens, opens_each, reopen}
use Rattle.server_rules.specs.Rounds.{Round, then_files, step_round}
use Rattle.file_jobs.specs.declared.job.FileState.{FileState}
use Rattle.server_state.specs.declared.state.State.{State}
use Rattle.server_state.specs.declared.step.Step.{Step}
use Rattle.server_state.specs.Tables.{files_in}
use Rattle.server_state.specs.States.{server_of, Did, IsGood, IsReady, Settles}
use Rattle.layout_server.specs.Restarting.{crashes_at}
use Rattle.layout_server.specs.Rounds.{each_file, unasked, GoesRound}

-- ---- the rounds of the rules

crashed_each : (ds : List Drive) (fs : List File) (m : Effects) (chosen : List ℕ) →
    each_file crashes_at ds fs m chosen ≡ record { files = map crashed_file fs; effects = m; chosen = chosen }
unfolding each_file
crashed_each ds [] m chosen = refl
crashed_each ds (f ∷ fs) m chosen =
    ap (then_files (record { file = crashed_file f; effects = m; drives = ds; chosen = chosen })) (crashed_each ds fs m chosen)

opened_each : (format : ℕ) (ds : List Drive) (fs : List File) (m : Effects) (chosen : List ℕ) →
    each_file (unasked (opens format)) ds fs m chosen ≡ record (opens_each format ds fs m) { chosen = chosen }
unfolding each_file opens_each
opened_each format ds [] m chosen = refl
opened_each format ds (f ∷ fs) m chosen =
    let g : Going = opens format (record { file = f; effects = m; drives = ds; chosen = [] }) in
    ap (then_files g) (opened_each format ds fs g.effects chosen)

-- ---- the steps

-- without a grant
pub no_grants : (f : Kept) → is_unsettled f ≡ false → f.grants ≡ []
no_grants f e = none f.grants (not (is_still f.phase)) e
  where
    none : (gs : List Grant) (b : Bool) → (nat_lt 0 (length gs) || b) ≡ false → gs ≡ []
    none [] b e = refl
    none (g ∷ gs) b e =
        let some : nat_lt 0 (length (g ∷ gs)) ≡ true = grind (arith, nat_tests) in
        absurd (true≢false (ap (λ (x : Bool). x || b) (sym some) ∙ e))

-- what comes of a crash
pub crashed_at : (old : State) (files : BTreeMap ℕ FileState) (m m' : Effects) → IsGood old →
    GoesRound (λ ds. Unit {0}) crashes_at old.files.entries m files.entries m' →
    (server_of (record old { files = files }) ≡ crash (server_of old)) × IsReady (record old { files = files })
crashed_at old files m m' good did =
    let s : Server = server_of old in
    let h = did.round s.drives tt in
    let e : record { files = files_in files.entries; effects = m'; chosen = [] } ≡ record {
      files =
          map crashed_file s.files;
      effects = m;
      chosen = h.0 ++ [];
    } =
    h.1 [] ∙ crashed_each s.drives s.files m (h.0 ++ []) in (
      ap (λ (r : Round). record s { files = r.files }) e,
      record { files = did.entries; grants = good.grants; drives = good.drives },
    )

-- what comes of an opening
pub opened_at : (old : State) (files : BTreeMap ℕ FileState) (new : State) (m : Effects) (out : Step) →
    IsGood old → counters_have_room (server_of old) ≡ true →
    GoesRound (λ ds. Unit {0}) (unasked (opens old.format)) old.files.entries (begins (server_of old)) files.entries m →
    Settles (record old { files = files }) m new out → Did out (server_of new) (reopen (server_of old)) × IsReady new
unfolding reopen
opened_at old files new m out good room did fin =
    let s : Server = server_of old in
    let h = did.round s.drives tt in
    let e : record { files = files_in files.entries; effects = m; chosen = [] } ≡ record
    (opens_each s.format s.drives s.files (begins s)) { chosen = h.0 ++ [] } =
    h.1 [] ∙ opened_each s.format s.drives s.files (begins s) (h.0 ++ []) in
    let same : step_round s (record { files = files_in files.entries; effects = m; chosen = [] }) ≡ step_round s
    (opens_each s.format s.drives s.files (begins s)) =
    ap (step_round s) e in (
      rw room (subst (λ z. Did out (server_of new) z) same
          (record { state = ap server_of fin.state; sends = fin.sends; notes = fin.notes; mended = fin.mended })),
      subst (λ (z : State). IsReady z) (sym fin.state)
          (record { files = did.entries; grants = good.grants; drives = good.drives }),
    )
