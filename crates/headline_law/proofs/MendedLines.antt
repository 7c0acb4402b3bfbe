-- What each line that a repair is over says, by what its repair counted and by the stripes that it leaves undisturbed.
use Rattle.std.proofs.Common.{◌≡◌, ◌++◌, ◌∷◌, [], ℕ, zero, suc, List, true, false, arith}
use Rattle.scenario_text.specs.declared.line.Line.{Line}
use Rattle.scenario_text.specs.declared.line.Line.TheVariants as line
use Rattle.scenario_text.specs.declared.line.Note.TheVariants as note
use Rattle.world_history.specs.Calm.{moment_of}
use Rattle.world_history.specs.History.{Lawful}
use Rattle.world_history.specs.Stripes.{is_disturbed, is_worked}
use Rattle.history_law.specs.Read.{AreWritten}
use Rattle.file_simulation.specs.Claim.{EachRepairLeavesNone, IsRepaired, RepairsLeaveNoneDisturbed}
use Rattle.headline_law.specs.Mended.{EndsCounted, RepairsAreCounted}

module _ (counted : RepairsAreCounted) (leaves : RepairsLeaveNoneDisturbed) where
  -- the lines up to the note
  abbrev up_to : List Line → (file stripes short : ℕ) → List Line
  up_to before file stripes short = before ++ line.Note file (note.Repaired stripes short) ∷ []

  clean : (before : List Line) (file stripes short : ℕ) → Lawful (up_to before file stripes short) →
      AreWritten (up_to before file stripes short) → (r : EndsCounted (up_to before file stripes short) file stripes short) →
      short ≡ 0 → (s : ℕ) → is_worked s r.repair.worked ≡ true →
      is_disturbed (moment_of (up_to before file stripes short)) file s ≡ false
  clean before file stripes zero lawful written r none s worked =
      leaves before file stripes r.repair lawful written r.ends s worked
  clean before file stripes (suc n) lawful written r none s worked = absurd (omega (arith, none))

  at_note : (before : List Line) (file stripes short : ℕ) → Lawful (up_to before file stripes short) →
      AreWritten (up_to before file stripes short) → IsRepaired (up_to before file stripes short) file stripes short
  at_note before file stripes short lawful written =
      let r = counted before file stripes short lawful written in
      record {
        repair = r.repair;
        ends = r.ends;
        before = r.before;
        there = r.there;
        worked = r.worked;
        counted = r.counted;
        left = r.left;
        undisturbed = clean before file stripes short lawful written r;
      }

  pub each_repair_leaves_none : EachRepairLeavesNone
  each_repair_leaves_none before (line.Note file (note.Repaired stripes short)) lawful = at_note before file stripes short lawful
  each_repair_leaves_none before l lawful = tt
