-- How a command with a store stops.
use Rattle.std.specs.Prelude.{◌≡◌, ℕ, List, [], ◌∷◌, ◌++◌, Option, codes}
use Rattle.std.specs.Fmt.{decimal}
use Rattle.cluster_text.specs.declared.stop.CommandStop.{CommandStop}
use Rattle.cluster_text.specs.Lines.{stop_line}
use Rattle.drive_command.specs.declared.stored_stop.StoredStop.{StoredStop}
use Rattle.drive_command.specs.declared.stored_stop.StoredStop.TheVariants.{Command, DiskFault, BadStore}

-- it stops for a cause that a drive in memory has too
abbrev pub ForCause : (CommandStop → Type 0) → StoredStop → Type 0
ForCause Why (Command cause) = Why cause
ForCause Why DiskFault = ⊥
ForCause Why (BadStore at) = ⊥

-- it stops for this reason, nothing was told, and the disk is as it was given
pub record StopsBefore {D : Type 0} (taken_before taken : Option (List ℕ)) (disk left : D) (Why : Type 0) : Type 0 where
  pub why : Why
  pub silent : taken ≡ taken_before
  pub alone : left ≡ disk

-- the line that tells of the stop
abbrev pub stored_stop_line : StoredStop → List ℕ
stored_stop_line (Command stop) = stop_line stop
stored_stop_line DiskFault = codes "error disk\n"
stored_stop_line (BadStore at) = codes "error store " ++ (decimal at ++ (10 ∷ []))
