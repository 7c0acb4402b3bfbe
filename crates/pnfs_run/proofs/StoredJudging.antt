-- How a run of a drive or of a server with a store ends by words that are read.
use Rattle.std.proofs.Common.{◌≡◌, List, Option, Some, None, sym, subst}
use Rattle.clap.specs.Walk.{Text}
use Rattle.clap.specs.Simple.{App}
use Rattle.command_words.specs.Asked.{Asks}
use Rattle.command_words.specs.StoredAsked.{stored_drive_gives, stored_server_gives}
use Rattle.command_words.specs.declared.stored_words.StoredDriveWords.{StoredDriveWords}
use Rattle.command_words.specs.declared.stored_words.StoredServerWords.{StoredServerWords}
use Rattle.drive_command.specs.declared.stored_stop.StoredStop.{StoredStop}
use Rattle.drive_command.specs.declared.stored_stop.StoredStop.TheVariants.{Command, DiskFault, BadStore}
use Rattle.pnfs_run.specs.declared.status.Status.{Status}
use Rattle.pnfs_run.specs.Exit.{by_stored}
use Rattle.pnfs_run.specs.Ends.{Ends}
use Rattle.pnfs_run.specs.Network.{Runs}
use Rattle.pnfs_run.proofs.Judging.{stopped}

module _ {W : Type 0} (options : App) (gives : List Text → Option W → Type 0) (Does : W → Ends → Ends → Status → Type 0)
    (words : List Text) (before now : Ends) where
  pub stored_stopped : (asked : W) (why : StoredStop) (status : Status) → status ≡ by_stored why → Asks options gives words asked
      → Does asked before now (by_stored why) → Runs options gives Does words before now status
  stored_stopped asked (Command why) status is asks does =
      stopped options gives Does words before now asked why status is asks does
  stored_stopped asked DiskFault status is asks does =
      subst (λ (s : Status). Runs options gives Does words before now s) (sym is) (asked, asks, does)
  stored_stopped asked (BadStore at) status is asks does =
      subst (λ (s : Status). Runs options gives Does words before now s) (sym is) (asked, asks, does)

-- the words of a drive with a store give one thing or none
pub stored_drive_apart : (words : List Text) (asked : StoredDriveWords) → stored_drive_gives words (Some asked) →
    stored_drive_gives words None → ⊥
stored_drive_apart words asked some none = none asked some

-- and so do those of a server with a store
pub stored_server_apart : (words : List Text) (asked : StoredServerWords) → stored_server_gives words (Some asked) →
    stored_server_gives words None → ⊥
stored_server_apart words asked some none = none asked some
