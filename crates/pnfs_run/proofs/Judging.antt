-- How a run ends by words that are refused or read.
use Rattle.std.proofs.Common.{◌≡◌, List, Option, Some, None, inl, inr, sym, subst}
use Rattle.clap.specs.Walk.{Text}
use Rattle.clap.specs.Simple.{App}
use Rattle.cluster_text.specs.declared.stop.CommandStop.{CommandStop}
use Rattle.cluster_text.specs.declared.stop.CommandStop.TheVariants as stop
use Rattle.command_words.specs.declared.words.WordsErr.TheVariants.{Bad}
use Rattle.command_words.specs.Asked.{Asks, Refuses}
use Rattle.client_command.specs.declared.work_ends.ClientEnd.TheVariants as client
use Rattle.pnfs_run.specs.declared.status.Status.{Status}
use Rattle.pnfs_run.specs.declared.status.Status.TheVariants.{BadWords}
use Rattle.pnfs_run.specs.Exit.{by_stop}
use Rattle.pnfs_run.specs.Ends.{Ends}
use Rattle.pnfs_run.specs.Network.{Runs}
use Rattle.osd_disk.specs.declared.disk.Disk.{Ghosts as DiskGhosts}
use Rattle.pnfs_run.specs.declared.party.Party.{Party}
use Rattle.pnfs_run.specs.Run.{JudgesWords, Promises}

module _ {W : Type 0} (options : App) (gives : List Text → Option W → Type 0) (Does : W → Ends → Ends → Status → Type 0)
    (words : List Text) (before now : Ends) where
  -- ---- words that are read

  pub stopped : (asked : W) (why : CommandStop) (status : Status) → status ≡ by_stop why → Asks options gives words asked
      → Does asked before now (by_stop why) → Runs options gives Does words before now status
  stopped asked why status is asks does =
      subst (λ (s : Status). Runs options gives Does words before now s) (sym is) (go why does)
    where
      go : (w : CommandStop) → Does asked before now (by_stop w) → Runs options gives Does words before now (by_stop w)
      go (stop.BadCluster kind) d = (asked, asks, d)
      go stop.ReadFault d = (asked, asks, d)
      go stop.WriteFault d = (asked, asks, d)
      go stop.Memory d = inr (asked, asks, d)
      go stop.Full d = (asked, asks, d)
      go stop.LinkFault d = (asked, asks, d)

module _ {W : Type 0} (options : App) (gives : List Text → Option W → Type 0) (words : List Text) where
  -- words that ask for something aren't bad
  pub good : (asked : W) (status : Status) → (gives words (Some asked) → gives words None → ⊥) → Asks options gives words asked
      → (status ≡ BadWords → ⊥) → JudgesWords (Refuses options gives words Bad) status
  good asked status apart asks other = record {
    bad = λ is. absurd (other is);
    only = λ b. absurd (elim b [ inl ne ↦ ne asks.0 | inr none ↦ apart asks.1 none ]);
  }

-- what is promised of the party that the words name
pub as_party : {D : Type 0} (s : DiskGhosts D) (disk left : D) (o : Option Party) (p : Party) (words : List Text)
    (before now : Ends) (status : Status) → o ≡ Some p → Promises s disk left (Some p) words before now status
    → Promises s disk left o words before now status
as_party s disk left o p words before now status is x =
    subst (λ (q : Option Party). Promises s disk left q words before now status) (sym is) x
