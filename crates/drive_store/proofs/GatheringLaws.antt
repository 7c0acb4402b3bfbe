-- Changes that are gathered.
use Rattle.std.proofs.Common.{◌≡◌, ◌⊎◌, ℕ, List, [], ◌∷◌, ◌++◌, Bool, Option, Some, sym, ◌∙◌, ap, subst}
use Rattle.osd_disk.specs.Crashes.{LeavesOnly}
use Rattle.gate_log.specs.Standing.{IsAtRest, disk_of}
use Rattle.gate_log.specs.Together.{HaveBodies}
use Rattle.gate_log.specs.Logs.{IsLog}
use Rattle.osd_commands.specs.declared.commands.Command.{Command}
use Rattle.osd_drive.specs.State.{DriveState}
use Rattle.osd_drive.specs.Effects.{performed}
use Rattle.drive_store.specs.declared.gathering.GatheringDrive.{GatheringDrive}
use Rattle.drive_store.specs.Gathering.{IsCommitted, LeadsFrom}
use Rattle.drive_store.specs.Records.{IsChange, after_record_of}
use Rattle.drive_store.specs.Stores.{KeepsDrive, StandForEither, emptied, header_for}
use Rattle.drive_store.proofs.RecordLaws.{change_step, replayed-more}
use Rattle.drive_store.proofs.StoreLaws.{kept_all, weaker, with_or_without_all}

module _ {D : Type 0} (first : DriveState) (old new : GatheringDrive D) (l : LeadsFrom first old) where
  -- one change more is gathered
  pub leads_on : (now : ℕ) (message entry : List ℕ) (c : Command) → IsChange old.core now message c
      → new.core ≡ performed old.core c → entry ≡ message
      → ((bodies : List (List ℕ)) → HaveBodies bodies old.gathered → HaveBodies (bodies ++ entry ∷ []) new.gathered)
      → LeadsFrom first new
  leads_on now message entry c is made same push =
      let step = change_step old.core new.core now message entry c is made same in record {
        records = l.records ++ entry ∷ [];
        gathered = push l.records l.gathered;
        leads = replayed-more (Some first) l.records entry
            ∙ ap (λ (o : Option DriveState). after_record_of o entry) l.leads ∙ step.leads;
        same = step.same ∙ l.same;
      }

  -- the drive and what is gathered stay
  pub leads_still : new.core ≡ old.core → new.gathered ≡ old.gathered → LeadsFrom first new
  leads_still core gathered = record {
    records = l.records;
    gathered = subst (HaveBodies l.records) (sym gathered) l.gathered;
    leads = l.leads ∙ ap (λ (d : DriveState). Some d) (sym core);
    same = ap (λ (d : DriveState). emptied d) core ∙ l.same;
  }

module _ {D : Type 0} (tells : D → Bool) (seen : D → List ℕ) (may_leave : D → List ℕ → Type 0) (moment : D → ℕ)
    (left_since : D → ℕ → List ℕ → Type 0) (first : DriveState) (old : GatheringDrive D) (l : LeadsFrom first old)
    (k : KeepsDrive tells seen may_leave first old.log) where
  -- a crash leaves the drive before them or after them
  pub either_all : (new : D)
      → LeavesOnly moment left_since (disk_of old.log) new
      (λ c. IsLog (header_for first) k.records c ⊎ IsLog (header_for first) (k.records ++ l.records) c)
      → LeavesOnly moment left_since (disk_of old.log) new (StandForEither first old.core)
  either_all new leaves = weaker tells seen may_leave moment left_since (disk_of old.log) new _ _ leaves
      (with_or_without_all k.records l.records first old.core k.lead l.leads l.same)

  -- all of them are on the disk
  pub committed : (new : GatheringDrive D) → new.core ≡ old.core → HaveBodies [] new.gathered
      → IsAtRest tells seen may_leave (header_for first) (k.records ++ l.records) new.log
      → IsCommitted tells seen may_leave new
  committed new core empty rest = record {
    kept = subst (λ (d : DriveState). KeepsDrive tells seen may_leave d new.log) (sym core)
        (kept_all tells seen may_leave moment left_since k.records l.records first old.core new.log k.lead l.leads l.same rest);
    empty = empty;
  }
