-- What a crash leaves of a store while no call of its disk is made.
use Rattle.std.specs.Prelude.{ℕ, List, Bool}
use Rattle.std.proofs.Common.{sym, subst}
use Rattle.gate_log.specs.declared.log.GateLog.{GateLog}
use Rattle.gate_log.specs.Standing.{disk_of}
use Rattle.osd_drive.specs.State.{DriveState}
use Rattle.drive_store.specs.Stores.{IsStoreOf, KeepsDrive}

module _ {D : Type 0} (tells : D → Bool) (seen : D → List ℕ) (may_leave : D → List ℕ → Type 0) where
  -- what a read gives stands for the drive
  pub stands : (d : DriveState) (log : GateLog D) → KeepsDrive tells seen may_leave d log → IsStoreOf d (seen (disk_of log))
  stands d log k = record {
    records = k.records;
    log = record { front = k.rest.front; is_front = k.rest.is_front; rest = k.rest.rest; contents = k.rest.contents };
    lead = k.lead;
  }

  -- and so does whatever a crash leaves
  pub kept_leaves : (d : DriveState) (log : GateLog D) → KeepsDrive tells seen may_leave d log → (c : List ℕ)
      → may_leave (disk_of log) c → IsStoreOf d c
  kept_leaves d log k c left = subst (IsStoreOf d) (sym (k.rest.durable c left)) (stands d log k)
