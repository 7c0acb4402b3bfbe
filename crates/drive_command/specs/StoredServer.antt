-- A drive in a store, as what takes commands.
use Rattle.std.specs.Prelude.{ℕ, List, Bool}
use Rattle.drive_store.specs.declared.errors.StoreErr.{StoreErr}
use Rattle.drive_store.specs.declared.errors.StoreErr.TheVariants as store
use Rattle.drive_store.specs.declared.store.StoredDrive.{StoredDrive}
use Rattle.drive_store.specs.Stores.{IsKept, IsStoreOf, core_of, disk_in}
use Rattle.drive_store.specs.Resting.{kept_leaves}
use Rattle.drive_command.specs.declared.device_server.HandleErr.{HandleErr}
use Rattle.drive_command.specs.declared.device_server.HandleErr.TheVariants.{DiskFault, Memory}

-- why a command isn't answered then; a store that is open refuses no contents
abbrev pub handle_err_of : StoreErr → HandleErr
handle_err_of store.DiskFault = DiskFault
handle_err_of other = Memory

-- if nothing is asked of it, a crash leaves a store of the drive as it is
pub stays : {D : Type 0} (tells : D → Bool) (seen : D → List ℕ) (may_leave : D → List ℕ → Type 0) (moment : D → ℕ)
    (left_since : D → ℕ → List ℕ → Type 0) → ((disk : D) (c : List ℕ) → left_since disk (moment disk) c → may_leave disk c)
    → (s : StoredDrive D) (c : List ℕ) → IsKept tells seen may_leave s → left_since (disk_in s) (moment (disk_in s)) c →
    IsStoreOf (core_of s) c
stays tells seen may_leave moment left_since only_now s c k left =
    kept_leaves tells seen may_leave (core_of s) s.log k c (only_now (disk_in s) c left)
