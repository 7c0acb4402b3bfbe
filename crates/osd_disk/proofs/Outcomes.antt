-- What is known after a call of a disk in memory that did what it should, or failed.
use Rattle.std.proofs.Common.{◌≡◌, ℕ, ◌≤◌, List, length, Result, Ok, Err, OnOk, OnErr, IsTrue, true}
use Rattle.osd_disk.specs.Crashes.{Holds, Torn, Follows, Narrows, Only, Elapses}
use Rattle.osd_disk.specs.Medium.{Medium, bytes_of, may_hold, might_hold, Did, Failed}
use Rattle.osd_disk.specs.declared.calls.Call.{Call}
use Rattle.osd_disk.specs.declared.calls.Call.TheVariants.{Write, Sync, Idle}
use Rattle.osd_disk.specs.declared.disk.DiskErr.{DiskErr}
use Rattle.osd_disk.proofs.Media.{failed_is_calm, failed_follows, failed_torn, did_elapse, did_bytes, idle_narrows, sync_only, sync_narrows, write_follows, write_torn, write_holds}

module _ {T : Type 0} (m n : Medium) where
  pub time_after : (call : Call) (r : Result T DiskErr) → OnOk r (Did call m n) → OnErr r (Failed m n)
      → Elapses (length m.calls) (length n.calls) (might_hold m) (might_hold n) (may_hold n)
  time_after call (Ok x) did failed = did_elapse m n call did
  time_after call (Err e) did failed = (failed_is_calm m n failed).time

  pub idle_seen : (r : Result T DiskErr) → OnOk r (Did Idle m n) → OnErr r (Failed m n) → bytes_of n ≡ bytes_of m
  idle_seen (Ok x) did failed = did_bytes m n Idle did
  idle_seen (Err e) did failed = (failed_is_calm m n failed).bytes

  pub idle_crash : (r : Result T DiskErr) → OnOk r (Did Idle m n) → OnErr r (Failed m n) → Narrows (may_hold m) (may_hold n)
  idle_crash (Ok x) did failed = idle_narrows m n did
  idle_crash (Err e) did failed = (failed_is_calm m n failed).narrows

  pub sync_seen : (r : Result T DiskErr) → OnOk r (Did Sync m n) → OnErr r (Failed m n) → bytes_of n ≡ bytes_of m
  sync_seen (Ok x) did failed = did_bytes m n Sync did
  sync_seen (Err e) did failed = (failed_is_calm m n failed).bytes

  pub sync_crash : (r : Result T DiskErr) → OnOk r (Did Sync m n) → OnErr r (Failed m n) → Narrows (may_hold m) (may_hold n)
  sync_crash (Ok x) did failed = sync_narrows m n did
  sync_crash (Err e) did failed = (failed_is_calm m n failed).narrows

  pub sync_durable : (r : Result T DiskErr) → OnOk r (Did Sync m n) → OnOk r (IsTrue true → Only (bytes_of m) (may_hold n))
  sync_durable (Ok x) did = λ told. sync_only m n did
  sync_durable (Err e) did = tt

  module _ (at : ℕ) (bytes : List ℕ) where
    pub write_crash : (r : Result T DiskErr) → OnOk r (Did (Write at bytes) m n) → OnErr r (Failed m n) →
        Follows (Torn at (length bytes)) (may_hold m) (may_hold n)
    write_crash (Ok x) did failed = write_follows m n at bytes did
    write_crash (Err e) did failed = failed_follows m n at (length bytes) failed

    pub write_part : (r : Result T DiskErr) → OnOk r (Did (Write at bytes) m n) → OnErr r (Failed m n) → IsTrue true →
        Torn at (length bytes) (bytes_of m) (bytes_of n)
    write_part (Ok x) did failed told = write_torn m n at bytes did
    write_part (Err e) did failed told = failed_torn m n at (length bytes) failed

    pub write_bytes : (r : Result T DiskErr) → OnOk r (Did (Write at bytes) m n) →
        OnOk r (IsTrue true → at ≤ length (bytes_of m) → Holds (bytes_of m) at bytes (bytes_of n))
    write_bytes (Ok x) did = λ told le. write_holds m n at bytes did le
    write_bytes (Err e) did = tt
