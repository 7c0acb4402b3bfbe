-- One image of a crash, call by call.
use Rattle.std.specs.Prelude.{◌≡◌, ℕ, List, length}
use Rattle.osd_disk.specs.Crashes.{Torn}
use Rattle.osd_disk.specs.declared.calls.Call.{Call}
use Rattle.osd_disk.specs.declared.calls.Call.TheVariants.{Write, Sync, Idle}

-- from an image before a call a crash may leave this one after it
abbrev pub Leaves : Call → List ℕ → List ℕ → List ℕ → Type 0
Leaves (Write at bytes) seen before now = Torn at (length bytes) before now
Leaves Sync seen before now = now ≡ seen
Leaves Idle seen before now = now ≡ before
