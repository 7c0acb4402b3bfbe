-- What TCP links stand for: their addresses and connections, and the calls that failed.
use Rattle.std.specs.Prelude.{◌≡◌, ℕ}
use Rattle.osd_bytes.specs.Causes.{Rose}
use Rattle.osd_bytes.specs.Connections.{Standing}
use Rattle.osd_bytes.specs.Counts.{Faults, NoFewer}

pub record Linked : Type 0 where
  pub standing : Standing
  pub faults : Faults

-- a call failed: its count rose, no other fell, and the connections stand as before
pub record Faulted (count : Faults → ℕ) (old new : Linked) : Type 0 where
  pub rose : Rose (count old.faults) (count new.faults)
  pub later : NoFewer old.faults new.faults
  pub same : new.standing ≡ old.standing
