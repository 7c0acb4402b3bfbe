-- How the tests choose drives.
use Rattle.std.specs.Prelude.{ℕ, List, [], ◌∷◌, ◌++◌, ◌&&◌, nat_lt, length, if◌then◌else◌}
use Rattle.stripe_repair.specs.declared.loads.DriveLoad.{DriveLoad}

-- with the drive of this load, where it is online and more are wanted
abbrev pub with_load : (count : ℕ) → DriveLoad → List ℕ → List ℕ
with_load count l chosen = if l.online && nat_lt (length chosen) count then chosen ++ (l.drive ∷ []) else chosen
