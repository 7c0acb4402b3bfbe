-- How many present components stand on each drive.
use Rattle.std.specs.Prelude.{ℕ, Bool, List, cond, min, not, count_by, slice_index, ◌≡◌, ◌<◌, ◌==◌, ◌&&◌, ◌-◌, ◌^◌}
use Rattle.server_rules.specs.declared.files.Component.{Component}
use Rattle.zone_place.specs.declared.loads.TheConstants.{MAX_DRIVES}

-- a count for each drive of a number below MAX_DRIVES
abbrev pub Counts : Type 0
Counts = List ℕ

-- the counts are these
abbrev pub AreCounts : Counts → (ℕ → ℕ) → Type 0
AreCounts counts f = (d : ℕ) → d < MAX_DRIVES → slice_index counts d ≡ f d

-- what is told of drive d: at most the greatest number of 32 bits
abbrev pub told : Counts → (d : ℕ) → ℕ
told counts d = min (slice_index counts d) (2 ^ 32 - 1)

-- the component is present, on drive d
abbrev pub stands_on : (d : ℕ) → Component → Bool
stands_on d c = not c.missing && (c.drive == d)

-- 1 for the drive of that number, 0 for any other
abbrev pub one : (d drive : ℕ) → ℕ
one d drive = cond (drive == d) 1 0

-- how many of these are present on drive d
abbrev pub standing : (d : ℕ) → List Component → ℕ
standing d cs = count_by (stands_on d) cs
