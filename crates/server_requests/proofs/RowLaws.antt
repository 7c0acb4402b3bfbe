-- Stripes of a group below a stripe, and the stripes of a grant.
use Rattle.std.specs.Prelude.{ℕ, ◌≤◌, ◌<◌, ◌+◌, ◌-◌, ◌*◌, ◌/◌}
use Rattle.std.proofs.Common.{arith}
use Rattle.std.proofs.Math.Nat.{div-mul-le_self, mul-le-mul_left, div-le_of_le-mul, le-div_iff_mul-le}
use Rattle.std.proofs.lemmas.Bool.Decides.{nat_tests}
use Rattle.data_map.specs.declared.check.RawMap.{RawMap}
use Rattle.data_map.specs.declared.ranges.TheConstants.{MAX_FILE_SIZE}
use Rattle.data_map.specs.Check.{IsChecked}
use Rattle.data_map.specs.Striping.{groups}
use Rattle.data_map.proofs.Shape.{some_groups}
use Rattle.server_rules.specs.Maps.{rows_below}

-- a quotient by a longer divisor, times the shorter one
quotient_low : (s d n : ℕ) → 0 < n → s / (d * n) * d ≤ s
quotient_low s d n some =
    let a : s / (d * n) * (d * n) ≤ s = div-mul-le_self s (d * n) in
    let b : d * 1 ≤ d * n = mul-le-mul_left d some in
    let c : s / (d * n) * (d * 1) ≤ s / (d * n) * (d * n) = mul-le-mul_left (s / (d * n)) b in
    omega (arith, a, c)

-- a group has no more stripes below one than there are, and those of a turn
pub rows_low : (m : RawMap) (group s : ℕ) → IsChecked m → rows_below m group s ≤ s + m.depth
unfolding rows_below
rows_low m group s checked = grind (arith, nat_tests, quotient_low s m.depth (groups m) (some_groups m checked))

-- the stripe behind the last byte's
pub end_low : (x stripe : ℕ) → 0 < stripe → x ≤ MAX_FILE_SIZE → (x + (stripe - 1)) / stripe ≤ MAX_FILE_SIZE
end_low x stripe some low =
    let l : x + (stripe - 1) ≤ stripe * MAX_FILE_SIZE = omega arith in
    div-le_of_le-mul stripe l

-- the first stripe isn't behind it
pub first_before : (a b stripe : ℕ) → 0 < stripe → a ≤ b → a / stripe ≤ (b + (stripe - 1)) / stripe
first_before a b stripe some l =
    let h : a / stripe * stripe ≤ a = div-mul-le_self a stripe in
    let k : a / stripe * stripe ≤ b + (stripe - 1) = omega (arith, h) in
    (le-div_iff_mul-le some).1 k
