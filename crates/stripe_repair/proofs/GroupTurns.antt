-- The next stripe of a group.
use Rattle.std.specs.Prelude.{ℕ, ◌≡◌, ◌≢◌, ◌+◌, ◌-◌, ◌*◌, ◌/◌, ◌%◌, ◌<◌, ◌≤◌, refl}
use Rattle.std.proofs.Common.{arith, sym, ap, ◌∙◌, eq-eqb, ne_eqb}
use Rattle.std.proofs.Math.Nat.{div_self}
use Rattle.data_map.specs.declared.check.RawMap.{RawMap}
use Rattle.data_map.specs.Check.{IsChecked}
use Rattle.data_map.specs.Striping.{group_of, groups, group_width, positions}
use Rattle.stripe_repair.proofs.Turns.{next_turn, turn_stands, turn_none, turn_from}

-- the stripe of a group behind one that stands in another
abbrev pub next_of : RawMap → (group stripe : ℕ) → ℕ
next_of m group stripe = (stripe / m.depth + (group + groups m - group_of m stripe) % groups m) * m.depth

-- where a stripe stands in another group than the first, there are groups
grouped : (m : RawMap) (group stripe : ℕ) → IsChecked m → group < groups m → group_of m stripe ≢ group → m.width ≢ 0
grouped m group stripe ch lt ne none =
    let own : group_of m stripe ≡ 0 = rw (eq-eqb m.width 0 none) refl in
    let wide : 0 < group_width m = omega (arith, ch.some_data) in
    let some : 0 < positions m = rw (eq-eqb m.width 0 none) at wide in
    let one : groups m ≡ 1 = rw (eq-eqb m.width 0 none) (div_self some) in
    ne (own ∙ omega (arith, lt, one))

-- so its group follows from its block
by_block : (m : RawMap) (s : ℕ) → m.width ≢ 0 → group_of m s ≡ (s / m.depth) % groups m
by_block m s some = rw (ne_eqb m.width 0 some) refl

as_turn : (m : RawMap) (group stripe : ℕ) → m.width ≢ 0 → next_of m group stripe ≡ next_turn stripe m.depth group (groups m)
as_turn m group stripe some = ap (λ z. (stripe / m.depth + (group + groups m - z) % groups m) * m.depth) (by_block m stripe some)

pub next_from : (m : RawMap) (group stripe : ℕ) → IsChecked m → group < groups m → group_of m stripe ≢ group →
    stripe ≤ next_of m group stripe
next_from m group stripe ch lt ne =
    let some = grouped m group stripe ch lt ne in
    rw (as_turn m group stripe some)
    (turn_from stripe m.depth group (groups m) (ch.some_depth some) lt (λ e. ne (by_block m stripe some ∙ e)))

pub next_stands : (m : RawMap) (group stripe : ℕ) → IsChecked m → group < groups m → group_of m stripe ≢ group →
    group_of m (next_of m group stripe) ≡ group
next_stands m group stripe ch lt ne =
    let some = grouped m group stripe ch lt ne in
    by_block m (next_of m group stripe) some ∙ ap (λ z. (z / m.depth) % groups m) (as_turn m group stripe some)
    ∙ turn_stands stripe m.depth group (groups m) (ch.some_depth some) lt

pub next_none : (m : RawMap) (group stripe : ℕ) → IsChecked m → group < groups m → group_of m stripe ≢ group →
    (s : ℕ) → stripe ≤ s → s < next_of m group stripe → group_of m s ≢ group
next_none m group stripe ch lt ne s le before e =
    let some = grouped m group stripe ch lt ne in
    turn_none stripe m.depth group (groups m) s (ch.some_depth some) lt le (rw (as_turn m group stripe some) at before)
    (sym (by_block m s some) ∙ e)
