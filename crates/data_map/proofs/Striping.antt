-- What the formulas give: each place has its byte, and the bytes of a unit lie one after another.
use Rattle.std.proofs.Common.{◌≡◌, ℕ, ◌+◌, ◌-◌, ◌*◌, ◌/◌, ◌%◌, ◌<◌, ◌≤◌, refl, sym, ap, ◌∙◌, arith, inl, inr}
use Rattle.std.proofs.lemmas.Bool.{cases_eq, eq-eqb, ne_eqb}
use Rattle.std.proofs.lemmas.Nat.{div-add-mod', div-mul-add, mod-mul-add, div_below, mod_below, mul-le}
use Rattle.std.proofs.Math.Nat.{add-mul, mul_assoc, mul-le-mul_right}
use Rattle.data_map.specs.declared.check.RawMap.{RawMap}
use Rattle.data_map.specs.Check.{IsChecked}
use Rattle.data_map.specs.Striping.{positions, group_width, groups, data_units, stripe_length, stripe_of, data_unit_of, column_of, group_of, row_of, offset_of, turned, position_of, place_of, left_in_unit}
use Rattle.data_map.specs.Inverse.{LiesAt, stripe_in, unit_in, stripe_at, unit_at, byte_at}
use Rattle.data_map.proofs.Numbers.{turned_back, turned_on, round_whole, round_group, round_row, row_most, digits, two_digits}
use Rattle.data_map.proofs.Shape.{whole_groups, some_data, some_groups, some_stripe, one_group}

-- ---- stripes, groups and rows

pub group_below : (m : RawMap) (s : ℕ) → IsChecked m → group_of m s < groups m
group_below m s c = elim (cases_eq m.width 0) [
  | inl none ↦ rw (eq-eqb m.width 0 none) (rw (eq-eqb m.width 0 none) at (some_groups m c))
  | inr some ↦ rw (ne_eqb m.width 0 some) (rw (ne_eqb m.width 0 some) at (mod_below (s / m.depth) (groups m) (some_groups m c)))
]

pub row_below : (m : RawMap) (s : ℕ) → row_of m s ≤ s
row_below m s = elim (cases_eq m.width 0) [
  | inl none ↦ rw (eq-eqb m.width 0 none) (omega arith)
  | inr some ↦ rw (ne_eqb m.width 0 some) (row_most m.depth (positions m / m.width) s)
]

pub stripe_again : (m : RawMap) (s : ℕ) → IsChecked m → stripe_in m (group_of m s) (row_of m s) ≡ s
stripe_again m s c = elim (cases_eq m.width 0) [
  | inl none ↦ rw (eq-eqb m.width 0 none) refl
  | inr some ↦
      let j = mod_below s m.depth (c.some_depth some) in
      let q = s / (m.depth * (positions m / m.width)) in
      rw (ne_eqb m.width 0 some, div-mul-add q m.depth (s % m.depth) j, mod-mul-add q m.depth (s % m.depth) j)
      (round_whole m.depth (positions m / m.width) s)
]

pub group_again : (m : RawMap) (group row : ℕ) → IsChecked m → group < groups m → group_of m (stripe_in m group row) ≡ group
group_again m group row c below = elim (cases_eq m.width 0) [
  | inl none ↦ rw (eq-eqb m.width 0 none) (omega (arith, below, one_group m c none))
  | inr some ↦ rw (ne_eqb m.width 0 some)
      (round_group m.depth (positions m / m.width) (row / m.depth) group (row % m.depth) (rw (ne_eqb m.width 0 some) at below)
      (mod_below row m.depth (c.some_depth some)))
]

pub row_again : (m : RawMap) (group row : ℕ) → IsChecked m → group < groups m → row_of m (stripe_in m group row) ≡ row
row_again m group row c below = elim (cases_eq m.width 0) [
  | inl none ↦ rw (eq-eqb m.width 0 none) refl
  | inr some ↦ rw (ne_eqb m.width 0 some)
      (round_row m.depth (positions m / m.width) (row / m.depth) group (row % m.depth) (rw (ne_eqb m.width 0 some) at below)
      (mod_below row m.depth (c.some_depth some)) ∙ div-add-mod' row m.depth)
]

-- ---- units and places inside a group

pub turned_below : (m : RawMap) (s unit : ℕ) → unit < group_width m → turned m s unit < group_width m
turned_below m s unit below = elim (cases_eq m.algorithm 3) [
  | inl turns ↦ rw (eq-eqb m.algorithm 3 turns)
      (mod_below (unit + group_width m - s % group_width m) (group_width m) (omega (arith, below)))
  | inr stays ↦ rw (ne_eqb m.algorithm 3 stays) below
]

pub unit_below : (m : RawMap) (s place : ℕ) → place < group_width m → unit_in m s place < group_width m
unit_below m s place below = elim (cases_eq m.algorithm 3) [
  | inl turns ↦ rw (eq-eqb m.algorithm 3 turns) (mod_below (place + s % group_width m) (group_width m) (omega (arith, below)))
  | inr stays ↦ rw (ne_eqb m.algorithm 3 stays) below
]

pub unit_again : (m : RawMap) (s unit : ℕ) → unit < group_width m → unit_in m s (turned m s unit) ≡ unit
unit_again m s unit below = elim (cases_eq m.algorithm 3) [
  | inl turns ↦ rw (eq-eqb m.algorithm 3 turns)
      (turned_back (group_width m) (s % group_width m) unit (mod_below s (group_width m) (omega (arith, below))) below)
  | inr stays ↦ rw (ne_eqb m.algorithm 3 stays) refl
]

pub turned_again : (m : RawMap) (s place : ℕ) → place < group_width m → turned m s (unit_in m s place) ≡ place
turned_again m s place below = elim (cases_eq m.algorithm 3) [
  | inl turns ↦ rw (eq-eqb m.algorithm 3 turns)
      (turned_on (group_width m) (s % group_width m) place (mod_below s (group_width m) (omega (arith, below))) below)
  | inr stays ↦ rw (ne_eqb m.algorithm 3 stays) refl
]

-- ---- positions

turn_first : (m : RawMap) (s unit : ℕ) → position_of m s unit ≡ group_of m s * group_width m + turned m s unit
turn_first m s unit = omega arith

pub group_in_position : (m : RawMap) (s unit : ℕ) → unit < group_width m → position_of m s unit / group_width m ≡ group_of m s
group_in_position m s unit below =
    ap (λ p. p / group_width m) (turn_first m s unit)
    ∙ div-mul-add (group_of m s) (group_width m) (turned m s unit) (turned_below m s unit below)

pub place_in_position : (m : RawMap) (s unit : ℕ) → unit < group_width m → position_of m s unit % group_width m ≡ turned m s unit
place_in_position m s unit below =
    ap (λ p. p % group_width m) (turn_first m s unit)
    ∙ mod-mul-add (group_of m s) (group_width m) (turned m s unit) (turned_below m s unit below)

pub position_in_range : (m : RawMap) (s unit : ℕ) → IsChecked m → unit < group_width m → position_of m s unit < positions m
position_in_range m s unit c below =
    omega (
      arith,
      two_digits (group_width m) (groups m) (group_of m s) (turned m s unit) (group_below m s c) (turned_below m s unit below),
      whole_groups m c,
    )

-- a position and its stripe tell the unit
pub unit_found : (m : RawMap) (s unit column : ℕ) → IsChecked m → unit < group_width m → column < m.unit →
    (stripe_at m (position_of m s unit) (offset_of m s column) ≡ s) ×
    (unit_at m (position_of m s unit) (offset_of m s column) ≡ unit)
unit_found m s unit column c below inside =
    let stripe : stripe_at m (position_of m s unit) (offset_of m s column) ≡ s =
    ap (λ g. stripe_in m g (offset_of m s column / m.unit)) (group_in_position m s unit below)
    ∙ ap (λ r. stripe_in m (group_of m s) r) (div-mul-add (row_of m s) m.unit column inside) ∙ stripe_again m s c in (
      stripe,
      ap (λ x. unit_in m x (position_of m s unit % group_width m)) stripe
          ∙ ap (λ p. unit_in m s p) (place_in_position m s unit below) ∙ unit_again m s unit below,
    )

-- ---- bytes

pub data_unit_below : (m : RawMap) (l : ℕ) → IsChecked m → data_unit_of m l < data_units m
data_unit_below m l c =
    div_below (l % stripe_length m) m.unit (data_units m) c.some_unit (mod_below l (stripe_length m) (some_stripe m c))

pub column_below : (m : RawMap) (l : ℕ) → IsChecked m → column_of m l < m.unit
column_below m l c = mod_below (l % stripe_length m) m.unit c.some_unit

data_unit_inside : (m : RawMap) (l : ℕ) → IsChecked m → data_unit_of m l < group_width m
data_unit_inside m l c = omega (arith, data_unit_below m l c)

pub position_below : (m : RawMap) (l : ℕ) → IsChecked m → (place_of m l).position < positions m
position_below m l c = position_in_range m (stripe_of m l) (data_unit_of m l) c (data_unit_inside m l c)

-- a byte's place tells its stripe and data unit
pub place_found : (m : RawMap) (l : ℕ) → IsChecked m →
    (stripe_at m (place_of m l).position (place_of m l).offset ≡ stripe_of m l) ×
    (unit_at m (place_of m l).position (place_of m l).offset ≡ data_unit_of m l)
place_found m l c =
    unit_found m (stripe_of m l) (data_unit_of m l) (column_of m l) c (data_unit_inside m l c) (column_below m l c)

-- the byte of a place is the one that was placed there
pub found_again : (m : RawMap) (l : ℕ) → IsChecked m → byte_at m (place_of m l).position (place_of m l).offset ≡ l
found_again m l c =
    let found = place_found m l c in
    let column : (place_of m l).offset % m.unit ≡ column_of m l =
    mod-mul-add (row_of m (stripe_of m l)) m.unit (column_of m l) (column_below m l c) in
    ap (λ s. s * stripe_length m + unit_at m (place_of m l).position
    (place_of m l).offset * m.unit + (place_of m l).offset % m.unit) found.0
    ∙ ap (λ k. stripe_of m l * stripe_length m + k * m.unit + (place_of m l).offset % m.unit) found.1
    ∙ ap (λ b. stripe_of m l * stripe_length m + data_unit_of m l * m.unit + b) column
    ∙ digits m.unit (data_units m) l c.some_unit

-- the digits of a byte number
grouped : (m : RawMap) (s k b : ℕ) → s * stripe_length m + k * m.unit + b ≡ s * stripe_length m + (k * m.unit + b)
grouped m s k b = omega arith

pub byte_stripe : (m : RawMap) (s k b : ℕ) → k < data_units m → b < m.unit →
    stripe_of m (s * stripe_length m + k * m.unit + b) ≡ s
byte_stripe m s k b low inside =
    ap (λ x. x / stripe_length m) (grouped m s k b)
    ∙ div-mul-add s (stripe_length m) (k * m.unit + b) (two_digits m.unit (data_units m) k b low inside)

byte_rest : (m : RawMap) (s k b : ℕ) → k < data_units m → b < m.unit →
    (s * stripe_length m + k * m.unit + b) % stripe_length m ≡ k * m.unit + b
byte_rest m s k b low inside =
    ap (λ x. x % stripe_length m) (grouped m s k b)
    ∙ mod-mul-add s (stripe_length m) (k * m.unit + b) (two_digits m.unit (data_units m) k b low inside)

pub byte_unit : (m : RawMap) (s k b : ℕ) → k < data_units m → b < m.unit →
    data_unit_of m (s * stripe_length m + k * m.unit + b) ≡ k
byte_unit m s k b low inside = ap (λ x. x / m.unit) (byte_rest m s k b low inside) ∙ div-mul-add k m.unit b inside

pub byte_column : (m : RawMap) (s k b : ℕ) → k < data_units m → b < m.unit →
    column_of m (s * stripe_length m + k * m.unit + b) ≡ b
byte_column m s k b low inside = ap (λ x. x % m.unit) (byte_rest m s k b low inside) ∙ mod-mul-add k m.unit b inside

-- the place of the byte with these digits
pub placed : (m : RawMap) (s k b : ℕ) → k < data_units m → b < m.unit →
    LiesAt m (s * stripe_length m + k * m.unit + b) (position_of m s k) (offset_of m s b)
placed m s k b low inside =
    let stripe = byte_stripe m s k b low inside in
    let unit = byte_unit m s k b low inside in
    let column = byte_column m s k b low inside in (
      ap (λ x. position_of m x (data_unit_of m (s * stripe_length m + k * m.unit + b))) stripe ∙ ap (λ x. position_of m s x) unit,
      ap (λ x. offset_of m x (column_of m (s * stripe_length m + k * m.unit + b))) stripe ∙ ap (λ x. offset_of m s x) column,
    )

-- the column is the offset in the units of the whole file
pub column_again : (m : RawMap) (l : ℕ) → IsChecked m → l % m.unit ≡ column_of m l
column_again m l c =
    let inside = column_below m l c in
    let whole : (stripe_of m l * data_units m + data_unit_of m l) * m.unit + column_of m l ≡ l =
    ap (λ x. x + column_of m l)
    (add-mul (stripe_of m l * data_units m) (data_unit_of m l) m.unit
    ∙ ap (λ x. x + data_unit_of m l * m.unit) (mul_assoc (stripe_of m l) (data_units m) m.unit))
    ∙ digits m.unit (data_units m) l c.some_unit in
    ap (λ x. x % m.unit) (sym whole) ∙ mod-mul-add (stripe_of m l * data_units m + data_unit_of m l) m.unit (column_of m l) inside

-- the byte j further in the unit lies j further in the component
pub ahead : (m : RawMap) (l j : ℕ) → IsChecked m → j < left_in_unit m l →
    ((place_of m (l + j)).position ≡ (place_of m l).position) × ((place_of m (l + j)).offset ≡ (place_of m l).offset + j)
ahead m l j c near =
    let s = stripe_of m l in
    let k = data_unit_of m l in
    let b = column_of m l in
    let whole : s * stripe_length m + k * m.unit + b ≡ l = digits m.unit (data_units m) l c.some_unit in
    let column : l % m.unit ≡ b = column_again m l c in
    let there = placed m s k (b + j) (data_unit_below m l c) (omega (arith, near, column, column_below m l c)) in
    let here : s * stripe_length m + k * m.unit + (b + j) ≡ l + j = omega (arith, whole) in
    (ap (λ x. (place_of m x).position) (sym here) ∙ there.0, ap (λ x. (place_of m x).offset) (sym here) ∙ there.1 ∙ omega arith)

-- a row of a byte's stripe begins no later in its component than the byte in the file
pub row_start : (m : RawMap) (l row : ℕ) → IsChecked m → row ≤ stripe_of m l → row * m.unit + column_of m l ≤ l
row_start m l row c low =
    let some : 1 ≤ data_units m = some_data m c in
    let rows : row * m.unit ≤ stripe_of m l * stripe_length m =
    mul-le row m.unit (stripe_of m l) (stripe_length m) low (omega (arith, mul-le-mul_right m.unit some)) in
    omega (arith, rows, digits m.unit (data_units m) l c.some_unit)

-- a group's positions are among all
pub group_inside : (m : RawMap) (s : ℕ) → IsChecked m → group_of m s * group_width m + group_width m ≤ positions m
group_inside m s c =
    let more : group_of m s + 1 ≤ groups m = omega (arith, group_below m s c) in
    omega (arith, mul-le-mul_right (group_width m) more, add-mul (group_of m s) 1 (group_width m), whole_groups m c)
