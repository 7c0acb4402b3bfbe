-- The pieces of a group's stripes, and how a cursor moves over them.
use Rattle.std.specs.Prelude.{ℕ, zero, suc, List, [], ◌∷◌, ◌++◌, refl, ◌≡◌, ◌≢◌, ◌+◌, ◌-◌, ◌/◌, ◌<◌, ◌≤◌, ◌==◌, filter}
use Rattle.std.proofs.Common.{arith, inl, inr, sym, ap, ◌∙◌, eq-eqb, ne_eqb}
use Rattle.std.proofs.lemmas.Bool.{cases_lt}
use Rattle.std.proofs.lemmas.List.Elements.{filter-append}
use Rattle.data_map.specs.Striping.{group_of}
use Rattle.data_map.specs.declared.check.RawMap.{RawMap}
use Rattle.server_rules.specs.declared.jobs.Piece.{Piece}
use Rattle.server_rules.specs.declared.limits.TheConstants.{MAX_PIECE}
use Rattle.server_rules.specs.Maps.{pieces_from, pieces_along, pieces_in}
use Rattle.stripe_repair.specs.declared.cursor.Spot.{Spot}
use Rattle.stripe_repair.specs.Cursor.{rest_in, piece_at}
use Rattle.stripe_repair.specs.GroupCursor.{left_in_group}
use Rattle.stripe_repair.proofs.CursorLaws.{begin_is, within_range}

-- ---- stripes of other groups

-- the pieces of one are left out
out_from : (m : RawMap) (group s column n : ℕ) → group_of m s ≢ group →
    filter (λ p. group_of m p.stripe == group) (pieces_from m.unit s column n) ≡ []
unfolding pieces_from
out_from m group s column zero ne = refl
out_from m group s column (suc n) ne = rw (ne_eqb (group_of m s) group ne) (out_from m group s (column + MAX_PIECE) n ne)

-- and those of several
skip : (m : RawMap) (group a n k : ℕ) → ((s : ℕ) → a ≤ s → s < a + n → group_of m s ≢ group) →
    filter (λ p. group_of m p.stripe == group) (pieces_along m.unit a (n + k)) ≡ filter (λ p. group_of m p.stripe == group)
    (pieces_along m.unit (a + n) k)
unfolding pieces_along
skip m group a zero k none =
    let z : a + zero ≡ a = omega arith in
    let y : zero + k ≡ k = omega arith in
    rw (z, y) refl
skip m group a (suc n) k none =
    let e : a + suc n ≡ a + 1 + n = omega arith in
    let c : suc n + k ≡ suc (n + k) = omega arith in
    rw (e, c) (filter-append (λ (p : Piece). group_of m p.stripe == group)
    (pieces_from m.unit a 0 ((m.unit + (MAX_PIECE - 1)) / MAX_PIECE)) (pieces_along m.unit (a + 1) (n + k))
    ∙ ap (λ (xs : List Piece). xs ++ filter (λ (p : Piece). group_of m p.stripe == group) (pieces_along m.unit (a + 1) (n + k)))
    (out_from m group a 0 ((m.unit + (MAX_PIECE - 1)) / MAX_PIECE) (none a (omega arith) (omega arith)))
    ∙ skip m group (a + 1) n k (λ s le lt. none s (omega (arith, le)) (omega (arith, lt))))

passed : (m : RawMap) (group a t end : ℕ) → a < end → a ≤ t → ((s : ℕ) → a ≤ s → s < t → group_of m s ≢ group) →
    filter (λ p. group_of m p.stripe == group) (pieces_along m.unit a (end - a)) ≡ filter (λ p. group_of m p.stripe == group)
    (pieces_along m.unit t (end - t))
unfolding pieces_along
passed m group a t end inside le none = elim (cases_lt end t) [
  | inl beyond ↦
      let whole : end - a ≡ (end - a) + 0 = omega arith in
      let empty : end - t ≡ 0 = omega (arith, beyond) in
      rw empty (ap (λ (n : ℕ). filter (λ (p : Piece). group_of m p.stripe == group) (pieces_along m.unit a n)) whole
      ∙ skip m group a (end - a) 0 (λ s l b. none s l (omega (arith, b, beyond, inside))))
  | inr before ↦
      let parts : end - a ≡ (t - a) + (end - t) = omega (arith, before, le) in
      let at : a + (t - a) ≡ t = omega (arith, le) in
      ap (λ (n : ℕ). filter (λ (p : Piece). group_of m p.stripe == group) (pieces_along m.unit a n)) parts
      ∙ skip m group a (t - a) (end - t) (λ s l b. none s l (omega (arith, b, le)))
      ∙ ap (λ (x : ℕ). filter (λ (p : Piece). group_of m p.stripe == group) (pieces_along m.unit x (end - t))) at
]

-- so a cursor may go past them
pub goes_past : (m : RawMap) (group to : ℕ) (s : Spot) → s.column ≡ 0 → s.stripe < s.end → s.stripe ≤ to →
    ((u : ℕ) → s.stripe ≤ u → u < to → group_of m u ≢ group) →
    left_in_group m group (record s { stripe = to }) ≡ left_in_group m group s
goes_past m group to s begins inside le none =
    rw begins (ap (λ (xs : List Piece). filter (λ (p : Piece). group_of m p.stripe == group) xs) (begin_is m.unit to s.end s.next)
    ∙ sym (passed m group s.stripe to s.end inside le none)
    ∙ ap (λ (xs : List Piece). filter (λ (p : Piece). group_of m p.stripe == group) xs)
    (sym (begin_is m.unit s.stripe s.end s.next)))

-- ---- stripes of the group

-- a piece of one is the first
pub stands_first : (m : RawMap) (group : ℕ) (s : Spot) (rest : List Piece) → group_of m s.stripe ≡ group →
    rest_in m.unit s ≡ piece_at m.unit s ∷ rest →
    left_in_group m group s ≡ piece_at m.unit s ∷ filter (λ p. group_of m p.stripe == group) rest
stands_first m group s rest stands e = rw e (rw (eq-eqb (group_of m s.stripe) group stands) refl)

pub first_there : (m : RawMap) (group : ℕ) (s : Spot) → s.column < m.unit → s.stripe < s.end → group_of m s.stripe ≡ group →
    left_in_group m group s ≡ piece_at m.unit s ∷ left_in_group m group (record s { column = s.column + MAX_PIECE })
first_there m group s l inside stands =
    stands_first m group s (rest_in m.unit (record s { column = s.column + MAX_PIECE })) stands (within_range m.unit s l inside)

-- all of them
pub all_in_group : (m : RawMap) (group high : ℕ) →
    left_in_group m group (record { stripe = 0; column = 0; end = high; next = 0 }) ≡ pieces_in m group high
unfolding pieces_in
all_in_group m group high =
    let all : high - 0 ≡ high = omega arith in
    ap (λ (xs : List Piece). filter (λ (p : Piece). group_of m p.stripe == group) xs)
    (begin_is m.unit 0 high 0 ∙ ap (λ (n : ℕ). pieces_along m.unit 0 n) all)
