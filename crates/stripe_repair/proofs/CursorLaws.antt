-- Pieces that are left, and how a cursor moves over them.
use Rattle.std.specs.Prelude.{ℕ, suc, true, false, List, [], ◌∷◌, ◌++◌, refl, ◌≡◌, ◌+◌, ◌-◌, ◌/◌, ◌<◌, ◌≤◌, ◌⊎◌, min, nat_lt, length, drop}
use Rattle.std.proofs.Common.{arith, inl, inr, sym, ap, ◌∙◌, get_or, drop-cons, append-nil}
use Rattle.std.proofs.lemmas.Bool.{cases_lt}
use Rattle.std.proofs.lemmas.Bool.Decides.{nat_tests}
use Rattle.std.proofs.Math.ListN.{drop_of_length-le}
use Rattle.server_rules.specs.declared.grants.Stripes.{Stripes}
use Rattle.server_rules.specs.declared.jobs.Piece.{Piece}
use Rattle.server_rules.specs.declared.limits.TheConstants.{MAX_PIECE}
use Rattle.server_rules.specs.Maps.{pieces_from, pieces_along, pieces}
use Rattle.stripe_repair.specs.declared.cursor.Spot.{Spot}
use Rattle.stripe_repair.specs.Cursor.{piece_at, rest_of, rest_in, rest_at}

is_less : (a b : ℕ) → a < b → nat_lt a b ≡ true
is_less a b l = grind (arith, nat_tests, l)

not_less : (a b : ℕ) → b ≤ a → nat_lt a b ≡ false
not_less a b l = grind (arith, nat_tests, l)

-- ---- pieces of a stripe

one_more : (a : ℕ) → 0 < a → (a + (MAX_PIECE - 1)) / MAX_PIECE ≡ suc ((a - MAX_PIECE + (MAX_PIECE - 1)) / MAX_PIECE)
one_more a p = omega (arith, p)

less_again : (unit column : ℕ) → unit - column - MAX_PIECE ≡ unit - (column + MAX_PIECE)
less_again unit column = omega arith

-- the first piece, and those behind it
rest_first : (unit stripe column : ℕ) → column < unit →
    rest_of unit stripe column
    ≡ (record { stripe = stripe; column = column; count = min MAX_PIECE (unit - column) } ∷ rest_of unit stripe
    (column + MAX_PIECE))
unfolding pieces_from
rest_first unit stripe column l =
    let some : 0 < unit - column = omega (arith, l) in
    rw (one_more (unit - column) some) (rw (less_again unit column) refl)

none_behind : (unit stripe column : ℕ) → unit ≤ column → rest_of unit stripe column ≡ []
unfolding pieces_from
none_behind unit stripe column l =
    let none : unit - column ≡ 0 = omega (arith, l) in
    rw none refl

-- ---- pieces of a range

along_more : (unit first end : ℕ) → first < end →
    pieces_along unit first (end - first) ≡ rest_of unit first 0 ++ pieces_along unit (first + 1) (end - (first + 1))
unfolding pieces_along
along_more unit first end l =
    let n : end - first ≡ suc (end - (first + 1)) = omega (arith, l) in
    let z : unit - 0 ≡ unit = omega arith in
    rw (n, z) refl

along_none : (unit first end : ℕ) → end ≤ first → pieces_along unit first (end - first) ≡ []
unfolding pieces_along
along_none unit first end l =
    let n : end - first ≡ 0 = omega (arith, l) in
    rw n refl

-- the pieces of a range are those left at its begin
pub begin_is : (unit first end next : ℕ) →
    rest_in unit (record { stripe = first; column = 0; end = end; next = next }) ≡ pieces_along unit first (end - first)
begin_is unit first end next = elim (cases_lt first end) [
  | inl l ↦ rw (is_less first end l) (sym (along_more unit first end l))
  | inr l ↦ rw (not_less first end l) (sym (along_none unit first end l))
]

-- ---- from range to range

more_pieces : (unit : ℕ) (r : Stripes) (rs : List Stripes) →
    pieces unit (r ∷ rs) ≡ pieces_along unit r.first (r.end - r.first) ++ pieces unit rs
unfolding pieces
more_pieces unit r rs = refl

-- where none is left of a range, the next one begins
pub to_next : (unit : ℕ) (ranges : List Stripes) (s : Spot) (r : Stripes) → s.end ≤ s.stripe → s.next < length ranges →
    r ≡ get_or ranges s.next r →
    rest_at unit ranges (record { stripe = r.first; column = 0; end = r.end; next = s.next + 1 }) ≡ rest_at unit ranges s
to_next unit ranges s r over l e =
    let d : drop s.next ranges ≡ r ∷ drop (suc s.next) ranges =
    drop-cons ranges s.next r l ∙ ap (λ (x : Stripes). x ∷ drop (suc s.next) ranges) (sym e) in
    let n : suc s.next ≡ s.next + 1 = omega arith in
    let t : rest_at unit ranges s ≡ pieces unit (drop s.next ranges) = rw (not_less s.stripe s.end over) refl in
    ap (λ (x : List Piece). x ++ pieces unit (drop (s.next + 1) ranges)) (begin_is unit r.first r.end (s.next + 1))
    ∙ ap (λ (k : ℕ). pieces_along unit r.first (r.end - r.first) ++ pieces unit (drop k ranges)) (sym n)
    ∙ sym (more_pieces unit r (drop (suc s.next) ranges))
    ∙ ap (λ (x : List Stripes). pieces unit x) (sym d)
    ∙ sym t

-- ---- from piece to piece

-- the next columns of the stripe, of one range
pub within_range : (unit : ℕ) (s : Spot) → s.column < unit → s.stripe < s.end →
    rest_in unit s ≡ piece_at unit s ∷ rest_in unit (record s { column = s.column + MAX_PIECE })
within_range unit s l m = rw (is_less s.stripe s.end m, rest_first unit s.stripe s.column l) refl

-- the next stripe of the range
pub past_range : (unit : ℕ) (s : Spot) → s.column < unit → s.stripe < s.end → unit ≤ s.column + MAX_PIECE →
    rest_in unit s ≡ piece_at unit s ∷ rest_in unit (record s { stripe = s.stripe + 1; column = 0 })
past_range unit s l m over =
    within_range unit s l m
    ∙ rw (is_less s.stripe s.end m, none_behind unit s.stripe (s.column + MAX_PIECE) over)
    (ap (λ (x : List Piece). piece_at unit s ∷ x) (sym (begin_is unit (s.stripe + 1) s.end s.next)))

-- all stripes of one range
pub whole_range : (unit high : ℕ) →
    rest_at unit [] (record { stripe = 0; column = 0; end = high; next = 0 }) ≡ pieces_along unit 0 high
unfolding pieces
whole_range unit high =
    let all : high - 0 ≡ high = omega arith in
    append-nil (rest_in unit (record { stripe = 0; column = 0; end = high; next = 0 })) ∙ begin_is unit 0 high 0
    ∙ ap (λ (n : ℕ). pieces_along unit 0 n) all

-- the next columns of the stripe
pub within : (unit : ℕ) (ranges : List Stripes) (s : Spot) → s.column < unit → s.stripe < s.end →
    rest_at unit ranges s ≡ piece_at unit s ∷ rest_at unit ranges (record s { column = s.column + MAX_PIECE })
within unit ranges s l m = rw (is_less s.stripe s.end m, rest_first unit s.stripe s.column l) refl

-- the next stripe of the range
pub past : (unit : ℕ) (ranges : List Stripes) (s : Spot) → s.column < unit → s.stripe < s.end → unit ≤ s.column + MAX_PIECE →
    rest_at unit ranges s ≡ piece_at unit s ∷ rest_at unit ranges (record s { stripe = s.stripe + 1; column = 0 })
past unit ranges s l m over =
    within unit ranges s l m
    ∙ rw (is_less s.stripe s.end m, none_behind unit s.stripe (s.column + MAX_PIECE) over)
    (ap (λ (x : List Piece). piece_at unit s ∷ (x ++ pieces unit (drop s.next ranges)))
    (sym (begin_is unit (s.stripe + 1) s.end s.next)))

-- none is left
pub over : (unit : ℕ) (ranges : List Stripes) (s : Spot) → s.end ≤ s.stripe → length ranges ≤ s.next → rest_at unit ranges s ≡ []
unfolding pieces
over unit ranges s a b =
    let d : drop s.next ranges ≡ [] = drop_of_length-le ranges b in
    rw (not_less s.stripe s.end a, d) refl

-- no further range is left where a settled cursor is past its own
pub ended : {stripe end most next : ℕ} → (stripe < end) ⊎ (most ≤ next) → end ≤ stripe → most ≤ next
ended (inl l) e = omega (arith, l, e)
ended (inr l) e = l

-- an item that there is doesn't depend on what is given in its place
pub item_or : (ranges : List Stripes) (i : ℕ) (d : Stripes) → i < length ranges →
    get_or ranges i d ≡ get_or ranges i (get_or ranges i d)
item_or ranges i d l =
    let a = drop-cons ranges i d l in
    let b = drop-cons ranges i (get_or ranges i d) l in
    cc (a, b)
