-- The pieces of a repair have each column of the grants that its fence ended.
-- Towards `DoneFollows` (`specs/Parts.antt`).
use Rattle.std.proofs.Common.{◌≡◌, ◌⊎◌, ℕ, zero, suc, ◌+◌, ◌-◌, ◌*◌, ◌/◌, ◌%◌, ◌<◌, ◌≤◌, true, nat_lt, min, max, List, [], ◌∷◌, refl, sym, ap, subst, ◌∙◌, inl, inr, arith}
use Rattle.std.specs.Prelude.{nat_le}
use Rattle.std.proofs.lemmas.Bool.{cases_Bool, cases_lt, and_parts}
use Rattle.std.proofs.lemmas.Bool.Decides.{nat_tests}
use Rattle.std.proofs.lemmas.Nat.{div-add-mod', mod_below}
use Rattle.data_map.specs.declared.check.RawMap.{RawMap}
use Rattle.data_map.specs.Check.{IsChecked}
use Rattle.data_map.proofs.Striping.{column_below}
use Rattle.server_rules.specs.declared.limits.TheConstants.{MAX_PIECE}
use Rattle.server_rules.specs.Grants.{joined, merged}
use Rattle.server_rules.specs.Laws.{In}
use Rattle.server_rules.specs.Maps.{pieces_from, pieces_of, pieces_along, pieces}
use Rattle.server_rules.specs.declared.grants.Stripes.{Stripes}
use Rattle.server_rules.proofs.Members.{in_front, in_behind}
use Rattle.history_law.specs.Names.{File, Grant, Piece}
use Rattle.plan_law.specs.FileLayout.{has_parity, stripe_of_column}
use Rattle.file_simulation.specs.Grants.{covers_column}
use Rattle.file_simulation.specs.Jobs.{IsDone, offset_of_column}
use Rattle.file_simulation.specs.Phases.{IsEndedAt}
use Rattle.relation_law.proofs.KeptSources.{along_in}

-- ---- the stripes of ended grants

-- one of these ranges has the stripe
abbrev InRanges : ℕ → List Stripes → Type 0
InRanges s rs = (r : Stripes) × In r rs × (r.first ≤ s) × (s < r.end)

ranges_more : (s : ℕ) (x : Stripes) (rs : List Stripes) → InRanges s rs → InRanges s (x ∷ rs)
ranges_more s x rs r = (r.0, inr r.1, r.2, r.3)

first_or_rest : (s : ℕ) (x : Stripes) (rs : List Stripes) → InRanges s (x ∷ rs) →
    ((x.first ≤ s) × (s < x.end)) ⊎ InRanges s rs
first_or_rest s x rs (r, inl same, low, high) =
    inl (subst (λ (y : Stripes). y.first ≤ s) same low, subst (λ (y : Stripes). s < y.end) same high)
first_or_rest s x rs (r, inr i, low, high) = inr (r, i, low, high)

joined_has : (s : ℕ) (r : Stripes) (rs : List Stripes) → ((r.first ≤ s) × (s < r.end)) ⊎ InRanges s rs →
    InRanges s (joined r rs)
unfolding joined
joined_has s r [] (inl own) = (r, inl refl, own.0, own.1)
joined_has s r [] (inr none) = absurd none.1
joined_has s r (x ∷ xs) has = elim (cases_Bool (nat_lt x.end r.first)) [
  | inl below ↦ rw below (elim has [
    | inl own ↦ ranges_more s x (joined r xs) (joined_has s r xs (inl own))
    | inr rest ↦ elim (first_or_rest s x xs rest) [
      | inl here ↦ (x, inl refl, here.0, here.1)
      | inr later ↦ ranges_more s x (joined r xs) (joined_has s r xs (inr later))
    ]
  ])
  | inr touches ↦ rw touches (elim (cases_Bool (nat_lt r.end x.first)) [
    | inl above ↦ rw above (elim has [
      | inl own ↦ (r, inl refl, own.0, own.1)
      | inr rest ↦ ranges_more s r (x ∷ xs) rest
    ])
    | inr meets ↦
        let y : Stripes = record { first = min r.first x.first; end = max r.end x.end } in
        rw meets (elim has [
          | inl own ↦ joined_has s y xs (inl (omega (arith, own.0), omega (arith, own.1)))
          | inr rest ↦ elim (first_or_rest s x xs rest) [
            | inl here ↦ joined_has s y xs (inl (omega (arith, here.0), omega (arith, here.1)))
            | inr later ↦ joined_has s y xs (inr later)
          ]
        ])
  ])
]

merged_has : (s : ℕ) (gs : List Grant) (g : Grant) → In g gs → g.rw ≡ true → g.first ≤ s → s < g.end →
    InRanges s (merged gs)
unfolding merged
merged_has s [] g i w low high = absurd i
merged_has s (x ∷ gs) g (inl same) w low high =
    let w_ : x.rw ≡ true = ap (λ (y : Grant). y.rw) (sym same) ∙ w in
    rw w_ (joined_has s (record { first = x.first; end = x.end }) (merged gs)
    (inl (subst (λ (y : Grant). y.first ≤ s) same low, subst (λ (y : Grant). s < y.end) same high)))
merged_has s (x ∷ gs) g (inr i) w low high = elim (cases_Bool x.rw) [
  | inl writes ↦ rw writes (joined_has s (record { first = x.first; end = x.end }) (merged gs)
      (inr (merged_has s gs g i w low high)))
  | inr reads ↦ rw reads (merged_has s gs g i w low high)
]

-- ---- pieces

pieces_has : (unit s : ℕ) (rs : List Stripes) → InRanges s rs → (p : Piece) → In p (pieces_of unit s) →
    In p (pieces unit rs)
unfolding pieces
pieces_has unit s [] has p i = absurd has.1
pieces_has unit s (x ∷ rs) has p i = elim (first_or_rest s x rs has) [
  | inl here ↦
      in_front p (pieces_along unit x.first (x.end - x.first)) (pieces unit rs)
      (along_in unit x.first (x.end - x.first) s here.0 (omega (arith, here.0, here.1)) p i)
  | inr later ↦
      in_behind p (pieces_along unit x.first (x.end - x.first)) (pieces unit rs) (pieces_has unit s rs later p i)
]

-- a piece has this offset of the units of a stripe
abbrev HasOffset : (s o : ℕ) → Piece → Type 0
HasOffset s o p = (p.stripe ≡ s) × (p.column ≤ o) × (o < p.column + p.count)

from_has : (unit s c n o : ℕ) → c ≤ o → o < c + n * MAX_PIECE → o < unit →
    (p : Piece) × In p (pieces_from unit s c n) × HasOffset s o p
unfolding pieces_from
from_has unit s c zero o low high below = absurd (omega (arith, low, high))
from_has unit s c (suc n) o low high below = elim (cases_lt o (c + MAX_PIECE)) [
  | inl here ↦ (
    record { stripe = s; column = c; count = min MAX_PIECE (unit - c) },
    inl refl,
    (refl, low, omega (arith, here, below, low)),
  )
  | inr later ↦
      let r = from_has unit s (c + MAX_PIECE) n o later (omega (arith, high)) below in (r.0, inr r.1, r.2)
]

rounded_up : (u m : ℕ) → 0 < m → u ≤ 0 + ((u + (m - 1)) / m) * m
rounded_up u m some =
    let whole = div-add-mod' (u + (m - 1)) m in
    let rest : (u + (m - 1)) % m < m = mod_below (u + (m - 1)) m some in
    omega (arith, whole, rest, some)

stripe_has : (unit s o : ℕ) → o < unit → (p : Piece) × In p (pieces_of unit s) × HasOffset s o p
stripe_has unit s o below =
    let all = rounded_up unit MAX_PIECE (omega arith) in
    from_has unit s 0 ((unit + (MAX_PIECE - 1)) / MAX_PIECE) o (omega arith) (omega (arith, all, below)) below

-- ---- columns

-- the offset of a column in its stripe's units is within them
pub offset_below : (m : RawMap) (x : ℕ) → IsChecked m → offset_of_column m x < m.unit
unfolding offset_of_column
offset_below m x c = elim (cases_Bool (has_parity m)) [
  | inl coded ↦ rw coded (mod_below x m.unit c.some_unit)
  | inr plain ↦ rw plain (column_below m x c)
]

covered : (m : RawMap) (first end x : ℕ) → covers_column m first end x ≡ true →
    (first ≤ stripe_of_column m x) × (stripe_of_column m x < end)
covered m first end x e =
    let both = and_parts (nat_le first (stripe_of_column m x)) (nat_lt (stripe_of_column m x) end) e in
    (low (stripe_of_column m x) both.0, high (stripe_of_column m x) both.1)
  where
    low : (n : ℕ) → nat_le first n ≡ true → first ≤ n
    low n x_ = grind (arith, x_, nat_tests)

    high : (n : ℕ) → nat_lt n end ≡ true → n < end
    high n x_ = grind (arith, x_, nat_tests)

-- Each column of a grant for writing that a fence has ended is in one of the pieces.
pub all_pieces : (f : File) (x : ℕ) → IsChecked f.kept.map → IsEndedAt f x →
    IsDone f.kept.map (pieces f.kept.map.unit (merged f.kept.ended)) x → ⊥
all_pieces f x c ended done =
    let range = covered f.kept.map ended.grant.first ended.grant.end x ended.has in
    let r = stripe_has f.kept.map.unit (stripe_of_column f.kept.map x) (offset_of_column f.kept.map x)
    (offset_below f.kept.map x c) in
    let ranges = merged_has (stripe_of_column f.kept.map x) f.kept.ended ended.grant ended.ended ended.rw range.0 range.1 in
    done r.0 (pieces_has f.kept.map.unit (stripe_of_column f.kept.map x) (merged f.kept.ended) ranges r.0 r.1)
    (record { stripe = sym r.2.0; first = r.2.1; past = r.2.2 })
