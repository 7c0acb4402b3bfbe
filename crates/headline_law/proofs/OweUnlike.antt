-- The bytes in which two rows differ, and the WRITEs of a piece to the components whose rows do.
-- Towards `OweFollows` (`specs/Parts.antt`).
use Rattle.std.proofs.Common.{◌≡◌, ◌==◌, ◌&&◌, ℕ, zero, suc, ◌+◌, ◌-◌, ◌<◌, ◌≤◌, Bool, true, false, not, nat_lt, min, List, [], ◌∷◌, length, drop, slice_get, slice_range, Some, refl, sym, ap, subst, ◌∙◌, inl, inr, arith}
use Rattle.std.specs.Prelude.{get_or}
use Rattle.std.proofs.lemmas.Bool.{cases_Bool, cases_eq, eq-eqb, ne_eqb, lt-ltb, and_parts, eqb-true}
use Rattle.std.proofs.lemmas.List.{length-take, length-drop, get_or-take, get_or-drop}
use Rattle.data_map.specs.Striping.{group_of}
use Rattle.server_rules.specs.Columns.{row_from, unit_with, wanted, first_unlike, end_unlike, end_of}
use Rattle.server_rules.specs.Laws.{In}
use Rattle.server_rules.specs.Maps.{group_with}
use Rattle.server_rules.specs.Pieces.{stores_from, is_off, to_store}
use Rattle.history_law.specs.Names.{Kept, Component, Awaited, Heard, Piece}

-- ---- where rows differ

unlike_first : (xs ys : List ℕ) (i : ℕ) → i < length xs → i < length ys → (get_or xs i 0 ≡ get_or ys i 0 → ⊥) →
    first_unlike xs ys ≤ i
unfolding first_unlike
unlike_first [] ys i low below other = omega arith
unlike_first (x ∷ xs) [] i low below other = omega arith
unlike_first (x ∷ xs) (y ∷ ys) zero low below other = rw (ne_eqb x y other) (omega arith)
unlike_first (x ∷ xs) (y ∷ ys) (suc i) low below other = elim (cases_eq x y) [
  | inl same ↦
      let rest = unlike_first xs ys i (omega (arith, low)) (omega (arith, below)) other in
      rw (eq-eqb x y same) (omega (arith, rest))
  | inr differ ↦ rw (ne_eqb x y differ) (omega arith)
]

end_rises : (xs ys : List ℕ) (i end : ℕ) → end ≤ i → end ≤ end_unlike xs ys i end
unfolding end_unlike
end_rises [] ys i end low = omega arith
end_rises (x ∷ xs) [] i end low = omega arith
end_rises (x ∷ xs) (y ∷ ys) i end low = elim (cases_eq x y) [
  | inl same ↦ rw (eq-eqb x y same) (end_rises xs ys (i + 1) end (omega (arith, low)))
  | inr differ ↦
      let rest = end_rises xs ys (i + 1) (i + 1) (omega arith) in rw (ne_eqb x y differ) (omega (arith, rest, low))
]

unlike_end : (xs ys : List ℕ) (i end n : ℕ) → n < length xs → n < length ys → (get_or xs n 0 ≡ get_or ys n 0 → ⊥) →
    i + n < end_unlike xs ys i end
unfolding end_unlike
unlike_end [] ys i end n low below other = absurd (omega (arith, low))
unlike_end (x ∷ xs) [] i end n low below other = absurd (omega (arith, below))
unlike_end (x ∷ xs) (y ∷ ys) i end zero low below other =
    let rest = end_rises xs ys (i + 1) (i + 1) (omega arith) in rw (ne_eqb x y other) (omega (arith, rest))
unlike_end (x ∷ xs) (y ∷ ys) i end (suc n) low below other = elim (cases_eq x y) [
  | inl same ↦
      let rest = unlike_end xs ys (i + 1) end n (omega (arith, low)) (omega (arith, below)) other in
      rw (eq-eqb x y same) (omega (arith, rest))
  | inr differ ↦
      let rest = unlike_end xs ys (i + 1) (i + 1) n (omega (arith, low)) (omega (arith, below)) other in
      rw (ne_eqb x y differ) (omega (arith, rest))
]

end_inside : (xs ys : List ℕ) (i end : ℕ) → end ≤ i + length ys → end_unlike xs ys i end ≤ i + length ys
unfolding end_unlike
end_inside [] ys i end below = below
end_inside (x ∷ xs) [] i end below = below
end_inside (x ∷ xs) (y ∷ ys) i end below = elim (cases_eq x y) [
  | inl same ↦
      let rest = end_inside xs ys (i + 1) end (omega (arith, below)) in rw (eq-eqb x y same) (omega (arith, rest))
  | inr differ ↦
      let rest = end_inside xs ys (i + 1) (i + 1) (omega arith) in rw (ne_eqb x y differ) (omega (arith, rest))
]

-- a byte of a cut
cut_at : (xs : List ℕ) (a b i : ℕ) → i < length (slice_range xs a b) → get_or (slice_range xs a b) i 0 ≡ get_or xs (a + i) 0
cut_at xs a b i below =
    let long = length-take (b - a) (drop a xs) in
    get_or-take (b - a) (drop a xs) i 0 (less (length (slice_range xs a b)) (b - a) (length (drop a xs)) long below)
    ∙ get_or-drop a xs i 0
  where
    less : (n c d : ℕ) → n ≡ min c d → i < n → i < c
    less n c d is low = grind (arith, is, low)

cut_long : (xs : List ℕ) (a b : ℕ) → b ≤ length xs → length (slice_range xs a b) ≡ b - a
cut_long xs a b below =
    length-take (b - a) (drop a xs) ∙ ap (λ (n : ℕ). min (b - a) n) (length-drop a xs) ∙ omega (arith, below)

-- ---- the WRITEs

-- what goes to component n of a piece
abbrev pub store_at : Kept → Piece → (rows : List (List ℕ)) → List Heard → Component → (n nonce : ℕ) → Awaited
store_at f p rows heard at n nonce =
    to_store f p (row_from heard n p.count) (wanted f.map rows (unit_with f.map p.stripe n) p.count) n at.drive at.object
    nonce

-- the row of a present component of the group isn't the wanted one, and so it is written
pub record IsStored (f : Kept) (p : Piece) (rows : List (List ℕ)) (heard : List Heard) (cs : List Component) (k nonce : ℕ)
    (a : Awaited) : Type 0 where
  pub index : ℕ
  pub component : Component
  pub there : slice_get cs index ≡ Some component
  pub off : is_off f p (row_from heard (k + index) p.count) (wanted f.map rows (unit_with f.map p.stripe (k + index)) p.count)
      component (k + index) ≡ true
  pub number : ℕ
  pub later : nonce ≤ number
  pub is : a ≡ store_at f p rows heard component (k + index) number

stored_next : (f : Kept) (p : Piece) (rows : List (List ℕ)) (heard : List Heard) (at : Component) (cs : List Component)
    (k n m : ℕ) (a : Awaited) → n ≤ m → IsStored f p rows heard cs (k + 1) m a → IsStored f p rows heard (at ∷ cs) k n a
stored_next f p rows heard at cs k n m a le s =
    let next : (k + 1) + s.index ≡ k + suc s.index = omega arith in
    record {
      index = suc s.index;
      component = s.component;
      there = s.there;
      off = subst (λ (i : ℕ). is_off f p (row_from heard i p.count) (wanted f.map rows (unit_with f.map p.stripe i) p.count)
          s.component i ≡ true) next s.off;
      number = s.number;
      later = omega (arith, le, s.later);
      is = s.is ∙ ap (λ (i : ℕ). store_at f p rows heard s.component i s.number) next;
    }

-- each of the WRITEs is such a one
pub stored_is : (f : Kept) (p : Piece) (rows : List (List ℕ)) (heard : List Heard) (cs : List Component) (k nonce : ℕ)
    (a : Awaited) → In a (stores_from f p rows heard cs k nonce) → IsStored f p rows heard cs k nonce a
unfolding stores_from
stored_is f p rows heard [] k nonce a i = absurd i
stored_is f p rows heard (at ∷ cs) k nonce a i =
    elim (cases_Bool (is_off f p (row_from heard k p.count) (wanted f.map rows (unit_with f.map p.stripe k) p.count) at k)) [
      | inl off ↦ elim (rw off at i) [
        | inl e ↦
            let here : k ≡ k + 0 = omega arith in
            record {
              index = 0;
              component = at;
              there = refl;
              off = subst (λ (n : ℕ). is_off f p (row_from heard n p.count)
                  (wanted f.map rows (unit_with f.map p.stripe n) p.count) at n ≡ true) here off;
              number = nonce;
              later = omega arith;
              is = e ∙ ap (λ (n : ℕ). store_at f p rows heard at n nonce) here;
            }
        | inr j ↦
            stored_next f p rows heard at cs k nonce (nonce + 1) a (omega arith)
            (stored_is f p rows heard cs (k + 1) (nonce + 1) a j)
      ]
      | inr on ↦
          stored_next f p rows heard at cs k nonce nonce a (omega arith)
          (stored_is f p rows heard cs (k + 1) nonce a (rw on at i))
    ]

-- and each component whose row isn't the wanted one is written
pub stored_in : (f : Kept) (p : Piece) (rows : List (List ℕ)) (heard : List Heard) (cs : List Component) (k nonce i : ℕ)
    (at : Component) → slice_get cs i ≡ Some at → is_off f p (row_from heard (k + i) p.count)
    (wanted f.map rows (unit_with f.map p.stripe (k + i)) p.count) at (k + i) ≡ true →
    (number : ℕ) × (nonce ≤ number) × In (store_at f p rows heard at (k + i) number) (stores_from f p rows heard cs k nonce)
unfolding stores_from
stored_in f p rows heard [] k nonce i at there off = absurd (cc there)
stored_in f p rows heard (x ∷ cs) k nonce zero at there off =
    let here : k + 0 ≡ k = omega arith in
    let same : x ≡ at = cc there in
    let off_ : is_off f p (row_from heard k p.count) (wanted f.map rows (unit_with f.map p.stripe k) p.count) x k ≡ true =
    subst (λ (y : Component). is_off f p (row_from heard k p.count)
    (wanted f.map rows (unit_with f.map p.stripe k) p.count) y k ≡ true) (sym same)
    (subst (λ (n : ℕ). is_off f p (row_from heard n p.count) (wanted f.map rows (unit_with f.map p.stripe n) p.count) at n
    ≡ true) here off) in
    rw off_ (
      nonce,
      omega arith,
      inl (ap (λ (n : ℕ). store_at f p rows heard at n nonce) here
          ∙ ap (λ (y : Component). store_at f p rows heard y k nonce) (sym same)),
    )
stored_in f p rows heard (x ∷ cs) k nonce (suc i) at there off =
    let next : (k + 1) + i ≡ k + suc i = omega arith in
    let off_ = subst (λ (n : ℕ). is_off f p (row_from heard n p.count)
    (wanted f.map rows (unit_with f.map p.stripe n) p.count) at n ≡ true) (sym next) off in
    elim (cases_Bool (is_off f p (row_from heard k p.count) (wanted f.map rows (unit_with f.map p.stripe k) p.count) x k)) [
      | inl sent ↦
          let r = stored_in f p rows heard cs (k + 1) (nonce + 1) i at there off_ in
          rw sent (
            r.0,
            omega (arith, r.1),
            inr (subst (λ (n : ℕ). In (store_at f p rows heard at n r.0) (stores_from f p rows heard cs (k + 1) (nonce + 1))) next
                r.2),
          )
      | inr none ↦
          let r = stored_in f p rows heard cs (k + 1) nonce i at there off_ in
          rw none (
            r.0,
            r.1,
            subst (λ (n : ℕ). In (store_at f p rows heard at n r.0) (stores_from f p rows heard cs (k + 1) nonce)) next r.2,
          )
    ]

-- ---- one row

-- the row of a present component of the group: where it isn't as it is wanted, it is written
pub unlike_off : (f : Kept) (p : Piece) (have want : List ℕ) (at : Component) (n i : ℕ) → at.missing ≡ false →
    group_with f.map n ≡ group_of f.map p.stripe → i < length have → i < length want →
    (get_or have i 0 ≡ get_or want i 0 → ⊥) → is_off f p have want at n ≡ true
unlike_off f p have want at n i stands group low below other =
    let past : 0 + i < end_unlike have want 0 0 = unlike_end have want 0 0 i low below other in
    ap (λ (b : Bool). (not b && (group_with f.map n == group_of f.map p.stripe)) && nat_lt 0 (end_of have want)) stands
    ∙ ap (λ (b : Bool). b && nat_lt 0 (end_of have want)) (eq-eqb (group_with f.map n) (group_of f.map p.stripe) group)
    ∙ lt-ltb 0 (end_of have want) (omega (arith, past))

-- what is written of a row: its bytes are the wanted ones
pub record IsCut (have want bytes : List ℕ) (first : ℕ) : Type 0 where
  pub inside : first + length bytes ≤ length want
  pub bytes_are : (i : ℕ) → i < length bytes → get_or bytes i 0 ≡ get_or want (first + i) 0
  pub unlike : (i : ℕ) → i < length have → i < length want → (get_or have i 0 ≡ get_or want i 0 → ⊥) →
      (first ≤ i) × (i < first + length bytes)

pub cut_is : (have want : List ℕ) → first_unlike have want ≤ length want →
    IsCut have want (slice_range want (first_unlike have want) (end_of have want)) (first_unlike have want)
cut_is have want low =
    let a : ℕ = first_unlike have want in
    let b : ℕ = end_of have want in
    let high : end_of have want ≤ 0 + length want = end_inside have want 0 0 (omega arith) in
    let long = cut_long want (first_unlike have want) (end_of have want) (omega (arith, high)) in
    record {
      inside = omega (arith, long, high, low);
      bytes_are = λ i below. cut_at want (first_unlike have want) (end_of have want) i below;
      unlike = λ i lower below other.
          let from = unlike_first have want i lower below other in
          let to : 0 + i < end_of have want = unlike_end have want 0 0 i lower below other in
          (from, omega (arith, from, to, long));
    }

-- which is written of a component of the group alone, that is present
pub off_is : (f : Kept) (p : Piece) (have want : List ℕ) (at : Component) (n : ℕ) → is_off f p have want at n ≡ true →
    (at.missing ≡ false) × (group_with f.map n ≡ group_of f.map p.stripe)
off_is f p have want at n e =
    let two = and_parts (not at.missing && (group_with f.map n == group_of f.map p.stripe)) _ e in
    let one = and_parts (not at.missing) _ two.0 in (
      present at.missing one.0,
      eqb-true (group_with f.map n) (group_of f.map p.stripe) one.1,
    )
  where
    present : (b : Bool) → not b ≡ true → b ≡ false
    present true x = absurd (cc x)
    present false x = refl
