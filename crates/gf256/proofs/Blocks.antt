-- Slices that are changed in blocks of 64 elements, and then one by one.
use Rattle.std.proofs.Common.{◌≡◌, ℕ, ◌+◌, ◌-◌, ◌<◌, ◌≤◌, List, length, get_or, sym, ap, ◌∙◌, arith, inl, inr}
use Rattle.std.specs.Prelude.{bit_xor}
use Rattle.std.proofs.lemmas.Bool.{cases_lt}
use Rattle.std.proofs.lemmas.Simd.{length-zip2, get_or-zip2}
use Rattle.std.proofs.lemmas.Grind.{same_number_lists}
use lib.Lanes.{zip2}
use Rattle.gf256.specs.Lanes.{HasLanes, StoredAt}

-- below the end each element became f, and from there on none changed
pub record Reached (f : ℕ → ℕ) (old new : List ℕ) (end : ℕ) : Type 0 where
  pub long : length new ≡ length old
  pub inside : (k : ℕ) → k < end → get_or new k 0 ≡ f k
  pub above : (k : ℕ) → end ≤ k → get_or new k 0 ≡ get_or old k 0

pub block_stored : (f : ℕ → ℕ) (old now new : List ℕ) (at end : ℕ) (lane : ℕ → ℕ) → end ≡ at + 64 → Reached f old now at →
    StoredAt at lane now new
    → ((k : ℕ) → k < 64 → lane k ≡ f (at + k)) → Reached f old new end
block_stored f old now new at end lane e before store lanes = record {
  long = store.long ∙ before.long;
  inside = λ k lt. elim (cases_lt k at) [
    | inl below ↦ store.below k below ∙ before.inside k below
    | inr above ↦
        let there : k ≡ at + (k - at) = omega arith in
        rw there (store.inside (k - at) (omega arith) ∙ lanes (k - at) (omega arith))
  ];
  above = λ k le. store.above k (omega arith) ∙ before.above k (omega arith);
}

-- a sum of what stands in a slice and of g
pub sum_lane : (at k : ℕ) (g : ℕ → ℕ) (old now a b total : List ℕ) → k < 64 →
    HasLanes total (λ k. bit_xor (get_or a k 0) (get_or b k 0))
    → HasLanes a (λ k. get_or now (at + k) 0) → get_or b k 0 ≡ g (at + k) → get_or now (at + k) 0 ≡ get_or old (at + k) 0 →
    get_or total k 0 ≡ bit_xor (get_or old (at + k) 0) (g (at + k))
sum_lane at k g old now a b total lt sums loads is_b same =
    sums.each k lt ∙ ap (λ (n : ℕ). bit_xor n (get_or b k 0)) (loads.each k lt ∙ same) ∙ ap (bit_xor (get_or old (at + k) 0)) is_b

-- at the end the slice is the old one joined to the other
pub all_reached : (f : ℕ → ℕ → ℕ) (src old new : List ℕ) (end : ℕ) → length old ≡ length src → length old ≤ end
    → Reached (λ k. f (get_or old k 0) (get_or src k 0)) old new end → new ≡ zip2 f old src
all_reached f src old new end same all h =
    let long : length (zip2 f old src) ≡ length old = length-zip2 f old src same in
    same_number_lists new (zip2 f old src) (h.long ∙ sym long)
    (λ k lt. h.inside k (omega (arith, h.long))
    ∙ sym (get_or-zip2 f old src k 0 0 0 (omega (arith, h.long)) (omega (arith, h.long))))
