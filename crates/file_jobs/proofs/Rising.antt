-- Ranges that rise, and how many stripes they have.
use Rattle.std.specs.Prelude.{ℕ, true, List, [], ◌∷◌, ◌++◌, ◌≡◌, ◌+◌, ◌-◌, ◌<◌, ◌≤◌, min, max, nat_lt, suc, length, drop, refl}
use Rattle.std.proofs.Common.{arith, inl, inr, ap, sym, ◌∙◌, get_or, add-one, append_assoc, drop-cons}
use Rattle.std.proofs.Math.Nat.{add_assoc, le_of_lt, le_trans, le-min, max-le, min-le_left, le-max_left}
use Rattle.std.proofs.lemmas.List.Sums.{sum_by-cons}
use Rattle.std.proofs.lemmas.List.{drop_all}
use Rattle.std.proofs.lemmas.Bool.{cases_Bool, ltb-true, le-ltb, lt-ltb}
use Rattle.data_map.specs.declared.ranges.TheConstants.{MAX_FILE_SIZE}
use Rattle.server_rules.specs.declared.grants.Grant.{Grant}
use Rattle.server_rules.specs.declared.grants.Stripes.{Stripes}
use Rattle.server_rules.specs.Grants.{joined, merged, count_stripes}
use Rattle.std.proofs.lemmas.List.Elements.{All-nil, All-cons}
use Rattle.stripe_repair.specs.Repairing.{AreInside}
use Rattle.file_jobs.specs.Ranges.{EndInside, Rise}

less : (a b : ℕ) → nat_lt a b ≡ true → a ≤ b
less a b e = le_of_lt (ltb-true a b e)

-- from an earlier stripe on they rise too
rise_from : (from lower : ℕ) (rs : List Stripes) → lower ≤ from → Rise from rs → Rise lower rs
rise_from from lower [] l h = tt
rise_from from lower (r ∷ rs) l h = (le_trans l h.0, h.1, h.2, h.3)

-- one more
rise_joined : (from : ℕ) (r : Stripes) (rs : List Stripes) → from ≤ r.first → r.first ≤ r.end → r.end ≤ MAX_FILE_SIZE →
    Rise from rs → Rise from (joined r rs)
unfolding joined
rise_joined from r [] a b c h = (a, b, c, tt)
rise_joined from r (x ∷ xs) a b c h = elim (cases_Bool (nat_lt x.end r.first)) [
  | inl t ↦ rw t (h.0, h.1, h.2, rise_joined x.end r xs (less x.end r.first t) b c h.3)
  | inr t ↦ rw t (elim (cases_Bool (nat_lt r.end x.first)) [
    | inl u ↦ rw u (a, b, c, (less r.end x.first u, h.1, h.2, h.3))
    | inr u ↦ rw u (rise_joined from (record { first = min r.first x.first; end = max r.end x.end }) xs
        (le-min a h.0) (le_trans (min-le_left r.first x.first) (le_trans b (le-max_left r.end x.end))) (max-le c h.2)
        (rise_from x.end from xs (le_trans h.0 h.1) h.3))
  ])
]

pub rise_merged : (gs : List Grant) → EndInside gs → Rise 0 (merged gs)
unfolding merged
rise_merged [] h = tt
rise_merged (g ∷ gs) h = elim (cases_Bool g.rw) [
  | inl t ↦ rw t (rise_joined 0 (record { first = g.first; end = g.end }) (merged gs) (omega arith) h.0 h.1 (rise_merged gs h.2))
  | inr t ↦ rw t (rise_merged gs h.2)
]

within : (from first end rest most : ℕ) → from ≤ first → first ≤ end → end + rest ≤ most → from + ((end - first) + rest) ≤ most
within from first end rest most a b c = omega arith

pub few_stripes : (from : ℕ) (rs : List Stripes) → from ≤ MAX_FILE_SIZE → Rise from rs → from + count_stripes rs ≤ MAX_FILE_SIZE
few_stripes from [] l h = omega (arith, l)
few_stripes from (r ∷ rs) l h =
    rw (sum_by-cons (λ (s : Stripes). s.end - s.first) r rs)
    (within from r.first r.end (count_stripes rs) MAX_FILE_SIZE h.0 h.1 (few_stripes r.end rs h.2 h.3))

-- one more is counted
pub counted : (count i : ℕ) (rs : List Stripes) (r : Stripes) (all : ℕ) → count + count_stripes (drop i rs) ≡ all →
    i < length rs →
    (count + ((get_or rs i r).end - (get_or rs i r).first)) + count_stripes (drop (suc i) rs) ≡ all
counted count i rs r all e l =
    let s : count_stripes (drop i rs) ≡ ((get_or rs i r).end - (get_or rs i r).first) + count_stripes (drop (suc i) rs) =
    ap count_stripes (drop-cons rs i r l) ∙ sum_by-cons (λ (x : Stripes). x.end - x.first) (get_or rs i r) (drop (suc i) rs) in
    add_assoc count _ _ ∙ ap (λ (n : ℕ). count + n) (sym s) ∙ e

below : (a b all most : ℕ) → a + b ≡ all → 0 + all ≤ most → a ≤ most
below a b all most e l = omega arith

-- what was counted before the rest is less than all
pub fits_more : (count i : ℕ) (rs : List Stripes) (r : Stripes) → Rise 0 rs →
    count + count_stripes (drop i rs) ≡ count_stripes rs → i < length rs →
    count + ((get_or rs i r).end - (get_or rs i r).first) ≤ MAX_FILE_SIZE
fits_more count i rs r h e l =
    below _ (count_stripes (drop (suc i) rs)) (count_stripes rs) MAX_FILE_SIZE (counted count i rs r (count_stripes rs) e l)
    (few_stripes 0 rs (omega arith) h)

-- the grants that a fence ended, and those that another ends
pub all_inside : (gs hs : List Grant) → EndInside gs → EndInside hs → EndInside (gs ++ hs)
all_inside [] hs a b = b
all_inside (g ∷ gs) hs a b = (a.0, a.1, all_inside gs hs a.2 b)

-- ranges that rise end inside the longest file
pub are_inside : (from : ℕ) (rs : List Stripes) → Rise from rs → AreInside rs
are_inside from [] h = All-nil (λ (r : Stripes). r.end ≤ MAX_FILE_SIZE)
are_inside from (r ∷ rs) h = All-cons (λ (s : Stripes). s.end ≤ MAX_FILE_SIZE) r rs h.2 (are_inside r.end rs h.3)

-- ---- one more range, as far as the others were looked at

joined_less : (r x : Stripes) (xs : List Stripes) → x.end < r.first → joined r (x ∷ xs) ≡ x ∷ joined r xs
unfolding joined
joined_less r x xs l = rw (lt-ltb x.end r.first l) refl

joined_before : (r x : Stripes) (xs : List Stripes) → r.first ≤ x.end → r.end < x.first → joined r (x ∷ xs) ≡ r ∷ x ∷ xs
unfolding joined
joined_before r x xs g l = rw (le-ltb x.end r.first g, lt-ltb r.end x.first l) refl

joined_over : (r x : Stripes) (xs : List Stripes) → r.first ≤ x.end → x.first ≤ r.end →
    joined r (x ∷ xs) ≡ joined (record { first = min r.first x.first; end = max r.end x.end }) xs
unfolding joined
joined_over r x xs g h = rw (le-ltb x.end r.first g, le-ltb r.end x.first h) refl

module _ (all : List Stripes) (r : Stripes) (rs : List Stripes) (i : ℕ) (d : Stripes) where
  pub joined_past : (new : List Stripes) → i < length rs → (get_or rs i d).end < r.first → new ≡ all ++ (get_or rs i d ∷ []) →
      new ++ joined r (drop (i + 1) rs) ≡ all ++ joined r (drop i rs)
  joined_past new l t n =
      let x = get_or rs i d in
      ap (λ (ys : List Stripes). ys ++ joined r (drop (i + 1) rs)) n
      ∙ append_assoc all _ _
      ∙ ap (λ (ys : List Stripes). all ++ ys)
      (ap (λ (j : ℕ). x ∷ joined r (drop j rs)) (add-one i) ∙ sym (joined_less r x (drop (suc i) rs) t)
      ∙ ap (joined r) (sym (drop-cons rs i d l)))

  pub joined_on : (a b : ℕ) → i < length rs → r.first ≤ (get_or rs i d).end → (get_or rs i d).first ≤ r.end →
      a ≡ min r.first (get_or rs i d).first → b ≡ max r.end (get_or rs i d).end →
      all ++ joined (record { first = a; end = b }) (drop (i + 1) rs) ≡ all ++ joined r (drop i rs)
  joined_on a b l g h ea eb =
      let x = get_or rs i d in
      ap (λ (ys : List Stripes). all ++ ys)
      (ap (λ (j : ℕ). joined (record { first = a; end = b }) (drop j rs)) (add-one i)
      ∙ ap (λ (n : ℕ). joined (record { first = n; end = b }) (drop (suc i) rs)) ea
      ∙ ap (λ (n : ℕ). joined (record { first = min r.first x.first; end = n }) (drop (suc i) rs)) eb
      ∙ sym (joined_over r x (drop (suc i) rs) g h)
      ∙ ap (joined r) (sym (drop-cons rs i d l)))

  pub joined_stops : (new rest : List Stripes) → i < length rs → r.first ≤ (get_or rs i d).end → r.end < (get_or rs i d).first →
      new ≡ all ++ (r ∷ []) → rest ≡ drop i rs → new ++ rest ≡ all ++ joined r (drop i rs)
  joined_stops new rest l g t n e =
      ap (λ (ys : List Stripes). ys ++ rest) n
      ∙ append_assoc all _ _
      ∙ ap (λ (ys : List Stripes). all ++ ys)
      (ap (λ (ys : List Stripes). r ∷ ys) (e ∙ drop-cons rs i d l) ∙ sym (joined_before r (get_or rs i d) (drop (suc i) rs) g t)
      ∙ ap (joined r) (sym (drop-cons rs i d l)))

joined_none : (r : Stripes) → joined r [] ≡ r ∷ []
unfolding joined
joined_none r = refl

pub joined_ends : (all : List Stripes) (r : Stripes) (rs : List Stripes) (i : ℕ) → length rs ≤ i →
    all ++ (r ∷ []) ≡ all ++ joined r (drop i rs)
joined_ends all r rs i l = ap (λ (ys : List Stripes). all ++ ys) (sym (joined_none r) ∙ ap (joined r) (sym (drop_all i rs l)))
