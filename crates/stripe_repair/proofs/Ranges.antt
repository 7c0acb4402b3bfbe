-- One more number of a range, in a filter.
use Rattle.std.specs.Prelude.{ℕ, Bool, true, false, not, Option, Some, None, is_some, is_none, cond, filter, List, [], ◌∷◌, ◌++◌, refl, ◌≡◌, ◌+◌, map}
use Rattle.std.specs.List.{range_with_len}
use Rattle.std.proofs.Common.{ap, arith, sym, append-nil, ◌∙◌}
use Rattle.std.proofs.lemmas.List.FromFn.{filter_of_map_range_with_len_more}

map_id : (l : List ℕ) → map (λ (i : ℕ). i) l ≡ l
map_id [] = refl
map_id (x ∷ l) = ap (λ k. x ∷ k) (map_id l)

filter_more : (p : ℕ → Bool) (a n : ℕ) →
    filter p (range_with_len a (n + 1)) ≡ filter p (range_with_len a n) ++ cond (p (a + n)) ((a + n) ∷ []) []
filter_more p a n =
    ap (λ l. filter p l) (sym (map_id (range_with_len a (n + 1))))
    ∙ filter_of_map_range_with_len_more p (λ i. i) a n (a + n) refl
    ∙ ap (λ l. filter p l ++ cond (p (a + n)) ((a + n) ∷ []) []) (map_id (range_with_len a n))

pub filter_yes : (p : ℕ → Bool) (a n : ℕ) → p (a + n) ≡ true →
    filter p (range_with_len a (n + 1)) ≡ filter p (range_with_len a n) ++ ((a + n) ∷ [])
filter_yes p a n e = filter_more p a n ∙ ap (λ b. filter p (range_with_len a n) ++ cond b ((a + n) ∷ []) []) e

pub filter_no : (p : ℕ → Bool) (a n : ℕ) → p (a + n) ≡ false → filter p (range_with_len a (n + 1)) ≡ filter p (range_with_len a n)
filter_no p a n e =
    filter_more p a n ∙ ap (λ b. filter p (range_with_len a n) ++ cond b ((a + n) ∷ []) []) e
    ∙ append-nil (filter p (range_with_len a n))

-- none where there isn't some
pub none_of : (o : Option ℕ) (b : Bool) → is_some o ≡ not b → is_none o ≡ b
none_of None true e = refl
none_of None false e = absurd (cc e)
none_of (Some k) true e = absurd (cc e)
none_of (Some k) false e = refl

-- the same from 0 on
pub first_yes : (p : ℕ → Bool) (n : ℕ) → p n ≡ true →
    filter p (range_with_len 0 (n + 1)) ≡ filter p (range_with_len 0 n) ++ (n ∷ [])
first_yes p n e = let z : 0 + n ≡ n = omega arith in rw z at (filter_yes p 0 n (rw z e))

pub first_no : (p : ℕ → Bool) (n : ℕ) → p n ≡ false → filter p (range_with_len 0 (n + 1)) ≡ filter p (range_with_len 0 n)
first_no p n e = let z : 0 + n ≡ n = omega arith in filter_no p 0 n (rw z e)
