-- Lists of grants of which no two conflict, and lists of these by file.
use Rattle.std.specs.Prelude.{ℕ, ◌==◌, ◌≤◌, ◌<◌, refl, Bool, true, false, List, [], ◌∷◌, ◌++◌, None, ◌≡◌, ◌⊎◌, find}
use Rattle.std.specs.Prelude.{suc, Option, Some, length, drop, take}
use Rattle.std.proofs.Common.{arith, inl, inr, sym, ap, ◌∙◌, get_or, drop-cons, eq-eqb}
use Rattle.std.proofs.lemmas.List.{take_all, append-nil}
use Rattle.std.proofs.Math.ListN.{drop_of_length-le}
use Rattle.std.proofs.lemmas.Bool.{cases_Bool}
use Rattle.std.proofs.lemmas.Bool.Decides.{nat_tests}
use Rattle.server_rules.specs.declared.grants.Grant.{Grant}
use Rattle.server_rules.specs.Grants.{overlaps, conflicts, grant_of}
use Rattle.server_rules.specs.Laws.{In, Apart}
use Rattle.server_rules.proofs.GrantLaws.{not_with_itself, turned_round, none_here, nobody, in_more, other_client, apart_more}
use Rattle.grant_table.specs.Refusals.{refusal, conflict_or}
use Rattle.grant_table.specs.Numbered.{has_number, without_number}

in_without : (number : ℕ) (gs : List Grant) (d : Grant) → In d (without_number number gs) → In d gs
in_without number [] d i = i
in_without number (g ∷ gs) d i = elim (cases_Bool (g.number == number)) [
  | inl t ↦ inr (rw t at i)
  | inr z ↦ in_tail number gs d g (λ j. in_without number gs d j) (rw z at i)
]
  where
    in_tail : (number : ℕ) (gs : List Grant) (d g : Grant) → (In d (without_number number gs) → In d gs) →
        In d (g ∷ without_number number gs) → In d (g ∷ gs)
    in_tail number gs d g more (inl e) = inl e
    in_tail number gs d g more (inr i) = inr (more i)

-- one taken out
pub apart_without : (number : ℕ) (gs : List Grant) → Apart gs → Apart (without_number number gs)
apart_without number gs h = λ a b i j. h a b (in_without number gs a i) (in_without number gs b j)

-- ---- a grant that isn't refused

no_reason : (a b : Option Grant) → conflict_or a b ≡ None → (a ≡ None) × (b ≡ None)
no_reason (Some held) b e = absurd (cc e)
no_reason None (Some own) e = absurd (cc e)
no_reason None None e = (refl, refl)

pub apart_added : (gs : List Grant) (g : Grant) → Apart gs → refusal gs g ≡ None → Apart (gs ++ (g ∷ []))
apart_added gs g h e =
    apart_more gs g h (no_reason (find (conflicts g) gs) (grant_of gs g.client) e).0
    (no_reason (find (conflicts g) gs) (grant_of gs g.client) e).1

-- ---- the place of a number

-- at index i stands h, and so g
same_item : (i : ℕ) (xs : List Grant) (g h : Grant) → i < length xs → g ≡ get_or xs i g → h ≡ get_or xs i h → g ≡ h
same_item i xs g h l a b = let u = drop-cons xs i g l in let v = drop-cons xs i h l in cc (u, v, a, b)

pub found_at : (number i : ℕ) (xs : List Grant) (g h : Grant) → i < length xs → g ≡ get_or xs i g → h ≡ get_or xs i h →
    h.number ≡ number → find (has_number number) (drop i xs) ≡ Some g
found_at number i xs g h l a b n =
    let d : drop i xs ≡ g ∷ drop (suc i) xs = drop-cons xs i g l ∙ ap (λ (x : Grant). x ∷ drop (suc i) xs) (sym a) in
    let m : (g.number == number) ≡ true = eq-eqb g.number number (ap (λ (x : Grant). x.number) (same_item i xs g h l a b) ∙ n) in
    rw d (rw m refl)

pub left_at : (number i : ℕ) (xs : List Grant) (h : Grant) → i < length xs → h ≡ get_or xs i h → h.number ≡ number →
    without_number number (drop i xs) ≡ drop (suc i) xs
left_at number i xs h l b n =
    let d : drop i xs ≡ h ∷ drop (suc i) xs = drop-cons xs i h l ∙ ap (λ (x : Grant). x ∷ drop (suc i) xs) (sym b) in
    rw d (rw (eq-eqb h.number number n) refl)

-- behind the last
pub at_end : (number i : ℕ) (xs : List Grant) → length xs ≤ i →
    (find (has_number number) (drop i xs) ≡ None) × (take i xs ++ without_number number (drop i xs) ≡ xs)
at_end number i xs l =
    let d : drop i xs ≡ [] = drop_of_length-le xs l in
    (rw d refl, rw d (append-nil (take i xs) ∙ take_all i xs l))
