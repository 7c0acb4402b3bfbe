-- One component more that may become missing.
use Rattle.std.specs.Prelude.{ℕ, Bool, true, false, List, [], ◌∷◌, ◌++◌, ◌≡◌, ◌+◌, ◌<◌, ◌==◌, ◌||◌, suc, length, if◌then◌else◌}
use Rattle.std.proofs.Common.{ap, sym, inl, inr, ◌∙◌, append_assoc, drop, drop-cons, get_or, add-one}
use Rattle.std.proofs.Math.Bool.{or-true, or-false}
use Rattle.std.proofs.lemmas.Bool.{cases_Bool}
use Rattle.server_rules.specs.declared.files.Component.{Component}
use Rattle.server_rules.specs.Numbers.{among}
use Rattle.server_rules.specs.Standing.{lose_from}

one_lost : (lost k : ℕ) (at : Component) →
    (if among k (lost ∷ []) then record at { missing = true } else at) ≡ record at { missing = at.missing || (k == lost) }
unfolding among
one_lost lost k at = elim (cases_Bool (k == lost)) [
  | inl here ↦ rw here (ap (λ (b : Bool). record at { missing = b }) (sym (or-true at.missing)))
  | inr elsewhere ↦ rw elsewhere (ap (λ (b : Bool). record at { missing = b }) (sym (or-false at.missing)))
]

lose_next : (lost k : ℕ) (at : Component) (cs : List Component) →
    lose_from (lost ∷ []) (at ∷ cs) k ≡ record at { missing = at.missing || (k == lost) } ∷ lose_from (lost ∷ []) cs (k + 1)
unfolding lose_from
lose_next lost k at cs = ap (λ (c : Component). c ∷ lose_from (lost ∷ []) cs (k + 1)) (one_lost lost k at)

pub lost_more : (lost k i : ℕ) (left new cs : List Component) (d : Component) (missing : Bool) → i < length cs →
    missing ≡ ((get_or cs i d).missing || (k == lost)) →
    new ≡ left ++ (record (get_or cs i d) { missing = missing } ∷ []) →
    left ++ lose_from (lost ∷ []) (drop i cs) k ≡ lose_from (lost ∷ []) cs 0 →
    new ++ lose_from (lost ∷ []) (drop (i + 1) cs) (k + 1) ≡ lose_from (lost ∷ []) cs 0
lost_more lost k i left new cs d missing l m n e =
    let at = get_or cs i d in
    ap (λ (xs : List Component). xs ++ lose_from (lost ∷ []) (drop (i + 1) cs) (k + 1))
    (n ∙ ap (λ (b : Bool). left ++ (record (get_or cs i d) { missing = b } ∷ [])) m)
    ∙ append_assoc left _ _
    ∙ ap (λ (xs : List Component). left ++ xs)
    (ap (λ (j : ℕ). record at { missing = at.missing || (k == lost) } ∷ lose_from (lost ∷ []) (drop j cs) (k + 1)) (add-one i)
    ∙ sym (lose_next lost k at (drop (suc i) cs))
    ∙ ap (λ (xs : List Component). lose_from (lost ∷ []) xs k) (sym (drop-cons cs i d l)))
    ∙ e

-- it is missing already
pub was_lost : (m n b : Bool) → m ≡ n → n ≡ true → m ≡ (n || b)
was_lost m n b e t = rw t (e ∙ t)

-- or only if it is that one
pub may_be_lost : (m n b : Bool) → m ≡ b → n ≡ false → m ≡ (n || b)
may_be_lost m n b e f = rw f e
