-- The messages that are due, one after the other.
use Rattle.std.proofs.Common.{◌≡◌, ℕ, zero, suc, ◌+◌, List, [], ◌∷◌, ◌++◌, drop, Option, Some, refl, sym, ap, ◌∙◌, append_assoc}
use Rattle.std.specs.Prelude.{not, slice_get}
use Rattle.std.proofs.Math.Numerals.{add-one}
use Rattle.osd_lists.specs.declared.node.Node.{Node}
use Rattle.node_loop.specs.Nodes.{Held}
use Rattle.node_loop.specs.Points.{due_of, is_waited_for, open_at}
use Rattle.node_loop.specs.declared.party.Message.{Message}
use Rattle.node_loop.proofs.LookLaws.{either-way}

pub drop-next : {A : Type 0} (xs : List A) (i : ℕ) (x : A) → slice_get xs i ≡ Some x → drop i xs ≡ x ∷ drop (i + 1) xs
drop-next {A} xs i x e = rw add-one (next xs i x e)
  where
    next : (xs : List A) (i : ℕ) (x : A) → slice_get xs i ≡ Some x → drop i xs ≡ x ∷ drop (suc i) xs
    next [] i x e = absurd (cc e)
    next (y ∷ xs) zero x e = ap (λ (z : A). z ∷ xs) (cc e)
    next (y ∷ xs) (suc i) x e = next xs i x e

due-one : (at : ℕ → Option Held) (ways : Node → Option ℕ) (m : Message) (ms : List Message)
    → due_of at ways (m ∷ []) ++ due_of at ways ms ≡ due_of at ways (m ∷ ms)
due-one at ways m ms =
    either-way (not (is_waited_for (open_at (ways m.to) at))) (λ e. rw e refl) (λ e. rw e refl)

pub due-more : (at : ℕ → Option Held) (ways : Node → Option ℕ) (due ms : List Message) (i : ℕ) (m : Message)
    → slice_get ms i ≡ Some m
    → (due ++ due_of at ways (m ∷ [])) ++ due_of at ways (drop (i + 1) ms) ≡ due ++ due_of at ways (drop i ms)
due-more at ways due ms i m e =
    append_assoc due (due_of at ways (m ∷ [])) (due_of at ways (drop (i + 1) ms))
    ∙ ap (λ (l : List Message). due ++ l) (due-one at ways m (drop (i + 1) ms))
    ∙ ap (λ (l : List Message). due ++ due_of at ways l) (sym (drop-next ms i m e))
