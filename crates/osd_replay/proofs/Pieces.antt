-- A part of some pieces: whole pieces, and the front of the next.
use Rattle.std.proofs.Common.{◌≡◌, ℕ, suc, ◌+◌, ◌<◌, ◌≤◌, List, ◌++◌, length, take, drop, get_or, sym, ap, ◌∙◌, drop-cons, add-one}
use Rattle.std.specs.List.{flat_map}
use Rattle.std.proofs.Math.Seq.{take-append-add}
use Rattle.std.proofs.lemmas.List.{take-append-drop, take-append-le}
use Rattle.std.proofs.lemmas.List.Concat.{flat_map-cons}
use Rattle.std.proofs.lemmas.Grind.{flat_map-append}

pub cut_in_piece : {X : Type 0} (f : X → List ℕ) (ps : List X) (i n : ℕ) (e : X) → i < length ps →
    n ≤ length (f (get_or ps i e)) →
    take (length (flat_map f (take i ps)) + n) (flat_map f ps) ≡ flat_map f (take i ps) ++ take n (f (get_or ps i e))
cut_in_piece {X} f ps i n e inside short =
    let split : flat_map f ps ≡ flat_map f (take i ps) ++ (f (get_or ps i e) ++ flat_map f (drop (i + 1) ps)) =
    ap (flat_map f) (sym (take-append-drop i ps)) ∙ flat_map-append f (take i ps) (drop i ps)
    ∙ ap (λ (x : List X). flat_map f (take i ps) ++ flat_map f x) (drop-cons ps i e inside)
    ∙ ap (λ (x : List ℕ). flat_map f (take i ps) ++ x) (flat_map-cons f (get_or ps i e) (drop (suc i) ps))
    ∙ ap (λ j. flat_map f (take i ps) ++ (f (get_or ps i e) ++ flat_map f (drop j ps))) (sym (add-one i)) in
    rw split (take-append-add (flat_map f (take i ps)) (f (get_or ps i e) ++ flat_map f (drop (i + 1) ps)) n
    ∙ ap (λ x. flat_map f (take i ps) ++ x) (take-append-le n (f (get_or ps i e)) (flat_map f (drop (i + 1) ps)) short))
