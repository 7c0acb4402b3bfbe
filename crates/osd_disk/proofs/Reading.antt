-- A read that goes on behind an earlier one.
use Rattle.std.proofs.Common.{◌≡◌, ℕ, ◌+◌, ◌≤◌, List, ◌++◌, length, take, drop, sym, ◌∙◌, ap}
use Rattle.std.proofs.lemmas.List.{take_at, drop_at, drop-drop, take-append-le, length-take-le}
use Rattle.std.proofs.Math.Seq.{take-add}

pub reads_on : (buf new post bytes : List ℕ) (at done n : ℕ) → done ≤ length buf → n ≤ length new →
    take done buf ≡ take done (drop at bytes)
    → take n new ≡ take n (drop (at + done) bytes) →
    take (done + n) (take done buf ++ (new ++ post)) ≡ take (done + n) (drop at bytes)
reads_on buf new post bytes at done n fits le front next =
    let whole = take done buf ++ (new ++ post) in
    let long : length (take done buf) ≡ done = length-take-le done buf fits in
    take-add done n whole
    ∙ ap (λ (l : List ℕ). l ++ take n (drop done whole)) (take_at (take done buf) (new ++ post) done long ∙ front)
    ∙ ap (λ (l : List ℕ). take done (drop at bytes) ++ l)
    (ap (λ (l : List ℕ). take n l) (drop_at (take done buf) (new ++ post) done long) ∙ take-append-le n new post le ∙ next
    ∙ ap (λ (l : List ℕ). take n l) (sym (drop-drop done at bytes)))
    ∙ sym (take-add done n (drop at bytes))
