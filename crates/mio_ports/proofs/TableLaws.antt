-- How many connections a table has.
use Rattle.std.proofs.Common.{◌≡◌, ℕ, ◌+◌, ◌<◌, ◌≤◌, List, length, Option, None, Some, Result, Ok, Err, IfOk, OnErr}
use Rattle.std.proofs.Common.{ap, arith}
use Rattle.std.specs.Prelude.{is_some, if◌then◌else◌}

-- after an insertion that is one more at most, or all is as before
pub few_more : {A X E : Type 0} (before after : List A) (most : ℕ) (r : Result (Option X) E) → length before < most
    → IfOk r (λ old. length after ≡ length before + (if is_some old then 0 else 1)) → OnErr r (after ≡ before)
    → length after ≤ most
few_more before after most (Ok None) l ok err = omega (arith, l, ok)
few_more before after most (Ok (Some x)) l ok err = omega (arith, l, ok)
few_more before after most (Err e) l ok err = omega (arith, l, ap (λ xs. length xs) err)
