-- What lost rows come back, and when they don't.
use Rattle.std.specs.Prelude.{ℕ, ◌<◌, List, [], ◌∷◌, length, slice_set, nat_lt, if◌then◌else◌, Result, Ok, Err}
use Rattle.std.specs.List.{All}
use Rattle.std.specs.List.Sorted.{IsStrictlyIncreasing}
use Rattle.parity_code.specs.declared.code.Code.{Code}
use Rattle.parity_code.specs.declared.code.CodeErr.{CodeErr}
use Rattle.parity_code.specs.declared.code.CodeErr.TheVariants.{TooManyLost}
use Rattle.parity_code.specs.Codeword.{count_of}
use Rattle.parity_code.specs.Repairs.{repaired_column, repair_of, first_repair, second_repair}

-- a column with 0 at its lost rows
abbrev pub cleared : (lost col : List ℕ) → List ℕ
cleared [] col = col
cleared (x ∷ xs) col = cleared xs (slice_set col x 0)

-- a column with its lost rows, of which there are at most two, made from the others: of any column at all, and the
-- codeword where there is one that has those others
unfoldable pub decoded : (units : ℕ) → (lost col : List ℕ) → List ℕ
decoded units [] col = col
decoded units (x ∷ []) col = repaired_column units (repair_of units x) (repair_of units x) (cleared (x ∷ []) col)
decoded units (x ∷ y ∷ ys) col =
    repaired_column units (first_repair units x y) (second_repair units x y) (cleared (x ∷ y ∷ []) col)

-- rising positions below n
pub record ArePositions (n : ℕ) (lost : List ℕ) : Type 0 where
  pub rising : IsStrictlyIncreasing lost
  pub below : All (λ x. x < n) lost

-- rows come back unless more are lost than the code has parity rows
abbrev pub decoding : Code → List ℕ → Result (Unit {0}) CodeErr
decoding code lost = if nat_lt (count_of code) (length lost) then Err (TooManyLost (length lost)) else Ok tt
