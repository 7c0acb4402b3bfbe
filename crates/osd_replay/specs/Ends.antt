-- The ends of a run, what is read of its input, and what goes out before an error line.
use Rattle.std.specs.Prelude.{◌≡◌, ℕ, ◌+◌, ◌⊎◌, List, ◌++◌, length, take, ⊤, Option, Some, None, Err}
use Rattle.std.specs.Io.KnownBytes.{Appends, Consumes}
use Rattle.osd_bytes.specs.Causes.{Rose}
use Rattle.osd_bytes.specs.Lines.{lines_of, newlines, next_of}
use Rattle.osd_bytes.specs.declared.lines.LineErr.{LineErr}
use Rattle.osd_bytes.specs.declared.lines.LineErr.TheVariants.{TooLong, InputFull}
use Rattle.osd_replay.specs.declared.status.Quantity.{Quantity}
use Rattle.osd_replay.specs.declared.status.Quantity.TheVariants.{Input, Line, Kept}

-- the bytes that the source has left and that the sink has taken, where they tell them, and the counts of their faults
pub record Ends : Type 0 where
  pub left : Option (List ℕ)
  pub taken : Option (List ℕ)
  pub reads_failed : ℕ
  pub writes_failed : ℕ

abbrev pub ends : Option (List ℕ) → ℕ → Option (List ℕ) → ℕ → Ends
ends left reads_failed taken writes_failed = record {
  left = left;
  taken = taken;
  reads_failed = reads_failed;
  writes_failed = writes_failed;
}

-- these are the first lines of the input, where it is known
abbrev pub Begins : Option (List ℕ) → List (List ℕ) → Type 0
Begins None lines = ⊤
Begins (Some input) lines = (later : List (List ℕ)) × (lines_of input ≡ lines ++ later)

-- these are all lines of the input, where it is known
abbrev pub IsAll : Option (List ℕ) → List (List ℕ) → Type 0
IsAll None lines = ⊤
IsAll (Some input) lines = lines_of input ≡ lines

-- the line reader answers so where a quantity passes its limit; of kept bytes it knows nothing
abbrev pub IsLimitPassed : Quantity → LineErr → Type 0
IsLimitPassed Input e = e ≡ InputFull
IsLimitPassed Line e = e ≡ TooLong
IsLimitPassed Kept e = ⊥

-- behind these lines of the input the quantity passes its limit, where the input is known
abbrev pub PassesNext : Option (List ℕ) → List (List ℕ) → Quantity → Type 0
PassesNext None lines quantity = ⊤
PassesNext (Some input) lines quantity =
    (front rest : List ℕ) × (input ≡ front ++ rest) × (lines_of input ≡ lines ++ lines_of rest)
    × (e : LineErr) × IsLimitPassed quantity e × (next_of (length front) rest ≡ Err e)

-- the number is one more than the newlines among the bytes that were taken
abbrev pub IsLineAt : (number : ℕ) → (before now : Option (List ℕ)) → Type 0
IsLineAt number before now = (bytes : List ℕ) × Consumes before now bytes × (number ≡ newlines bytes + 1)

-- the bytes went out, and then an error line, cut only where the sink failed
pub record PutsError (before after : Ends) (bytes error : List ℕ) : Type 0 where
  pub upto : ℕ
  pub out : Appends before.taken after.taken (bytes ++ take upto error)
  pub cut : (upto ≡ length error) ⊎ Rose before.writes_failed after.writes_failed
