-- What a disk in memory is seen as.
use Rattle.std.specs.Prelude.{◌≡◌, ◌⊎◌, ℕ, List, [], ◌∷◌, ◌++◌, Option, Some, None}
use Rattle.osd_disk.specs.Calls.{all_done, left_after, left_from}
use Rattle.osd_disk.specs.declared.calls.Call.{Call}
use Rattle.osd_disk.specs.declared.calls.Call.TheVariants.{Idle}

-- its first bytes, its calls since, the numbers of the calls that fail, and the faults so far
pub record Medium : Type 0 where
  pub first : List ℕ
  pub calls : List Call
  pub fails : List ℕ
  pub faults : ℕ

-- the first bytes, which aren't kept as long as they are those that are there now
abbrev pub first_or : List ℕ → Option (List ℕ) → List ℕ
first_or bytes (Some first) = first
first_or bytes None = bytes

-- the bytes that are there now
abbrev pub bytes_of : Medium → List ℕ
bytes_of m = all_done m.calls m.first

-- what a crash now may leave
abbrev pub may_hold : Medium → List ℕ → Type 0
may_hold m c = left_after m.calls m.first (λ d. d ≡ m.first) c

-- what a crash after t calls or more might have left
abbrev pub might_hold : Medium → ℕ → List ℕ → Type 0
might_hold m t c = left_from t m.calls m.first (λ d. d ≡ m.first) c

-- a call was done
abbrev pub Did : Call → Medium → Medium → Type 0
Did call old new = new ≡ record old { calls = old.calls ++ call ∷ [] }

-- a call failed: it changed nothing, and was counted or not
abbrev pub Failed : Medium → Medium → Type 0
Failed old new =
    (new ≡ record old { faults = new.faults }) ⊎ (new ≡ record old { calls = old.calls ++ Idle ∷ []; faults = new.faults })

-- a disk with these bytes, of which none of the calls fails
abbrev pub fresh : List ℕ → Medium
fresh bytes = record { first = bytes; calls = []; fails = []; faults = 0 }
