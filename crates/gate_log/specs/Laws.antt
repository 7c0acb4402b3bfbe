-- Laws of contents: which log they are, if they are one.
use Rattle.std.specs.Prelude.{◌≡◌, ℕ, List}
use Rattle.gate_log.specs.Broken.{IsBrokenAt}
use Rattle.gate_log.specs.Logs.{IsLog}

-- contents are no more than one log
abbrev pub ContentsAreOneLog : Type 0
ContentsAreOneLog =
    (header : List ℕ) (bodies : List (List ℕ)) (other : List ℕ) (others : List (List ℕ)) (c : List ℕ) →
    IsLog header bodies c → IsLog other others c → (header ≡ other) × (bodies ≡ others)

-- what is refused is no log
abbrev pub BrokenIsNoLog : Type 0
BrokenIsNoLog =
    (header : List ℕ) (bodies : List (List ℕ)) (c : List ℕ) (at : ℕ) → IsBrokenAt c at → IsLog header bodies c → ⊥

-- contents are refused at one place
abbrev pub BrokenAtOnePlace : Type 0
BrokenAtOnePlace = (c : List ℕ) (at other : ℕ) → IsBrokenAt c at → IsBrokenAt c other → at ≡ other
