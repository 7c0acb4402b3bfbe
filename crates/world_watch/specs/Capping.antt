-- Numbers that stop at the greatest number of 64 bits.
use Rattle.std.specs.Prelude.{◌≡◌, ℕ, ◌+◌, ◌-◌, ◌^◌, min, List, [], ◌∷◌}
use Rattle.world_history.specs.declared.summary.Summary.{Summary}

-- a number, or the greatest of 64 bits
abbrev pub capped : ℕ → ℕ
capped n = min n (2 ^ 64 - 1)

-- a sum and these numbers, one after another
abbrev pub sum_onto : ℕ → List ℕ → ℕ
sum_onto n [] = n
sum_onto n (b ∷ bs) = sum_onto (capped (n + b)) bs

-- each number so
abbrev pub capped_summary : Summary → Summary
capped_summary s = record {
  calls = capped s.calls;
  ok = capped s.ok;
  writes = capped s.writes;
  reads = capped s.reads;
  read_bytes = capped s.read_bytes;
  read_sum = capped s.read_sum;
}

-- whatever the true numbers are, they go on so
abbrev pub Counts : (Summary → Summary) → Summary → Summary → Type 0
Counts goes_on before after = (s : Summary) → before ≡ capped_summary s → after ≡ capped_summary (goes_on s)
