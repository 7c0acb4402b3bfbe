-- Parity after one row of data changed.
use Rattle.std.specs.Prelude.{ℕ, List}
use Rattle.gf256.specs.Field.{added, summed, two_to}
use Rattle.parity_code.specs.declared.code.Code.{Code}
use Rattle.parity_code.specs.declared.code.Code.TheVariants.{Plain, Xor, PandQ}

-- P gains the old data and the new
abbrev pub p_after : Code → List ℕ → List ℕ → List ℕ → List ℕ
p_after Plain old new p = p
p_after Xor old new p = summed (summed p old) new
p_after PandQ old new p = summed (summed p old) new

-- Q gains that power of 2 times them, where the code has it
abbrev pub q_after : Code → ℕ → List ℕ → List ℕ → List ℕ → List ℕ
q_after Plain position old new q = q
q_after Xor position old new q = q
q_after PandQ position old new q = added (two_to position) (added (two_to position) q old) new
