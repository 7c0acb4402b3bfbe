use Rattle.std.proofs.Common.{◌*◌, take}
use Rattle.parity_code.specs.Codeword.{codeword}
use Rattle.parity_code.specs.Columns.{Become}
use Rattle.parity_code.proofs.encoder.encode.Given as goal

abbrev pub invariant-loop-b : goal.invariant-loop-b
invariant-loop-b l = Become 0 (64 * l.b) (λ col. codeword l.code (take l.units col)) l.initial.rows l.rows

abbrev pub invariant-loop-k : goal.invariant-loop-k
invariant-loop-k l = Become 0 l.k (λ col. codeword l.code (take l.units col)) l.fn.rows l.rows
