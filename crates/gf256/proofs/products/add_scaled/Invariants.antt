use Rattle.std.proofs.Common.{◌*◌, get_or}
use Rattle.std.specs.Prelude.{bit_xor}
use Rattle.gf256.specs.Field.{product}
use Rattle.gf256.proofs.Blocks.{Reached}
use Rattle.gf256.proofs.products.add_scaled.Given as goal

abbrev pub invariant-loop-b : goal.invariant-loop-b
invariant-loop-b l =
    Reached (λ k. bit_xor (get_or l.initial.out k 0) (product l.c (get_or l.src k 0))) l.initial.out l.out (64 * l.b)

abbrev pub invariant-loop-i : goal.invariant-loop-i
invariant-loop-i l = Reached (λ k. bit_xor (get_or l.fn.out k 0) (product l.c (get_or l.src k 0))) l.fn.out l.out l.i
