use Rattle.std.proofs.Common.{◌≡◌, ◌++◌, replicate}
use Rattle.xdr_codec.proofs.writer.put_padded.Given as goal

abbrev pub invariant-loop : goal.invariant-loop
invariant-loop l = l.out.items ≡ l.fn.out.items ++ (l.field ++ replicate l.counter 0)
