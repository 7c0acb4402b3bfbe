use Rattle.std.proofs.Common.{◌++◌, arith, take}
use Rattle.osd_bytes.proofs.NextLine.{Consumes-then}
use Rattle.cluster_text.proofs.Lengths.{passes, within}
use Rattle.cluster_text.proofs.whole.read_whole.Goals as goal

pub returns-in-Ok-clause-stops : goal.returns-in-Ok-clause-stops
returns-in-Ok-clause-stops g c = record {
  bytes = c.pieces.bytes ++ take c.in-Ok.count c.take.new.buf;
  came = Consumes-then _ _ _ _ _ c.pieces.invariant.1 c.in-Ok.ensures.bytes.0;
  passes = passes c.pieces.bytes c.take.new.buf c.in-Ok.count c.pieces.invariant.0 c.in-Ok.ensures.bound.0
      (omega (arith, c.if-count-room.true, c.len.ensures));
}

pub returns-in-Ok-clause-input : goal.returns-in-Ok-clause-input
returns-in-Ok-clause-input g c = (
  c.pieces.bytes ++ take c.in-Ok.count c.take.new.buf,
  Consumes-then _ _ _ _ _ c.pieces.invariant.1 c.in-Ok.ensures.bytes.0,
  within c.pieces.bytes c.take.new.buf c.in-Ok.count c.pieces.invariant.0
      (omega (arith, c.if-count-room.true, c.len.ensures)),
)

pub returns-in_err-extend_from_slice-in-Ok-2-clause-input :
    goal.returns-in_err-extend_from_slice-in-Ok-2-clause-input
returns-in_err-extend_from_slice-in-Ok-2-clause-input g c = (
  c.pieces.bytes ++ take c.in-Ok-2.count c.take.new.buf,
  Consumes-then _ _ _ _ _ c.pieces.invariant.1 c.in-Ok-2.ensures.bytes.0,
  within c.pieces.bytes c.take.new.buf c.in-Ok-2.count c.pieces.invariant.0 (omega arith),
)
