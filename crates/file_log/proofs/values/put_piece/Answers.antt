use Rattle.file_log.proofs.Pieces.{byte_more}
use Rattle.file_log.proofs.values.put_piece.Goals as goal

pub loop-i-preserved : goal.loop-i-preserved
loop-i-preserved c =
    λ p. byte_more c.args.offset c.args.piece.now c.loop-i.i p c.args.settles _ _ _ c.loop-i-test.true (c.loop-i.invariant p)
    (rw c.from.ensures at c.in_ok-put_byte.ensures p)
