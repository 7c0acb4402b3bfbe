use Rattle.std.proofs.Common.{[], ◌∷◌, arith}
use Rattle.gate_log.proofs.log.GateLog.append.Goals as goal

pub returns-in-Ok-clause-any_moment : goal.returns-in-Ok-clause-any_moment
returns-in-Ok-clause-any_moment g c header bodies s =
    c.add.ensures.any_moment header bodies (c.args.entry.now ∷ [])
    (record { are_bodies = (c.piece.ensures.is_body, tt); some = omega arith; bytes_are = c.piece.ensures.bytes }) s

pub returns-in-Ok-clause-added : goal.returns-in-Ok-clause-added
returns-in-Ok-clause-added g c header bodies s =
    c.in-Ok.ensures.added header bodies (c.args.entry.now ∷ [])
    (record { are_bodies = (c.piece.ensures.is_body, tt); some = omega arith; bytes_are = c.piece.ensures.bytes }) s

pub returns-in-Ok-clause-written : goal.returns-in-Ok-clause-written
returns-in-Ok-clause-written g c header bodies s was =
    c.in-Ok.ensures.written header bodies (c.args.entry.now ∷ [])
    (record { are_bodies = (c.piece.ensures.is_body, tt); some = omega arith; bytes_are = c.piece.ensures.bytes }) s was

pub returns-in-Err-clause-any_moment : goal.returns-in-Err-clause-any_moment
returns-in-Err-clause-any_moment g c header bodies s =
    c.add.ensures.any_moment header bodies (c.args.entry.now ∷ [])
    (record { are_bodies = (c.piece.ensures.is_body, tt); some = omega arith; bytes_are = c.piece.ensures.bytes }) s
