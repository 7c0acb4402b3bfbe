use Rattle.std.proofs.Common.{arith}
use Rattle.stripe_repair.proofs.CursorLaws.{within, past, within_range, past_range}
use Rattle.stripe_repair.proofs.cursor.behind.Goals as goal

pub returns-then-unit-spot-gt-MAX_PIECE-clause-left : goal.returns-then-unit-spot-gt-MAX_PIECE-clause-left
returns-then-unit-spot-gt-MAX_PIECE-clause-left c = within_range c.args.unit c.args.spot c.requires.column c.requires.inside

pub returns-then-unit-spot-gt-MAX_PIECE-clause-rest : goal.returns-then-unit-spot-gt-MAX_PIECE-clause-rest
returns-then-unit-spot-gt-MAX_PIECE-clause-rest c =
    λ ranges. within c.args.unit ranges c.args.spot c.requires.column c.requires.inside

pub returns-clause-left : goal.returns-clause-left
returns-clause-left c =
    past_range c.args.unit c.args.spot c.requires.column c.requires.inside
    (omega (arith, c.if-unit-spot-gt-MAX_PIECE.false, c.requires.column))

pub returns-clause-rest : goal.returns-clause-rest
returns-clause-rest c =
    λ ranges. past c.args.unit ranges c.args.spot c.requires.column c.requires.inside
    (omega (arith, c.if-unit-spot-gt-MAX_PIECE.false, c.requires.column))
