use Rattle.std.proofs.Common.{refl}
use Rattle.stripe_repair.proofs.CursorLaws.{within, over, ended}
use Rattle.stripe_repair.proofs.cursor.PieceCursor.first.Goals as goal

pub returns-then-self : goal.returns-then-self
returns-then-self c =
    let s = c.self.inside in
    rw (← c.self.view_is) (rw (within s.unit s.ranges s.spot c.self.invariant.column c.if-self.true) (rw c.piece_at.ensures refl))

pub returns : goal.returns
returns c =
    let s = c.self.inside in
    rw (← c.self.view_is) (rw (over s.unit s.ranges s.spot c.if-self.false (ended c.self.invariant.before c.if-self.false)) refl)
