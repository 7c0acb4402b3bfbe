use Rattle.std.proofs.Common.{refl}
use Rattle.stripe_repair.proofs.CursorLaws.{over, ended}
use Rattle.stripe_repair.proofs.cursor.PieceCursor.advance.Goals as goal

pub returns-else-self : goal.returns-else-self
returns-else-self c =
    let s = c.self.inside in
    rw (← c.self.view_is) (rw (over s.unit s.ranges s.spot c.if-self.false (ended c.self.invariant.before c.if-self.false)) refl)
