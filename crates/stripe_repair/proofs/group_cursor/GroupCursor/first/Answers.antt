use Rattle.std.proofs.Common.{refl}
use Rattle.stripe_repair.proofs.GroupLaws.{first_there}
use Rattle.stripe_repair.proofs.group_cursor.GroupCursor.first.Goals as goal

pub returns-then-self : goal.returns-then-self
returns-then-self c =
    let s = c.self.inside in
    rw (← c.self.view_is)
    (rw (first_there s.map s.group s.spot c.self.invariant.column c.if-self.true (c.self.invariant.stands c.if-self.true))
    (rw (c.piece_at.ensures, c.raw.ensures.value) refl))
