use Rattle.std.proofs.Common.{refl}
use Rattle.stripe_repair.proofs.MarkLaws.{above_all}
use Rattle.stripe_repair.proofs.marks.Marks.contains.Goals as goal

pub returns-then-number-self : goal.returns-then-number-self
returns-then-number-self c =
    let m = c.self.inside in
    rw (← c.self.view_is) (rw (above_all c.args.number m.top m.numbers c.self.invariant c.if-number-self.true) refl)
