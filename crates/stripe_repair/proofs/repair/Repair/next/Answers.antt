use Rattle.stripe_repair.proofs.RepairLaws.{next_ok}
use Rattle.stripe_repair.proofs.repair.Repair.next.Goals as goal

pub returns : goal.returns
returns c =
    let s = c.self.inside in
    rw (← c.self.view_is)
    (next_ok c.go_on.result c.args.kept.now c.args.nonce s.todo c.go_on.new.todo s.short c.go_on.new.short
    c.go_on.ensures.exact)
