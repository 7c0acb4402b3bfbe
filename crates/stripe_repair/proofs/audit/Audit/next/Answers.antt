use Rattle.stripe_repair.proofs.AuditLaws.{next_audits}
use Rattle.stripe_repair.proofs.audit.Audit.next.Goals as goal

pub returns : goal.returns
returns c =
    let s = c.self.inside in
    rw (← c.self.view_is)
    (next_audits c.inspect_on.result c.args.kept.now c.args.nonce s.todo c.inspect_on.new.todo
    (record { lengths = s.lengths; short = s.short; bad = s.bad }) c.inspect_on.new.short c.inspect_on.ensures.exact)
