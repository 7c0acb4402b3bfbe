use Rattle.std.proofs.Common.{rules}
use Rattle.client_command.specs.OnLinks.{on_links}
use Rattle.client_command.proofs.Reported.{cuts_ended, cuts_stopped, is_ended, is_lost, untold}
use Rattle.client_command.proofs.reports.report_call.Goals as goal

pub returns-in-Ok-clause-reports : goal.returns-in-Ok-clause-reports
returns-in-Ok-clause-reports g c =
    is_ended c.args.client c.number.result c.args.sequence _ c.op_of-op.result c.kind_of-kind.result c.new-notices.result
    c.call_new.new.notices
    c.as_slice.result.now
    (on_links (g.L.Links.told c.args.links.now) (g.L.Links.faults c.args.links.now))
    (on_links (g.L.Links.told c.call_new.new.links) (g.L.Links.faults c.call_new.new.links))
    (search rules) (search rules) (search rules) (search rules) (search rules)
    c.in-Ok.next c.report_end.result c.in-Ok.ensures.calls c.report_end.ensures

pub returns-in-Err-Lost-clause-reports : goal.returns-in-Err-Lost-clause-reports
returns-in-Err-Lost-clause-reports g c =
    is_lost c.args.client c.number.result c.args.sequence _ c.op_of-op.result c.kind_of-kind.result c.new-notices.result
    c.call_new.new.notices
    c.as_slice-in-Err-Lost.result.now
    (on_links (g.L.Links.told c.args.links.now) (g.L.Links.faults c.args.links.now))
    (on_links (g.L.Links.told c.call_new.new.links) (g.L.Links.faults c.call_new.new.links))
    (search rules) (search rules) (search rules) (search rules) (search rules)
    c.report_loss.result (rw c.in-Err-Lost.field-0-is at c.in-Err-Lost.ensures.stops) c.report_loss.ensures

pub returns-in-Ok-clause-cuts : goal.returns-in-Ok-clause-cuts
returns-in-Ok-clause-cuts g c =
    untold c.report_end.result _
    (cuts_ended c.args.client c.number.result c.args.sequence _ c.op_of-op.result c.new-notices.result
    c.call_new.new.notices
    (on_links (g.L.Links.told c.args.links.now) (g.L.Links.faults c.args.links.now))
    (on_links (g.L.Links.told c.call_new.new.links) (g.L.Links.faults c.call_new.new.links))
    (search rules) (search rules) (search rules)
    c.in-Ok.ensures.calls.0 c.in-Ok.ensures.calls.1)

pub returns-in-Err-Refused-clause-cuts : goal.returns-in-Err-Refused-clause-cuts
returns-in-Err-Refused-clause-cuts g c =
    untold c.report_refusal.result _
    (cuts_stopped c.args.client c.number.result c.args.sequence _ c.op_of-op.result c.new-notices.result
    c.call_new.new.notices
    (on_links (g.L.Links.told c.args.links.now) (g.L.Links.faults c.args.links.now))
    (on_links (g.L.Links.told c.call_new.new.links) (g.L.Links.faults c.call_new.new.links))
    (search rules) (search rules) (search rules)
    c.in-Err-Refused.ensures.stops.0 _ c.in-Err-Refused.ensures.stops.1)

pub returns-in-Err-Lost-clause-cuts : goal.returns-in-Err-Lost-clause-cuts
returns-in-Err-Lost-clause-cuts g c =
    untold c.report_loss.result _
    (cuts_stopped c.args.client c.number.result c.args.sequence _ c.op_of-op.result c.new-notices.result
    c.call_new.new.notices
    (on_links (g.L.Links.told c.args.links.now) (g.L.Links.faults c.args.links.now))
    (on_links (g.L.Links.told c.call_new.new.links) (g.L.Links.faults c.call_new.new.links))
    (search rules) (search rules) (search rules)
    c.in-Err-Lost.ensures.stops.0 _ c.in-Err-Lost.ensures.stops.1)

pub returns-clause-cuts : goal.returns-clause-cuts
returns-clause-cuts g c =
    cuts_stopped c.args.client c.number.result c.args.sequence _ c.op_of-op.result c.new-notices.result
    c.call_new.new.notices
    (on_links (g.L.Links.told c.args.links.now) (g.L.Links.faults c.args.links.now))
    (on_links (g.L.Links.told c.call_new.new.links) (g.L.Links.faults c.call_new.new.links))
    (search rules) (search rules) (search rules)
    c.in-Err-Memory.ensures.stops.0 _ c.in-Err-Memory.ensures.stops.1
