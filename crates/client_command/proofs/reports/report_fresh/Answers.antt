use Rattle.std.proofs.Common.{rules}
use Rattle.client_command.specs.OnLinks.{on_links}
use Rattle.client_command.proofs.Reported.{cuts_finding, cuts_found}
use Rattle.client_command.proofs.reports.report_fresh.Goals as goal

pub returns-in-Ok-Some-clause-cuts : goal.returns-in-Ok-Some-clause-cuts
returns-in-Ok-Some-clause-cuts g c =
    cuts_found c.number.result c.args.client _
    (on_links (g.L.Links.told c.args.links.now) (g.L.Links.faults c.args.links.now))
    (on_links (g.L.Links.told c.find_number.new.links) (g.L.Links.faults c.find_number.new.links))
    (on_links (g.L.Links.told c.report_call.new.links) (g.L.Links.faults c.report_call.new.links))
    (search rules) c.in-Ok-Some.used c.after.result c.after.ensures.value
    (rw c.in-Ok-Some.field-0-is at c.in-Ok-Some.ensures.finds) c.in-Err-report_call.ensures.cuts

pub returns-clause-cuts : goal.returns-clause-cuts
returns-clause-cuts g c =
    cuts_finding c.number.result c.args.client _
    (on_links (g.L.Links.told c.args.links.now) (g.L.Links.faults c.args.links.now))
    (on_links (g.L.Links.told c.args.links.now) (g.L.Links.faults c.args.links.now))
    (on_links (g.L.Links.told c.find_number.new.links) (g.L.Links.faults c.find_number.new.links))
    (search rules) c.in-Err.ensures.cuts
