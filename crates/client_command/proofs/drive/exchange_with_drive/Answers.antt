use Rattle.std.proofs.Common.{ap}
use Rattle.client_command.specs.Exchanges.{dealing, on_links}
use Rattle.client_command.proofs.DealingLaws.{is_answered}
use Rattle.client_command.proofs.drive.exchange_with_drive.Goals as goal

pub returns-clause-asks : goal.returns-clause-asks
returns-clause-asks g c =
    let told = g.L.Links.told c.args.links.now in
    let faults = g.L.Links.faults c.args.links.now in
    record {
      came = c.in_ok-came.came;
      told = rw c.late_component-awaited.ensures at c.in_ok-came.ensures.came;
      dealt = ap (on_links (g.L.Links.told c.asked_for.new.links) (g.L.Links.faults c.asked_for.new.links))
          (is_answered (dealing c.args.core.now c.args.waiting.now c.args.notices.now told faults)
          (dealing c.hear_reply.new.core c.hear_reply.new.waiting c.hear_reply.new.notices told faults) _ c.args.drive
          c.args.command.now c.in_ok-came.came
          c.late_component-component.result (c.in_ok-hear_reply.ensures told faults) c.late_component-component.ensures
          (c.in_ok-time_out.ensures told faults));
    }
