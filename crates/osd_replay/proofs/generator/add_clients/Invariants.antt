use Rattle.std.proofs.Common.{◌≡◌, ◌++◌, ◌≤◌}
use Rattle.scenario_text.specs.declared.event.Event.TheVariants.{Client}
use Rattle.generate_law.specs.Scenario.{each_below}
use Rattle.osd_replay.proofs.generator.add_clients.Given as goal

abbrev pub invariant-loop-number : goal.invariant-loop-number
invariant-loop-number l = record {
  within : l.number ≤ 3;
  events : l.events.items ≡ l.fn.events.items ++ each_below (λ c. Client c) l.number;
}
