use Rattle.std.proofs.Common.{◌≡◌, ◌++◌, ◌≤◌, ◌-◌}
use Rattle.generate_law.specs.Scenario.{calls_from}
use Rattle.osd_replay.proofs.generator.add_calls.Given as goal

abbrev pub invariant-loop-k : goal.invariant-loop-k
invariant-loop-k l = record {
  within : l.k ≤ l.calls;
  calls : l.calls ≡ l.fn.calls;
  events : l.events.items ++ calls_from (l.calls - l.k) l.k l.x ≡ l.fn.events.items ++ calls_from l.fn.calls 0 l.fn.seed;
}
