use Rattle.std.proofs.Common.{◌≡◌, ◌++◌, ◌≤◌}
use Rattle.generate_law.specs.Scenario.{each_below, makes_drive}
use Rattle.osd_replay.proofs.generator.add_drives.Given as goal

abbrev pub invariant-loop-number : goal.invariant-loop-number
invariant-loop-number l = record {
  within : l.number ≤ 6;
  events : l.events.items ≡ l.fn.events.items ++ each_below makes_drive l.number;
}
