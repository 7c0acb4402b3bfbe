use Rattle.std.proofs.Common.{◌≡◌, drop}
use Rattle.server_entries.specs.Changes.{are_in_zones}
use Rattle.entry_replay.proofs.changes.are_in_zones.Given as goal

abbrev pub invariant-loop-at : goal.invariant-loop-at
invariant-loop-at l = are_in_zones l.drives (drop l.at-index l.fn.components) ≡ are_in_zones l.drives l.fn.components
