use Rattle.std.proofs.Common.{◌≡◌, ◌-◌, ◌++◌, drop, length}
use Rattle.std.specs.List.{filter_map}
use Rattle.world_history.specs.Names.{known_note_line}
use Rattle.world_network.proofs.telling.lines_of.Given as goal

abbrev pub invariant-loop-place : goal.invariant-loop-place
invariant-loop-place l =
    l.told ++ filter_map known_note_line (drop l.place l.left) ≡ filter_map known_note_line l.fn.notes

abbrev pub decreases-loop-place : goal.decreases-loop-place
decreases-loop-place l = length l.left - l.place
