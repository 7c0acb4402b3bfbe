use Rattle.std.proofs.Common.{◌≡◌, drop}
use Rattle.server_rules.specs.declared.limits.TheConstants.{FIRST_OBJECT}
use Rattle.server_state.specs.States.{server_of}
use Rattle.server_entries.specs.Making.{are_placed}
use Rattle.entry_replay.proofs.new_files.are_placed.Given as goal

abbrev pub invariant-loop-place : goal.invariant-loop-place
invariant-loop-place l =
    are_placed (server_of l.fn.state) l.least (drop l.place-index l.fn.places)
    ≡ are_placed (server_of l.fn.state) FIRST_OBJECT l.fn.places
