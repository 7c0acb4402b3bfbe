use Rattle.std.proofs.Common.{◌≡◌, ◌++◌, drop}
use Rattle.std.specs.Prelude.{map}
use Rattle.server_entries.specs.Making.{component_of}
use Rattle.entry_replay.proofs.new_files.components_of.Given as goal

abbrev pub invariant-loop-place : goal.invariant-loop-place
invariant-loop-place l = l.components ++ map component_of (drop l.place-index l.fn.places) ≡ map component_of l.fn.places
