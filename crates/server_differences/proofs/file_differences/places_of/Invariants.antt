use Rattle.std.specs.Prelude.{◌≡◌, map, take}
use Rattle.server_differences.specs.FileDifferences.{placed_of}
use Rattle.server_differences.proofs.file_differences.places_of.Given as goal

abbrev pub invariant-loop-at : goal.invariant-loop-at
invariant-loop-at l = l.places ≡ map placed_of (take l.at-index l.components)
