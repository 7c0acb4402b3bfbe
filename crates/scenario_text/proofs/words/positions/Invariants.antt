use Rattle.std.proofs.Common.{◌≡◌, length}
use Rattle.std.specs.Prelude.{◌==◌}
use Rattle.std.specs.List.{slice_split}
use Rattle.scenario_text.specs.Reading.{rising_of}
use Rattle.scenario_text.proofs.Positions.{prepend}
use Rattle.scenario_text.proofs.words.positions.Given as goal

abbrev pub invariant-loop-parts : goal.invariant-loop-parts
invariant-loop-parts l = rising_of 0 (slice_split (λ b. b == 44) l.word) ≡ prepend l.positions (rising_of l.least l.parts)

abbrev pub decreases-loop-parts : goal.decreases-loop-parts
decreases-loop-parts l = length l.parts
