use Rattle.generate_law.proofs.Counting.{calls_are_of_events}
use Rattle.generate_law.proofs.laws.calls_are_of_events.Goals as goal

pub returns : goal.returns
returns c = calls_are_of_events
