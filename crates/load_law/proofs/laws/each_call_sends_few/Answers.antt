use Rattle.load_law.proofs.Runs.{each_call_sends_few}
use Rattle.load_law.proofs.laws.each_call_sends_few.Goals as goal

pub returns : goal.returns
returns c = each_call_sends_few
