use Rattle.cause_law.proofs.ReportsLaw.{requests_can_be_read}
use Rattle.cause_law.proofs.ending_laws.requests_can_be_read.Goals as goal

pub returns : goal.returns
returns c = requests_can_be_read
