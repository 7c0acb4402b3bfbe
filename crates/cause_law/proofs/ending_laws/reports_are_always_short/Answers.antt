use Rattle.cause_law.proofs.ReportsLaw.{reports_are_always_short}
use Rattle.cause_law.proofs.ending_laws.reports_are_always_short.Goals as goal

pub returns : goal.returns
returns c = reports_are_always_short
