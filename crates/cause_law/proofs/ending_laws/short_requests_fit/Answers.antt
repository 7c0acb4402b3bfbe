use Rattle.cause_law.proofs.Requests.{short_requests_fit}
use Rattle.cause_law.proofs.ending_laws.short_requests_fit.Goals as goal

pub returns : goal.returns
returns c = short_requests_fit c.clients_are_in_step.ensures
