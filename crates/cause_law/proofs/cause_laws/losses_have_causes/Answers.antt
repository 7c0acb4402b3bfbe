use Rattle.cause_law.proofs.Losses.{each_loss_has_its_cause}
use Rattle.cause_law.proofs.cause_laws.losses_have_causes.Goals as goal

pub returns : goal.returns
returns c = each_loss_has_its_cause c.components_have_causes.ensures
