use Rattle.headline_law.proofs.Histories.{moved}
use Rattle.headline_law.proofs.UsedObjects.{each_object_is_used}
use Rattle.headline_law.proofs.world_laws.each_object_is_used.Goals as goal

pub returns : goal.returns
returns c = each_object_is_used (moved c.histories_are_lawful.ensures)
