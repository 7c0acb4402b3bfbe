use Rattle.component_law.proofs.ObjectRuns.{each_object_is_owned}
use Rattle.component_law.proofs.sent_laws.each_object_is_owned.Goals as goal

pub returns : goal.returns
returns c = each_object_is_owned
