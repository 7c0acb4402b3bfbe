use Rattle.component_law.proofs.Failed.{declared_have_failed}
use Rattle.component_law.proofs.file_laws.declared_have_failed.Goals as goal

pub returns : goal.returns
returns c = declared_have_failed
