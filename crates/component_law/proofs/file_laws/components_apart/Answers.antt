use Rattle.component_law.proofs.Placing.{components_apart}
use Rattle.component_law.proofs.file_laws.components_apart.Goals as goal

pub returns : goal.returns
returns c = components_apart
