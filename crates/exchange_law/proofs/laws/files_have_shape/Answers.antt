use Rattle.exchange_law.proofs.Shapes.{files_have_shape}
use Rattle.exchange_law.proofs.laws.files_have_shape.Goals as goal

pub returns : goal.returns
returns c = files_have_shape c.parties_run.ensures
