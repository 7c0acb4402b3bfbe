use Rattle.cause_law.proofs.Files.{files_are_fit}
use Rattle.cause_law.proofs.ending_laws.files_are_fit.Goals as goal

pub returns : goal.returns
returns c = files_are_fit c.all_files_fit.ensures
