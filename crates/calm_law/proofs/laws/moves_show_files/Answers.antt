use Rattle.calm_law.proofs.FileShowing.{moves_show_files}
use Rattle.calm_law.proofs.laws.moves_show_files.Goals as goal

pub returns : goal.returns
returns c = moves_show_files c.files_are_put.ensures
