use Rattle.file_log.proofs.OneList.{plain}
use Rattle.file_log.proofs.laws.plain.Goals as goal

pub returns : goal.returns
returns c = plain
