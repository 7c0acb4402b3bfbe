use Rattle.file_log.proofs.OneList.{range_found}
use Rattle.file_log.proofs.laws.range_found.Goals as goal

pub returns : goal.returns
returns c = range_found
