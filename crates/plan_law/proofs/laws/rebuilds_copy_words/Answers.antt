use Rattle.plan_law.proofs.PieceRows.{rebuilds_copy_words}
use Rattle.plan_law.proofs.laws.rebuilds_copy_words.Goals as goal

pub returns : goal.returns
returns c = rebuilds_copy_words
