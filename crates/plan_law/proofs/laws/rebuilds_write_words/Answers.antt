use Rattle.plan_law.proofs.PieceRows.{rebuilds_write_words}
use Rattle.plan_law.proofs.laws.rebuilds_write_words.Goals as goal

pub returns : goal.returns
returns c = rebuilds_write_words
