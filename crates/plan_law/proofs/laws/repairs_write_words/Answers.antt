use Rattle.plan_law.proofs.PieceRows.{repairs_write_words}
use Rattle.plan_law.proofs.laws.repairs_write_words.Goals as goal

pub returns : goal.returns
returns c = repairs_write_words
