use Rattle.history_claims.proofs.Recalling.{each_recall_is_caused}
use Rattle.history_claims.proofs.laws.recalls_are_caused.Goals as goal

pub returns : goal.returns
returns c =
    each_recall_is_caused c.conflicts_are_exact.ensures c.files_are_put.ensures c.grants_are_safe.ensures
    c.book_is_read.ensures
