use Rattle.server_notes.proofs.RemarkLaws.{read_again}
use Rattle.server_notes.proofs.laws.remarks_are_read_again.Goals as goal

pub returns : goal.returns
returns c = read_again
