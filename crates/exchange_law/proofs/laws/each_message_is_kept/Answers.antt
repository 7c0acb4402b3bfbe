use Rattle.exchange_law.proofs.Bytes.{each_message_is_kept}
use Rattle.exchange_law.proofs.laws.each_message_is_kept.Goals as goal

pub returns : goal.returns
returns c = each_message_is_kept
