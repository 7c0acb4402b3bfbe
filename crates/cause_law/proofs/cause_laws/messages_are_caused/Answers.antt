use Rattle.cause_law.proofs.Telling.{each_message_is_caused}
use Rattle.cause_law.proofs.cause_laws.messages_are_caused.Goals as goal

pub returns : goal.returns
returns c =
    each_message_is_caused c.conflicts_are_exact.ensures c.files_are_put.ensures c.grants_are_safe.ensures
    c.book_is_read.ensures c.clients_are_in_step.ensures c.one_event_more.ensures
