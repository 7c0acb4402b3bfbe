use Rattle.component_law.proofs.Telling.{each_answer_is_live}
use Rattle.component_law.proofs.tag_laws.answers_are_live.Goals as goal

pub returns : goal.returns
returns c = each_answer_is_live c.files_are_put.ensures c.book_is_read.ensures c.one_event_more.ensures
