use Rattle.cause_law.proofs.Texts.{texts_end_rightly}
use Rattle.cause_law.proofs.ending_laws.no_call_of_text_ends_misplaced.Goals as goal

pub returns : goal.returns
returns c = texts_end_rightly c.messages_fit.ensures c.no_call_ends_misplaced.ensures
