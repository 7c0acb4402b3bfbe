use Rattle.cause_law.proofs.Texts.{texts_placed}
use Rattle.cause_law.proofs.ending_laws.commands_of_text_are_placed.Goals as goal

pub returns : goal.returns
returns c = texts_placed c.messages_fit.ensures c.commands_are_placed.ensures
