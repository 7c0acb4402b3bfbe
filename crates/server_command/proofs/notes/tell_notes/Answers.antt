use Rattle.server_command.specs.Notes.{note_texts}
use Rattle.server_command.proofs.CutLaws.{on_err, tells_none}
use Rattle.server_command.proofs.notes.tell_notes.Goals as goal

pub returns-in_err-lines-clause-err : goal.returns-in_err-lines-clause-err
returns-in_err-lines-clause-err g c = on_err _ _ (tells_none (note_texts c.args.notes) (g.L.Links.told c.args.links.now))
