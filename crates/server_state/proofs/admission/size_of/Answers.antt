use Rattle.std.proofs.Common.{sym}
use Rattle.server_state.proofs.TableLaws.{size_there, no_size_there}
use Rattle.server_state.proofs.admission.size_of.Goals as goal

pub returns-in-Some : goal.returns-in-Some
returns-in-Some c = size_there c.args.files.now.entries c.args.number c.in-Some.file.now c.requires (sym c.in-Some.ensures.value)

pub returns-in-None : goal.returns-in-None
returns-in-None c = no_size_there c.args.files.now.entries c.args.number c.requires (sym c.in-None.ensures.value)
