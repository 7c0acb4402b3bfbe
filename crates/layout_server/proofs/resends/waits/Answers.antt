use Rattle.std.proofs.Common.{sym, ◌∙◌}
use Rattle.layout_server.proofs.ResendLaws.{waited_there, none_waited}
use Rattle.layout_server.proofs.resends.waits.Goals as goal

pub returns-in-Some : goal.returns-in-Some
returns-in-Some c =
    c.waits.ensures
    ∙ waited_there c.args.files.now.entries c.args.number c.in-Some.file.now c.requires (sym c.in-Some.ensures.value)

pub returns-in-None : goal.returns-in-None
returns-in-None c = none_waited c.args.files.now.entries c.args.number c.requires (sym c.in-None.ensures.value)
