use Rattle.std.proofs.Common.{sym, ap, ◌∙◌}
use Rattle.std.specs.Prelude.{find, is_some}
use Rattle.call_commands.specs.Pending.{answering}
use Rattle.call_commands.proofs.Pendings.{found, of_drive, drive_told}
use Rattle.call_commands.proofs.pending.PendingCommands.has.Goals as goal

pub returns-in-Some : goal.returns-in-Some
returns-in-Some c =
    drive_told _ c.in-Some.awaited.now
    ∙ ap is_some (ap (of_drive c.args.drive) c.in-Some.ensures.value
    ∙ sym (found c.args.drive c.args.nonce c.self.inside.by_nonce.entries c.self.invariant c.known.ensures)
    ∙ ap (find (answering c.args.drive c.args.nonce)) c.self.view_is)

pub returns-in-None : goal.returns-in-None
returns-in-None c =
    ap is_some (ap (of_drive c.args.drive) c.in-None.ensures.value
    ∙ sym (found c.args.drive c.args.nonce c.self.inside.by_nonce.entries c.self.invariant c.known.ensures)
    ∙ ap (find (answering c.args.drive c.args.nonce)) c.self.view_is)
