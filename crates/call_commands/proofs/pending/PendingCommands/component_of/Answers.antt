use Rattle.std.proofs.Common.{sym, ap, ◌∙◌}
use Rattle.std.specs.Prelude.{option_map, find, ◌==◌}
use Rattle.call_commands.specs.State.{Awaited}
use Rattle.call_commands.proofs.Pendings.{found_any}
use Rattle.call_commands.proofs.pending.PendingCommands.component_of.Goals as goal

pub returns-in-Some : goal.returns-in-Some
returns-in-Some c =
    ap (option_map (λ (a : Awaited). a.ask.component))
    (c.in-Some.ensures.value ∙ sym (found_any c.args.nonce c.self.inside.by_nonce.entries c.self.invariant)
    ∙ ap (find (λ (a : Awaited). a.command.nonce == c.args.nonce)) c.self.view_is)

pub returns-in-None : goal.returns-in-None
returns-in-None c =
    ap (option_map (λ (a : Awaited). a.ask.component))
    (c.in-None.ensures.value ∙ sym (found_any c.args.nonce c.self.inside.by_nonce.entries c.self.invariant)
    ∙ ap (find (λ (a : Awaited). a.command.nonce == c.args.nonce)) c.self.view_is)
