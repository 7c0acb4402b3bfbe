use Rattle.std.proofs.Common.{sym, ap, ◌∙◌, List}
use Rattle.std.specs.Prelude.{is_some}
use Rattle.client_rules.specs.Commands.{of_component}
use Rattle.call_io.specs.State.{Awaited}
use Rattle.call_commands.specs.Pending.{first_among}
use Rattle.call_io.proofs.Places.{none_of}
use Rattle.call_io.proofs.phase.CallPhase.awaits_component.Goals as goal

pub returns-in-None : goal.returns-in-None
returns-in-None c =
    sym (ap (λ (xs : List Awaited). is_some (first_among (of_component c.args.component xs))) c.in-None.ensures
    ∙ none_of c.args.component)
