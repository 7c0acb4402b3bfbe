use Rattle.std.proofs.Common.{sym, ap, ◌∙◌, List}
use Rattle.client_rules.specs.Commands.{of_component}
use Rattle.call_io.specs.State.{Awaited}
use Rattle.call_commands.specs.Pending.{first_among}
use Rattle.call_io.proofs.Places.{none_first}
use Rattle.call_io.proofs.timeouts.first_to.Goals as goal

pub returns-in-None : goal.returns-in-None
returns-in-None c =
    sym (ap (λ (xs : List Awaited). first_among (of_component c.args.component xs)) c.in-None.ensures
    ∙ none_first c.args.component)
