-- What a call that scatters awaits are WRITEs, which drives read as they are.
use Rattle.std.proofs.Common.{◌≡◌, ℕ, true, List, Option, Some, Ok, subst, ◌∙◌}
use Rattle.osd_commands.specs.declared.actions.Action.TheVariants.{Write}
use Rattle.osd_commands.specs.Commands.{reading, spelling}
use Rattle.scenario_text.specs.declared.line.Line.{Line}
use Rattle.server_rules.specs.Laws.{In}
use Rattle.client_rules.specs.Calls.{file_of, is_write}
use Rattle.client_rules.specs.Grants.{held_of}
use Rattle.client_rules.specs.Io.{awaited_in}
use Rattle.client_rules.specs.Messages.{awaited_of}
use Rattle.world_history.specs.ClientNames.{Awaited, Call}
use Rattle.world_history.specs.State.{World}
use Rattle.history_law.specs.Moments.{IsMoment}
use Rattle.exchange_law.specs.Calls.{CallFine}
use Rattle.exchange_law.specs.InStep.{client_of}
use Rattle.exchange_law.specs.Meeting.{IsMet, KeptGood}
use Rattle.file_simulation.specs.Messages.{is_scatter}
use Rattle.relation_law.specs.Working.{IsOne}
use Rattle.relation_law.proofs.ComponentsMoved.{MovedLaws}
use Rattle.headline_law.specs.Claim.{IsOfScenario}
use Rattle.headline_law.proofs.ClientAwaits.{one_of, scatter_writes, write_of}
use Rattle.headline_law.proofs.ReadsWell.{awaited_is_read}
use Rattle.headline_law.proofs.SentHeld.{readable_then}

-- At each moment of a scenario's history, a call that scatters is a write, and what it awaits are WRITEs, which drives read as
-- they are.
abbrev pub ScattersAwaitWrites : Type 0
ScattersAwaitWrites =
    (w : World) (h : List Line) → IsMoment w h → IsOfScenario h → (c : ℕ) (call : Call) → (client_of w c).call ≡ Some call →
    is_scatter call.phase ≡ true → (a : Awaited) → In a (awaited_of (client_of w c).call) →
    (is_write call.op ≡ true) × (a.command.action ≡ Write) × (reading (spelling a.command) ≡ Ok a.command)

pub scatters_await_writes : MovedLaws → ScattersAwaitWrites
scatters_await_writes laws w h k t c call is scatters a i =
    let there : In a (awaited_in call.phase) = subst (λ (o : Option Call). In a (awaited_of o)) is i in
    let met : IsMet w.server c (client_of w c) =
    laws.held.right.world.agree w h k (readable_then laws.held laws.fresh w h k t) c in
    let fine : CallFine (KeptGood w.server c) (client_of w c).held (client_of w c).outstanding (Some call) =
    subst (CallFine (KeptGood w.server c) (client_of w c).held (client_of w c).outstanding) is met.call in
    let one : IsOne (is_scatter call.phase) a = one_of w h k c call is a there in (
      scatter_writes (KeptGood w.server c) (held_of (client_of w c).held (file_of call.op)) (client_of w c).outstanding call.op
          call.phase fine.1 scatters,
      write_of a.command.action (one.action ∙ scatters),
      awaited_is_read laws w h k t c call is a there,
    )
