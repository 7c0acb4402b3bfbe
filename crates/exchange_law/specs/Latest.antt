-- The nonces of what a client awaits.
use Rattle.std.specs.Prelude.{◌≡◌, ℕ, ◌≤◌, true, List, Some}
use Rattle.osd_commands.specs.declared.commands.Command.{Command}
use Rattle.osd_drive.specs.Table.{is_mutating}
use Rattle.server_rules.specs.Laws.{In}
use Rattle.client_rules.specs.Messages.{awaited_of}
use Rattle.client_rules.specs.declared.calls.Awaited.{Awaited}
use Rattle.scenario_text.specs.declared.line.Line.{Line}
use Rattle.world_history.specs.State.{ClientAt, World, at_number}
use Rattle.history_law.specs.BookMoments.{IsMoment}
use Rattle.exchange_law.specs.Sent.{HasSent, IsBacked}
use Rattle.exchange_law.specs.Given.{GrantsAreNew}

-- each change that a client awaits has the greatest nonce of the changes that it sent to that object
abbrev pub AwaitsLatest : World → Type 0
AwaitsLatest w =
    (c : ℕ) (a : ClientAt) → at_number w.clients c ≡ Some a →
    (x : Awaited) → In x (awaited_of a.state.call) → is_mutating x.command.action ≡ true → IsBacked x.command →
    (d : ℕ) (y : Command) → HasSent w c d y → is_mutating y.action ≡ true → IsBacked y → y.object ≡ x.command.object →
    y.nonce ≤ x.command.nonce

-- so it is at each moment, as far as each grant that clients took was new to its objects
abbrev pub AwaitedAreLatest : Type 0
AwaitedAreLatest = (w : World) (h : List Line) → IsMoment w h → GrantsAreNew h → AwaitsLatest w
