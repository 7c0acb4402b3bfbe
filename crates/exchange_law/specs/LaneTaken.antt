-- What drives answer to the commands that clients await, where nothing was guessed.
use Rattle.std.specs.Prelude.{◌≡◌, ℕ, Bool, true, false, List, Some}
use Rattle.osd_commands.specs.Commands.{reading, spelling}
use Rattle.server_rules.specs.Laws.{In}
use Rattle.client_rules.specs.Messages.{awaited_of}
use Rattle.client_rules.specs.declared.calls.Awaited.{Awaited}
use Rattle.scenario_text.specs.declared.line.Line.{Line}
use Rattle.scenario_text.specs.declared.line.Verdict.{Verdict}
use Rattle.scenario_text.specs.declared.line.Verdict.TheVariants.{LaneFull, Stale}
use Rattle.world_history.specs.State.{DriveAt, ClientAt, World, at_number}
use Rattle.world_history.specs.Drives.{verdict_on}
use Rattle.world_history.specs.Guesses.{unguessed}
use Rattle.history_law.specs.BookMoments.{IsMoment}
use Rattle.exchange_law.specs.Sent.{CommandsFit}
use Rattle.exchange_law.specs.Given.{GrantsAreNew}

-- the object has no lane for the holder, or one with a later nonce
abbrev pub is_of_lanes : Verdict → Bool
is_of_lanes LaneFull = true
is_of_lanes (Stale last) = true
is_of_lanes v = false

-- whatever a client awaits of a drive: were it delivered now, the verdict isn't one of these
abbrev pub AwaitedAreTaken : Type 0
AwaitedAreTaken =
    (w : World) (h : List Line) → IsMoment w h → unguessed h ≡ true → GrantsAreNew h → CommandsFit w →
    (c : ℕ) (a : ClientAt) → at_number w.clients c ≡ Some a → (x : Awaited) → In x (awaited_of a.state.call) →
    (d : DriveAt) → at_number w.drives x.drive ≡ Some d →
    is_of_lanes (verdict_on d.state d.clock (reading (spelling x.command))) ≡ false
