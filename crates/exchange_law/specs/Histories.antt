-- Commands of clients are placed in every history.
use Rattle.std.specs.Prelude.{◌≡◌, ℕ, List, slice_get, Some}
use Rattle.scenario_text.specs.declared.line.Delivery.TheVariants.{Judged}
use Rattle.scenario_text.specs.declared.line.Verdict.{Verdict}
use Rattle.scenario_text.specs.declared.line.Verdict.TheVariants.{Rights, WrongObject, Range}
use Rattle.scenario_text.specs.declared.line.Party.TheVariants.{Client, Drive}
use Rattle.scenario_text.specs.declared.line.Line.{Line}
use Rattle.scenario_text.specs.declared.line.Line.TheVariants as line
use Rattle.client_rules.specs.declared.grants.Held.{Held}
use Rattle.server_rules.specs.Laws.{In}
use Rattle.world_history.specs.declared.messages.Sent.{Sent}
use Rattle.world_history.specs.State.{World, ClientAt, at_number}
use Rattle.world_history.specs.Reading.{sent_in}
use Rattle.world_history.specs.History.{StandsFor, Lawful}
use Rattle.history_law.specs.Safe.{AtEachLine}
use Rattle.exchange_law.specs.Kept.{IsOwnGrant}
use Rattle.exchange_law.specs.Placed.{SpellsPlaced}
use Rattle.exchange_law.specs.PlaceAnswers.{AnswersFit}

-- a verdict on where a command lies, as lines tell it
abbrev pub IsMisplaced : Verdict → Type 0
IsMisplaced Rights = Unit {0}
IsMisplaced WrongObject = Unit {0}
IsMisplaced Range = Unit {0}
IsMisplaced v = ⊥

-- Each message of a client to a drive spells a command that is placed, and no drive gives such a verdict on a message
-- of a client.
abbrev pub PlacedAt : List Line → Line → Type 0
PlacedAt before (line.Message n (Client c) (Drive d) bytes) = SpellsPlaced d bytes
PlacedAt before (line.Delivered n (Judged v)) =
    (m : Sent) (c : ℕ) → slice_get (sent_in before) n ≡ Some m → m.from ≡ Client c → IsMisplaced v → ⊥
PlacedAt before l = Unit {0}

-- so it is where what the server sent so far fits its places
abbrev pub PlacedWhereItFits : List Line → Line → Type 0
PlacedWhereItFits before l = AnswersFit (sent_in before) → PlacedAt before l

-- at each line of a lawful history, whatever was guessed
abbrev pub CommandsArePlaced : Type 0
CommandsArePlaced = (h : List Line) → Lawful h → AtEachLine PlacedWhereItFits h

-- and each grant that a client then holds is one that the server gave it
abbrev pub HeldGrantsAreGiven : Type 0
HeldGrantsAreGiven =
    (w : World) (h : List Line) → StandsFor w h → AnswersFit (sent_in h) → (c : ℕ) (a : ClientAt) →
    at_number w.clients c ≡ Some a → (x : Held) → In x a.state.held → IsOwnGrant c x
