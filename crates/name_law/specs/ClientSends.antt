-- What a client sends is for a party that a line can name, so all of it is sent.
use Rattle.std.specs.Prelude.{◌≡◌, ℕ, Bool, true, List, filter, Some}
use Rattle.scenario_text.specs.declared.line.Line.{Line}
use Rattle.server_rules.specs.Laws.{In}
use Rattle.client_rules.specs.Envelopes.{receiver}
use Rattle.client_rules.specs.History.{Input, step}
use Rattle.world_history.specs.ClientNames.{Outgoing}
use Rattle.world_history.specs.State.{World, ClientAt, at_number}
use Rattle.world_history.specs.Names.{is_named}
use Rattle.world_history.specs.Handed.{is_addressed, client_posts}
use Rattle.history_law.specs.BookMoments.{IsMoment}

-- nothing of these is left out when they are sent, whatever the log keeps of the write that begins with them
abbrev pub AllGoOut : (client : ℕ) → List Outgoing → Type 0
AllGoOut c os =
    (wrote : Bool) (logged : ℕ) → filter is_addressed (client_posts c wrote logged os) ≡ client_posts c wrote logged os

-- each of these is for a party that a line can name, so all of them are sent
pub record AreForNamed (client : ℕ) (os : List Outgoing) : Type 0 where
  pub each : (o : Outgoing) → In o os → is_named (receiver o) ≡ true
  pub all : AllGoOut client os

-- at each moment of any history, whatever comes to a client
abbrev pub ClientsSendToNamed : Type 0
ClientsSendToNamed =
    (w : World) (h : List Line) → IsMoment w h → (c : ℕ) (a : ClientAt) → at_number w.clients c ≡ Some a → (i : Input)
    → AreForNamed c (step a.state i).sends
