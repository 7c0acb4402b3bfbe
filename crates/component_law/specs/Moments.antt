-- What holds at each moment of a history, so that its steps are moves that show their files.
use Rattle.std.specs.Prelude.{◌≡◌, ℕ, true, List, map, slice_get, Some, None}
use Rattle.scenario_text.specs.declared.event.Event.TheVariants as event
use Rattle.scenario_text.specs.declared.line.Party.TheVariants as party
use Rattle.scenario_text.specs.declared.line.Line.{Line}
use Rattle.server_rules.specs.Numbers.{among}
use Rattle.world_history.specs.declared.messages.Sent.{Sent}
use Rattle.world_history.specs.State.{World, at_number}
use Rattle.world_history.specs.Sending.{Move}
use Rattle.world_history.specs.Runs.{world_after}
use Rattle.world_history.specs.Refusals.{refusal}
use Rattle.world_history.specs.History.{StandsFor}
use Rattle.world_history.specs.Laws.{shown}
use Rattle.world_history.specs.ReadDrives.{drive_after}
use Rattle.world_history.specs.Calm.{seen}

-- of a world's messages, as lines show them, none is from the server to itself
abbrev pub WritesToOthers : World → Type 0
WritesToOthers w =
    (number : ℕ) (m : Sent) → slice_get (map shown w.network.messages) number ≡ Some m → m.from ≡ party.Server
    → m.to ≡ party.Server → ⊥

-- so it is at each moment: behind a history and some moves
abbrev pub ServerWritesToOthers : Type 0
ServerWritesToOthers =
    (w : World) (h : List Line) (ms : List Move) → StandsFor w h → WritesToOthers (world_after w ms)

-- Where a declaration isn't refused, the drive is among those that failed, as they are read off the lines. The drives
-- that are read off a history are those of each world that stands for it.
abbrev pub DeclaredHaveFailed : Type 0
DeclaredHaveFailed =
    (w : World) (h : List Line) (d : ℕ) → drive_after h d ≡ at_number w.drives d → refusal w (event.Declare d) ≡ None
    → among d (seen h).moment.failed ≡ true
