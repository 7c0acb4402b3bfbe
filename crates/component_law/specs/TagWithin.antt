-- No object on a drive has a tag past its file's.
use Rattle.std.specs.Prelude.{◌≡◌, ℕ, List, Some}
use Rattle.scenario_text.specs.declared.line.Line.{Line}
use Rattle.server_rules.specs.Files.{file_at}
use Rattle.server_rules.specs.Laws.{In}
use Rattle.world_history.specs.ServerNames.{File, Component}
use Rattle.world_history.specs.State.{World, DriveAt, at_number}
use Rattle.history_law.specs.BookMoments.{IsMoment}
use Rattle.history_law.specs.Unforged.{AreUnforged}
use Rattle.component_law.specs.Naming.{AreNamed}
use Rattle.exchange_law.specs.Text.{AreOfText, AreFew}
use Rattle.component_law.specs.Within.{ObjectWithin}

-- The tag of each component's object is at most its file's, or the next one while the file's fence is open: so it is at
-- each moment of a history of a scenario's text with few messages in which nothing is forged.
abbrev pub NoTagIsAhead : Type 0
NoTagIsAhead =
    (w : World) (h : List Line) → IsMoment w h → AreNamed h → AreOfText h → AreFew h → AreUnforged h →
    (n : ℕ) (f : File) → file_at w.server.files n ≡ Some f → (at : Component) → In at f.kept.components →
    (a : DriveAt) → at_number w.drives at.drive ≡ Some a → ObjectWithin f.kept a.state at.object
