-- Each present component of a file has an object with the file's tag or a later one.
use Rattle.std.specs.Prelude.{◌≡◌, ◌⊎◌, ℕ, true, false, List, Some}
use Rattle.scenario_text.specs.declared.line.Line.{Line}
use Rattle.server_rules.specs.Files.{file_at}
use Rattle.server_rules.specs.Laws.{In}
use Rattle.server_rules.specs.Messages.{awaited_by}
use Rattle.world_history.specs.ServerNames.{File, Component}
use Rattle.world_history.specs.State.{World, at_number}
use Rattle.history_law.specs.BookMoments.{IsMoment}
use Rattle.history_law.specs.Unforged.{AreUnforged}
use Rattle.history_law.specs.Reaching.{has_reached}
use Rattle.component_law.specs.Naming.{AreNamed}
use Rattle.exchange_law.specs.Text.{AreOfText, AreFew}
use Rattle.component_law.specs.Standing.{IsCreating, IsCutOff}

-- At each moment of a history of a scenario's text with few messages in which nothing is forged: each component that
-- isn't missing has an object with its file's tag or a later one, unless its CREATE is awaited, its drive has failed, or
-- the file isn't ready and no job of it runs.
abbrev pub NoTagIsBehind : Type 0
NoTagIsBehind =
    (w : World) (h : List Line) → IsMoment w h → AreNamed h → AreOfText h → AreFew h → AreUnforged h →
    (n : ℕ) (f : File) → file_at w.server.files n ≡ Some f → (at : Component) → In at f.kept.components →
    at.missing ≡ false →
    IsCreating (awaited_by f.job) at.drive at.object f.kept.tag
    ⊎ (has_reached at.object f.kept.tag (at_number w.drives at.drive) ≡ true) ⊎ IsCutOff f
