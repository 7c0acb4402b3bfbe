-- The READs that the server sends fit their places, so that a drive reads them as they were sent.
use Rattle.std.specs.Prelude.{◌≡◌, ℕ, ◌<◌, ◌^◌, List}
use Rattle.osd_commands.specs.declared.actions.Action.TheVariants.{Read}
use Rattle.osd_commands.specs.declared.commands.Command.{Command}
use Rattle.scenario_text.specs.declared.line.Line.{Line}
use Rattle.world_history.specs.State.{World}
use Rattle.history_law.specs.Moments.{IsMoment}
use Rattle.file_simulation.specs.Claim.{IsOfScenario}
use Rattle.file_simulation.specs.Messages.{HasCommanded}

-- each READ that the server sent begins at an offset that fits its place, and so does its length
abbrev pub ReadsHavePlaces : World → Type 0
ReadsHavePlaces w =
    (d : ℕ) (x : Command) → HasCommanded w d x → x.action ≡ Read → (x.offset < 2 ^ 64) × (x.length < 2 ^ 64)

-- so it is at each moment of a history of a scenario's text
abbrev pub EachReadHasItsPlace : Type 0
EachReadHasItsPlace = (w : World) (h : List Line) → IsMoment w h → IsOfScenario h → ReadsHavePlaces w
