-- What is asked beside, so that the components go on: what a rebuild made anew stands, and the server's WRITEs fit their places.
use Rattle.std.specs.Prelude.{◌≡◌, ℕ, ◌<◌, ◌^◌, List, Some}
use Rattle.osd_commands.specs.declared.actions.Action.TheVariants.{Write}
use Rattle.osd_commands.specs.declared.commands.Command.{Command}
use Rattle.scenario_text.specs.declared.line.Line.{Line}
use Rattle.server_rules.specs.History.{Input, step}
use Rattle.world_history.specs.ServerNames.{File}
use Rattle.world_history.specs.State.{World}
use Rattle.world_history.specs.Sending.{Move, move}
use Rattle.history_law.specs.BookMoments.{IsMoment}
use Rattle.history_law.specs.Doing.{input_in}
use Rattle.fence_law.specs.State.{State}
use Rattle.file_simulation.specs.Claim.{IsOfScenario}
use Rattle.file_simulation.specs.Messages.{HasCommanded}
use Rattle.relation_law.specs.ComponentsBehind.{RebuiltStand}
use Rattle.relation_law.specs.Steps.{FollowsWhole, whole_behind, ComponentsGoOn}

-- Behind each whole move of the server, what it made anew stands as the machine has it.
abbrev pub EachRebuiltStands : Type 0
EachRebuiltStands =
    (w : World) (h : List Line) (m : Move) (f g : File) (s : State) → (k : FollowsWhole w h m f g s) → (i : Input) →
    input_in w m.action ≡ Some i → RebuiltStand (whole_behind k) (move w m).world f g (step w.server m.chosen i).notes

-- Each WRITE that the server sent begins at an offset that fits its place, so a drive reads it there.
abbrev pub WritesHavePlaces : World → Type 0
WritesHavePlaces w = (d : ℕ) (x : Command) → HasCommanded w d x → x.action ≡ Write → x.offset < 2 ^ 64

-- so it is at each moment of a history of a scenario's text
abbrev pub EachWriteHasItsPlace : Type 0
EachWriteHasItsPlace = (w : World) (h : List Line) → IsMoment w h → IsOfScenario h → WritesHavePlaces w

-- The components go on if these two hold.
abbrev pub ComponentsFollow : Type 0
ComponentsFollow = EachWriteHasItsPlace → EachRebuiltStands → ComponentsGoOn
