-- Whose the commands of jobs are behind a whole move.
use Rattle.std.specs.Prelude.{◌≡◌, ℕ, false, List, slice_get, Some}
use Rattle.osd_commands.specs.declared.actions.Action.TheVariants.{Write}
use Rattle.osd_commands.specs.declared.commands.Command.{Command}
use Rattle.scenario_text.specs.declared.line.Line.{Line}
use Rattle.world_history.specs.ServerNames.{File, Component}
use Rattle.world_history.specs.State.{World, at_number}
use Rattle.world_history.specs.Sending.{Move, move}
use Rattle.history_law.specs.Spent.{IsSpent}
use Rattle.fence_law.specs.State.{State}
use Rattle.file_simulation.specs.Jobs.{AreOwned}
use Rattle.file_simulation.specs.Messages.{HasCommanded}
use Rattle.relation_law.specs.Steps.{FollowsWhole, whole_behind, ComponentsGoOn}
use Rattle.relation_law.specs.Owning.{IsOld}
use Rattle.relation_law.specs.TargetWrites.{ZerosAreSpent}

-- Each WRITE that the server sent to the object of a present component of file g which component k of file f wasn't is spent.
abbrev pub NewAreSpent : World → (f g : File) → Type 0
NewAreSpent w f g =
    (k : ℕ) (at : Component) (x : Command) → slice_get g.kept.components k ≡ Some at → at.missing ≡ false →
    (IsOld f k at → ⊥) → HasCommanded w at.drive x → x.action ≡ Write → x.object ≡ at.object →
    IsSpent (at_number w.drives at.drive) x

-- So it is of what a rebuild makes a component in a whole move.
abbrev pub RebuiltAreSpent : Type 0
RebuiltAreSpent =
    (w : World) (h : List Line) (m : Move) (f g : File) (s : State) → FollowsWhole w h m f g s →
    NewAreSpent (move w m).world f g

-- It is so if it is of a piece of zeros that isn't written.
abbrev pub RebuiltFollow : Type 0
RebuiltFollow = ZerosAreSpent → RebuiltAreSpent

-- Then behind the move what may still come is of the file's repair, where the components are as the machine has them.
abbrev pub OwnedFollows : Type 0
OwnedFollows =
    ComponentsGoOn → ZerosAreSpent → (w : World) (h : List Line) (m : Move) (f g : File) (s : State) →
    (k : FollowsWhole w h m f g s) → AreOwned (whole_behind k) (move w m).world g
