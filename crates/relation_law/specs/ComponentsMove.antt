-- What the components' part needs at a whole move, by whom it is of: a client that goes on, the server, or a drive.
use Rattle.std.specs.Prelude.{◌≡◌, List, Some, None}
use Rattle.scenario_text.specs.declared.line.Line.{Line}
use Rattle.server_rules.specs.History.{Input, step}
use Rattle.world_history.specs.ServerNames.{File}
use Rattle.world_history.specs.State.{World}
use Rattle.world_history.specs.Sending.{Move, move}
use Rattle.history_law.specs.Doing.{input_in}
use Rattle.fence_law.specs.State.{State}
use Rattle.file_simulation.specs.ClientEvents.{Going, going_in}
use Rattle.relation_law.specs.ComponentsBehind.{RebuiltStand}
use Rattle.relation_law.specs.ComponentsFacts.{OfClients, OfDrives, OfServer}
use Rattle.relation_law.specs.DriveHearing.{IsLaidOut, AwaitedAreSent, NoneIsGuessed}
use Rattle.relation_law.specs.Steps.{FollowsWhole, whole_behind}

pub record OfMove {w : World} {h : List Line} {m : Move} {f g : File} {s : State} (k : FollowsWhole w h m f g s) : Type 0
  where
    pub laid : IsLaidOut f
    pub awaited : AwaitedAreSent w
    pub client : (x : Going) → going_in w m.action ≡ Some x → OfClients s w (move w m).world f
    pub drive : going_in w m.action ≡ None → input_in w m.action ≡ None → OfDrives s w f × NoneIsGuessed w m.action
    pub server : (i : Input) → input_in w m.action ≡ Some i → OfServer w (move w m).world f g i
        × RebuiltStand (whole_behind k) (move w m).world f g (step w.server m.chosen i).notes
