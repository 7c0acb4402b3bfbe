-- What is asked beside, so that what clients' reads were shown goes on.
use Rattle.std.specs.Prelude.{◌≡◌, ℕ, false, List, Some, Ok}
use Rattle.osd_commands.specs.declared.actions.Action.TheVariants.{Read}
use Rattle.osd_commands.specs.Commands.{reading, spelling}
use Rattle.scenario_text.specs.declared.line.Line.{Line}
use Rattle.client_rules.specs.Calls.{is_write}
use Rattle.client_rules.specs.Messages.{awaited_of}
use Rattle.server_rules.specs.Laws.{In}
use Rattle.world_history.specs.ClientNames.{Awaited, Call}
use Rattle.world_history.specs.ServerNames.{File}
use Rattle.world_history.specs.State.{World, DriveAt}
use Rattle.world_history.specs.Sending.{Move}
use Rattle.world_history.specs.Stripes.{component_at}
use Rattle.history_law.specs.Moments.{IsMoment}
use Rattle.exchange_law.specs.InStep.{client_of}
use Rattle.plan_law.specs.FileLayout.{position_in}
use Rattle.fence_law.specs.State.{State}
use Rattle.file_simulation.specs.Claim.{IsOfScenario}
use Rattle.relation_law.specs.DriveHearing.{IsPerformed}
use Rattle.relation_law.specs.ReadsDrive.{AwaitWell, IsAwaitedBy, StandsThere}
use Rattle.relation_law.specs.Steps.{FollowsWhole}

-- Where a whole move is followed, what drives may reply to before it is well known of the commands that clients await.
abbrev pub EachAwaitIsWell : Type 0
EachAwaitIsWell =
    (w : World) (h : List Line) (m : Move) (f g : File) (s : State) → FollowsWhole w h m f g s → AwaitWell s w f

-- what a drive performs of these commands goes to the component of its ask, which stands
abbrev pub EachAwaitStands : Type 0
EachAwaitStands =
    (w : World) (h : List Line) (m : Move) (f g : File) (s : State) → FollowsWhole w h m f g s → (c d : ℕ) (at : DriveAt)
    (a : Awaited) → IsAwaitedBy w f c a → a.drive ≡ d → IsPerformed w d at a.command → StandsThere s f a

-- so it is where it goes to the object of a present component of the file
abbrev pub EachAwaitIsThere : Type 0
EachAwaitIsThere =
    (w : World) (h : List Line) (m : Move) (f g : File) (s : State) → FollowsWhole w h m f g s → (c d : ℕ) (at : DriveAt)
    (a : Awaited) → IsAwaitedBy w f c a → a.drive ≡ d → IsPerformed w d at a.command →
    (k : ℕ) × (component_at d a.command.object f.kept.components 0 ≡ Some k)

-- and where its ask has the position of its component
abbrev pub EachAskIsPlaced : Type 0
EachAskIsPlaced =
    (w : World) (h : List Line) (m : Move) (f g : File) (s : State) → FollowsWhole w h m f g s → (c : ℕ) (a : Awaited) →
    IsAwaitedBy w f c a → position_in f.kept.map a.ask.component ≡ a.ask.position

-- At each moment of a scenario's history, what the pending read of a client awaits are READs, which drives read as they are.
abbrev pub ReadsAwaitReads : Type 0
ReadsAwaitReads =
    (w : World) (h : List Line) → IsMoment w h → IsOfScenario h → (c : ℕ) (call : Call) → (client_of w c).call ≡ Some call →
    is_write call.op ≡ false → (a : Awaited) → In a (awaited_of (client_of w c).call) →
    (a.command.action ≡ Read) × (reading (spelling a.command) ≡ Ok a.command)
