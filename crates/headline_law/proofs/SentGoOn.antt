-- Behind each whole move what was sent is as the machine has it.
-- Towards `SentGoesOn` (`relation_law/specs/Steps.antt`).
use Rattle.std.proofs.Common.{◌≡◌, ◌++◌, true, List, Option, Some, None, refl, sym, subst}
use Rattle.scenario_text.specs.declared.line.Line.{Line}
use Rattle.server_rules.specs.Files.{file_at}
use Rattle.server_rules.specs.History.{Input}
use Rattle.server_rules.specs.Messages.{counters_have_room}
use Rattle.world_history.specs.ServerNames.{File}
use Rattle.world_history.specs.State.{World}
use Rattle.world_history.specs.Sending.{Move, move}
use Rattle.history_law.specs.Moments.{IsMoment, lines_in}
use Rattle.history_law.specs.Doing.{input_in}
use Rattle.component_law.proofs.NamedLines.{are_named}
use Rattle.component_law.specs.Sent.{IsSentByRun}
use Rattle.fence_law.specs.State.{State}
use Rattle.file_simulation.specs.ClientEvents.{Going, going_in}
use Rattle.file_simulation.specs.Components.{AreComponents}
use Rattle.relation_law.specs.ComponentsFacts.{AreRaisedIn}
use Rattle.relation_law.specs.ComponentsFollow.{EachRebuiltStands, EachWriteHasItsPlace}
use Rattle.relation_law.specs.Frames.{FileStays}
use Rattle.relation_law.specs.MessagesWrites.{WritesAreSent}
use Rattle.relation_law.specs.Steps.{FollowsWhole, whole_behind, ComponentsGoOn, KeptGoesOn, SentGoesOn}
use Rattle.relation_law.proofs.ComponentsGoOn.{client_file, replied_goes_on}
use Rattle.relation_law.proofs.ComponentsMade.{none_is_earlier_in}
use Rattle.relation_law.proofs.ComponentsMoved.{behind as moment_behind, later, of_move}
use Rattle.relation_law.proofs.ComponentsRaised.{raised_goes_on, raising}
use Rattle.relation_law.proofs.FramesFiles.{file_stays}
use Rattle.headline_law.proofs.SentMove.{SentLaws, client_writes}
use Rattle.headline_law.proofs.SentOthers.{drive_writes, server_writes}

module _ (laws : SentLaws) (w : World) (h : List Line) (m : Move) (f g : File) (s : State)
    (k : FollowsWhole w h m f g s) (components : AreComponents (whole_behind k) (move w m).world g) where
  writes : WritesAreSent (whole_behind k) (move w m).world g
  writes = by_going (going_in w m.action) refl
    where
      by_input : going_in w m.action ≡ None → (o : Option Input) → input_in w m.action ≡ o →
          WritesAreSent (whole_behind k) (move w m).world g
      by_input none None is = drive_writes laws.moved w h m f g s k none is components
      by_input none (Some i) is = server_writes laws.moved w h m f g s k none i is components

      by_going : (o : Option Going) → going_in w m.action ≡ o → WritesAreSent (whole_behind k) (move w m).world g
      by_going None none = by_input none (input_in w m.action) refl
      by_going (Some j) goes =
          subst (WritesAreSent (whole_behind k) (move w m).world)
          (client_file w h m f g s k.follows.moment k.follows.is_due k.follows.there k.follows.run k.follows.related j goes
          k.follows.goes)
          (client_writes laws w h m f g s k j goes)

  -- ---- SET TAGs

  stays : FileStays f g
  stays = file_stays w h k.follows.moment m k.follows.is_due f.kept.number f g k.follows.there k.follows.goes

  there_behind : file_at (move w m).world.server.files g.kept.number ≡ Some g
  there_behind =
      subst (λ n. file_at (move w m).world.server.files n ≡ Some g) (sym stays.same.number) k.follows.goes

  next : IsMoment (move w m).world (h ++ lines_in w m)
  next = moment_behind laws.moved w h m f g s k

  run_behind : IsSentByRun (move w m).world
  run_behind =
      laws.moved.made.run (move w m).world (h ++ lines_in w m) next
      (are_named (h ++ lines_in w m) (later laws.moved w h m f g s k).written)

  room_behind : counters_have_room (move w m).world.server ≡ true
  room_behind =
      laws.moved.room (move w m).world (h ++ lines_in w m) next (later laws.moved w h m f g s k).text
      (later laws.moved w h m f g s k).few

  raised : KeptGoesOn → AreRaisedIn (whole_behind k) (move w m).world g
  raised kept =
      raised_goes_on w h m f g s k (kept w h m f g s k) stays.same.first_tag
      (raising laws.moved.made.ahead (move w m).world run_behind g there_behind
      (λ d n x at has sets found object.
      none_is_earlier_in (move w m).world run_behind room_behind g there_behind d n x at has found object))

-- Behind each whole move what was sent is as the machine has it.
pub sent_goes_on : SentLaws → EachWriteHasItsPlace → EachRebuiltStands → ComponentsGoOn → KeptGoesOn → SentGoesOn
sent_goes_on laws places rebuilt components kept w h m f g s k = record {
  writes = writes laws w h m f g s k (components w h m f g s k);
  replied = replied_goes_on w h m f g s k (of_move laws.moved w h m f g s k places rebuilt);
  raised = raised laws w h m f g s k (components w h m f g s k) kept;
}
