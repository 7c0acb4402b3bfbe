-- What the steps of a call up to its grant stand on, and how it begins to work under one.
use Rattle.std.proofs.Common.{◌≡◌, ◌≢◌, ◌⊎◌, ◌≤◌, ◌+◌, ℕ, Bool, true, false, List, [], ◌++◌, length, filter, slice_get, Option, Some, None, is_some}
use Rattle.std.specs.List.{list_any}
use Rattle.server_rules.specs.Grants.{grant_of}
use Rattle.server_rules.specs.Laws.{In}
use Rattle.server_rules.specs.Slots.{New, admit, slot_of}
use Rattle.client_rules.specs.Commands.{credential_in}
use Rattle.client_rules.specs.Going.{begins}
use Rattle.client_rules.specs.Grants.{held_of, covers}
use Rattle.client_rules.specs.Messages.{Step as ClientStep}
use Rattle.scenario_text.specs.declared.line.Line.{Line}
use Rattle.world_history.specs.ClientNames.{Client, CallOp, Held}
use Rattle.world_history.specs.ServerNames.{Component, Grant}
use Rattle.world_history.specs.State.{World, DriveAt, ClientAt, at_number}
use Rattle.world_history.specs.Handed.{is_addressed, client_posts, ended_by}
use Rattle.world_history.specs.Moves.{acts}
use Rattle.world_history.specs.Sending.{Move, move}
use Rattle.world_history.specs.History.{OneEventMore}
use Rattle.history_law.specs.BookMoments.{lines_in}
use Rattle.history_law.specs.Grants.{GrantsAreSafe}
use Rattle.exchange_law.specs.Counters.{CountersStayLow, ServerIsCounted, ClientsAreCounted}
use Rattle.exchange_law.specs.Doing.{posted}
use Rattle.exchange_law.specs.Files.{AllFilesFit}
use Rattle.exchange_law.specs.InStep.{ClientsAreInStep}
use Rattle.exchange_law.specs.Meeting.{ClientsAgree}
use Rattle.exchange_law.specs.Shapes.{FilesHaveShape}
use Rattle.component_law.specs.Listed.{ComponentsAgree}
use Rattle.component_law.specs.Order.{GrantsAreInOrder}
use Rattle.component_law.specs.Rests.{NothingDueRests}
use Rattle.component_law.specs.Sizes.{SizesAgree}
use Rattle.ready_law.specs.Answered.{ends_call}
use Rattle.ready_law.specs.Reacting.{IsGood}
use Rattle.ready_law.specs.Ready.{is_listed, is_lost}
use Rattle.ready_law.specs.Stepping.{StepsWell}
use Rattle.ready_law.proofs.Calls.{ReadyCall, scene_at, op_at, file_at_call, kept_at, own_at, lost_at, queue_at, IsIn}
use Rattle.ready_law.proofs.Stages.{Serves, HasSent, GoesOn, asking_at, OthersRest}

-- ---- laws

-- the laws of histories by which a call comes to its grant
pub record AskingLaws : Type 0 where
  pub more : OneEventMore
  pub safe : GrantsAreSafe
  pub order : GrantsAreInOrder
  pub rests : NothingDueRests
  pub in_step : ClientsAreInStep
  pub low : CountersStayLow
  pub counted : ServerIsCounted
  pub counts : ClientsAreCounted
  pub fit : AllFilesFit
  pub shapes : FilesHaveShape
  pub agree : ClientsAgree
  pub listed : ComponentsAgree
  pub sizes : SizesAgree

-- ---- a step of a client

-- The move is this step of client c, which has what it had but for its state; no other party changes. What is told behind lines
-- without an end of a call is how the step ends the call `op`, and then the messages that it sends.
pub record Steps (w : World) (m : Move) (c : ℕ) (before : ClientAt) (op : Option CallOp) (t : ClientStep) : Type 0 where
  pub after : ClientAt
  pub there : at_number (move w m).world.clients c ≡ Some after
  pub state : after.state ≡ t.client
  pub stopped : after.stopped ≡ before.stopped
  pub others : (d : ℕ) → d ≢ c → at_number (move w m).world.clients d ≡ at_number w.clients d
  pub server : (move w m).world.server ≡ w.server
  pub drives : (move w m).world.drives ≡ w.drives
  pub clock : (move w m).world.clock ≡ w.clock
  pub down : (move w m).world.down ≡ w.down
  pub wrote : Bool
  pub logged : ℕ
  pub posts : (acts w m.chosen m.action).posts ≡ filter is_addressed (client_posts c wrote logged t.sends)
  pub front : List Line
  pub back : List Line
  pub lines : lines_in w m ≡ front ++ (ended_by c op t.outcome ++ back)
  pub no_front : (d : ℕ) → list_any (ends_call d) front ≡ false
  pub no_back : (d : ℕ) → list_any (ends_call d) back ≡ false

-- ---- a call begins to work

-- In this move the client's call begins to work under a grant that covers it, and that the server has as well. The client has no
-- other business with the server, and nothing of the event is on its way but what the step sends.
pub record BeginsUnder (s : ReadyCall) (w : World) (m : Move) : Type 0 where
  -- the client, which holds the grant, where the call begins
  pub client : Client
  pub held : Held
  pub number : client.number ≡ s.client
  pub free : client.outstanding ≡ None
  pub none_due : client.due ≡ []
  pub holds : held_of client.held (file_at_call s) ≡ Some held
  pub file : held.file ≡ file_at_call s
  -- its next request will be new to the server
  pub new : admit (slot_of (move w m).world.server.slots s.client) client.next ≡ New
  pub covered : covers held (op_at s) ≡ true
  pub good : IsGood held (op_at s) (lost_at s)
  pub size : held.size ≡ (kept_at s).size
  pub listed : (k : ℕ) → is_some (credential_in (slice_get held.components k)) ≡ true
      → is_listed (kept_at s) (own_at s) (op_at s) k ≡ true
  -- its step
  pub before : ClientAt
  pub alive : before.stopped ≡ false
  pub result : ClientStep
  pub step : Steps w m s.client before (Some (op_at s)) result
  pub well : StepsWell client held (op_at s) (lost_at s) [] (begins held (op_at s)) result
  -- the server, the drives and the messages behind it
  pub grants : List Grant
  pub grant : Grant
  pub granted : grant_of grants s.client ≡ Some grant
  pub others : (g : Grant) → In g grants → (g.client ≡ s.client) ⊎ In g (kept_at s).grants
  pub aside : OthersRest s (move w m).world grants []
  pub server : Serves s (move w m).world grants (kept_at s).size
  pub in_time : (k : ℕ) (at : Component) (d : DriveAt) → slice_get (kept_at s).components k ≡ Some at
      → is_lost (scene_at s) at ≡ false → at_number s.world.drives at.drive ≡ Some d → d.clock ≤ grant.expiry
  pub drives : (move w m).world.drives ≡ s.world.drives
  pub queue : queue_at s (move w m).world ≡ posted (acts w m.chosen m.action).posts
  pub count : length (move w m).world.network.messages
      ≡ length w.network.messages + length (acts w m.chosen m.action).posts
  pub sent : HasSent s w (asking_at s)

-- then the call goes on
abbrev pub BeginsToWork : Type 0
BeginsToWork =
    (s : ReadyCall) (w : World) (h : List Line) (m : Move) → IsIn s (move w m).world (h ++ lines_in w m)
    → BeginsUnder s w m → GoesOn s (move w m).world (lines_in w m)
