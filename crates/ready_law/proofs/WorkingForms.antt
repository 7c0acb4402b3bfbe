-- What the steps of a ready call that works on drives stand on.
use Rattle.std.proofs.Common.{◌≡◌, ◌⊎◌, ◌≤◌, ◌+◌, ◌*◌, ℕ, true, false, List, [], ◌++◌, length, slice_get, Some, None, is_some}
use Rattle.server_rules.specs.Files.{file_at}
use Rattle.server_rules.specs.Grants.{grant_of}
use Rattle.server_rules.specs.Laws.{In}
use Rattle.server_rules.specs.Slots.{New, admit, slot_of}
use Rattle.stripe_plan.specs.Lost.{among}
use Rattle.client_rules.specs.Calls.{is_write}
use Rattle.client_rules.specs.Commands.{credential_in, counted}
use Rattle.client_rules.specs.Messages.{Step}
use Rattle.scenario_text.specs.declared.line.Line.{Line}
use Rattle.world_history.specs.ClientNames.{Client, Held, Phase, Awaited, Goes, Moved}
use Rattle.world_history.specs.ServerNames.{File, Component, Grant}
use Rattle.world_history.specs.declared.messages.Message.{Message}
use Rattle.world_history.specs.State.{World, DriveAt, ClientAt, at_number}
use Rattle.world_history.specs.Moves.{acts}
use Rattle.world_history.specs.Sending.{Move, move}
use Rattle.exchange_law.specs.Doing.{posted}
use Rattle.exchange_law.specs.Held.{Agrees}
use Rattle.component_law.specs.Listed.{ListsComponents}
use Rattle.load_law.specs.Load.{EachCallSendsFew}
use Rattle.ready_law.specs.Carried.{AwaitedAreServed, RepliesAreRead}
use Rattle.ready_law.specs.Clear.{RoomStays}
use Rattle.ready_law.specs.Enough.{LostAreListed}
use Rattle.ready_law.specs.Fair.{IsFair}
use Rattle.ready_law.specs.Load.{Runs}
use Rattle.component_law.specs.Offline.{OfflineHaveFailed}
use Rattle.ready_law.specs.Ready.{is_listed, is_lost}
use Rattle.ready_law.specs.Reacting.{IsGood}
use Rattle.ready_law.proofs.AskingForms.{AskingLaws, Steps}
use Rattle.ready_law.proofs.Calls.{ReadyCall, scene_at, op_at, file_at_call, kept_at, own_at, lost_at, first_at, queue_at}
use Rattle.ready_law.proofs.Stages.{Serves, DrivesGoOn, AreOf, HaveOwnNonces, commands_in, asking_at, work_at, OthersRest}
use Rattle.client_rules.specs.Writes.{is_past_size}

-- ---- laws

-- the components of each file stand on different drives
abbrev pub FilesStandApart : Type 0
FilesStandApart =
    (w : World) (h : List Line) → IsFair w h → (n : ℕ) (f : File) → file_at w.server.files n ≡ Some f
    → (j k : ℕ) (a b : Component) → slice_get f.kept.components j ≡ Some a → slice_get f.kept.components k ≡ Some b
    → a.drive ≡ b.drive → j ≡ k

-- what the stage stands on, beside what it takes to come to a grant
pub record WorkingLaws : Type 0 where
  pub asking : AskingLaws
  pub served : AwaitedAreServed
  pub read : RepliesAreRead
  pub few : EachCallSendsFew
  pub lost : LostAreListed
  pub offline : OfflineHaveFailed
  pub room : RoomStays
  pub apart : FilesStandApart

-- ---- the grant

-- The call works under this grant, which the server has too: the server has the same file, and this size of it.
pub record UnderGrant (s : ReadyCall) (w : World) (held : Held) (size : ℕ) : Type 0 where
  pub grants : List Grant
  pub grant : Grant
  pub granted : grant_of grants s.client ≡ Some grant
  pub others : (g : Grant) → In g grants → (g.client ≡ s.client) ⊎ In g (kept_at s).grants
  pub aside : OthersRest s w grants []
  pub server : Serves s w grants size
  pub good : IsGood held (op_at s) (lost_at s)
  pub listed : (k : ℕ) → is_some (credential_in (slice_get held.components k)) ≡ true
      → is_listed (kept_at s) (own_at s) (op_at s) k ≡ true
  pub agrees : Agrees (kept_at s).map grant held
  pub lists : ListsComponents w.server.drives (record (kept_at s) { grants = grants; size = size; high = server.high }) grant
      held.components
  pub for_writing : is_write (op_at s) ≡ true → held.reach.rw ≡ true

-- So it can send commands: it knows the size, and no drive of a component that isn't lost refuses them by its time, or has too
-- little room.
pub record CanWork (s : ReadyCall) (w : World) (held : Held) (grant : Grant) : Type 0 where
  pub size : held.size ≡ (kept_at s).size
  pub in_time : (k : ℕ) (at : Component) (d : DriveAt) → slice_get (kept_at s).components k ≡ Some at
      → is_lost (scene_at s) at ≡ false → at_number s.world.drives at.drive ≡ Some d → d.clock ≤ grant.expiry
  pub drives : DrivesGoOn s w

-- What a call that ends leaves: the server has its grant, and the client knew the size. A write that passes it commits first.
pub record EndsUnder (s : ReadyCall) (w : World) (held : Held) : Type 0 where
  pub grants : List Grant
  pub grant : Grant
  pub granted : grant_of grants s.client ≡ Some grant
  pub others : (g : Grant) → In g grants → (g.client ≡ s.client) ⊎ In g (kept_at s).grants
  pub aside : OthersRest s w grants []
  pub server : Serves s w grants (kept_at s).size
  pub drives : DrivesGoOn s w
  pub size : held.size ≡ (kept_at s).size
  pub low : is_write (op_at s) ≡ true → is_past_size held (op_at s) ≡ false

-- ---- a turn

-- The move is a step of the call's client: in the middle of it the client stands so, and then its call deals with drives under
-- the grant. What it posts comes behind the rest of the queue.
pub record TakesTurn (s : ReadyCall) (w : World) (m : Move) (held : Held) (rest : List Message) : Type 0 where
  pub base : Client
  pub number : base.number ≡ s.client
  pub free : base.outstanding ≡ None
  pub due : base.due ≡ []
  pub file_is : held.file ≡ file_at_call s
  -- its next request will be new to the server
  pub new : admit (slot_of (move w m).world.server.slots s.client) base.next ≡ New
  pub before : ClientAt
  pub alive : before.stopped ≡ false
  pub result : Step
  pub step : Steps w m s.client before (Some (op_at s)) result
  pub queue : queue_at s (move w m).world ≡ rest ++ posted (acts w m.chosen m.action).posts
  pub count : length (move w m).world.network.messages
      ≡ length w.network.messages + length (acts w m.chosen m.action).posts

-- What the call does with the drives in it: of what it awaited and still awaits `waiting` has its messages in this rest of the
-- queue, and all other is of lost components. It began under the grant `begun`, and sent these commands before.
pub record TurnsOn (s : ReadyCall) (w : World) (held begun : Held) (mv : Moved) (commands awaited waiting : List Awaited)
    (rest : List Message) : Type 0
  where
    pub own : HaveOwnNonces waiting
    pub queue : AreOf s.client waiting rest
    pub among_them : (x : Awaited) → In x waiting → In x awaited
    pub heard : (x : Awaited) → In x awaited → In x waiting ⊎ (among x.ask.component (lost_at s) ≡ true)
    pub run : (p : Phase) → mv.turn ≡ Goes p → mv.held ≡ counted held mv.sent
        → Runs begun (op_at s) mv.held p (commands ++ mv.sent)
    pub few : 2 * length commands ≤ work_at s
    pub sent : length w.network.messages + commands_in rest ≤ first_at s + (asking_at s + 2 * length commands)
