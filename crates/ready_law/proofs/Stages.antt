-- The stages of a ready call: what is on its way, what its client waits for, and what the server has.
use Rattle.std.proofs.Common.{◌≡◌, ◌≢◌, ◌⊎◌, ◌≤◌, ◌+◌, ◌*◌, max, ℕ, Bool, true, false, List, [], ◌∷◌, ◌++◌, length, filter, slice_get, Option, Some, None, is_some, Ok}
use Rattle.osd_lists.specs.declared.node.Node.{Node}
use Rattle.osd_lists.specs.declared.node.Node.TheVariants as node
use Rattle.layout_ops.specs.declared.envelope.Envelope.TheVariants as envelope
use Rattle.layout_ops.specs.declared.statuses.TheConstants.{NFS4_OK, NFS4ERR_LAYOUTTRYLATER}
use Rattle.server_rules.specs.Answers.{recall_of}
use Rattle.server_rules.specs.Files.{file_at}
use Rattle.server_rules.specs.Grants.{against, grant_of, without}
use Rattle.server_rules.specs.Laws.{In}
use Rattle.server_rules.specs.Layouts.{object_of}
use Rattle.server_rules.specs.Slots.{New, admit, slot_of}
use Rattle.stripe_plan.specs.Lost.{among}
use Rattle.client_rules.specs.Answers.{is_loss_taken}
use Rattle.client_rules.specs.Calls.{is_write, span_of}
use Rattle.client_rules.specs.Commands.{credential_in}
use Rattle.client_rules.specs.Grants.{held_of, covers}
use Rattle.client_rules.specs.Io.{awaited_in}
use Rattle.client_rules.specs.Layouts.{taken}
use Rattle.client_rules.specs.Requests.{get_args, commit_args, return_args, report_of, object_of as listed_object}
use Rattle.client_rules.specs.Results.{status_of}
use Rattle.client_rules.specs.Writes.{is_past_size}
use Rattle.world_history.specs.ClientNames.{RecallAnswer, Held, Phase, Waits, Reads, Probes, Gathers, Scatters, First, Get, Commit, Report, Request, Answer, Awaited, TimedOut}
use Rattle.world_history.specs.ServerNames.{Kept, Component, Grant, Slot}
use Rattle.world_history.specs.declared.messages.Body.TheVariants.{Command as OfCommand, Envelope as OfEnvelope}
use Rattle.world_history.specs.declared.messages.Message.{Message}
use Rattle.world_history.specs.State.{World, DriveAt, ClientAt, at_number}
use Rattle.std.specs.List.{list_any}
use Rattle.scenario_text.specs.declared.line.Line.{Line}
use Rattle.ready_law.specs.Answered.{stripes_touched, ends_call, EndsOk}
use Rattle.ready_law.specs.Carried.{TellsDone}
use Rattle.ready_law.specs.Clear.{HasRoomTo}
use Rattle.ready_law.specs.Load.{Runs}
use Rattle.ready_law.specs.Ready.{IsIdle, IsTouched, held_by, stands, is_listed, is_lost, write_end}
pub use Rattle.ready_law.specs.Rested.{IsAsBefore}
use Rattle.ready_law.specs.Rested.{size_after}
use Rattle.ready_law.specs.Reacting.{IsGood, WorksWell}
use Rattle.ready_law.proofs.Calls.{ReadyCall, scene_at, op_at, file_at_call, kept_at, own_at, wanted_at, opposed_at, lost_at, first_at, queue_at, request_message, answer_message}

-- ---- the client of the call

-- it lives, its call is in this phase, this request is outstanding, and it owes no return
pub record Caller (s : ReadyCall) (w : World) (p : Phase) (out : Option Request) : Type 0 where
  pub at : ClientAt
  pub there : at_number w.clients s.client ≡ Some at
  pub alive : at.stopped ≡ false
  pub call : at.state.call ≡ Some (record { op = op_at s; phase = p })
  pub outstanding : at.state.outstanding ≡ out
  pub due : at.state.due ≡ []

-- what it holds on the call's file
abbrev pub holding : {s : ReadyCall} → {w : World} → {p : Phase} → {out : Option Request} → Caller s w p out → Option Held
holding {s} c = held_of c.at.state.held (file_at_call s)

-- ---- the server

-- It is up, and its clock stands still. Of the file the live grants and the size are these, and the rest but for the greatest
-- stripe is as it was.
pub record Serves (s : ReadyCall) (w : World) (grants : List Grant) (size : ℕ) : Type 0 where
  pub clock : w.clock ≡ s.world.clock
  pub up : w.down ≡ false
  pub high : ℕ
  pub found : file_at w.server.files (file_at_call s)
      ≡ Some (record s.ready.file { kept = record (kept_at s) { grants = grants; size = size; high = high } })

-- the request is the call's, for its file, and new to the server
pub record IsAsked (s : ReadyCall) (w : World) (q : Request) : Type 0 where
  pub client_is : q.client ≡ s.client
  pub file_is : q.file ≡ file_at_call s
  pub new : admit (slot_of w.server.slots s.client) q.sequence ≡ New

-- the server answered the request so, and keeps the answer
pub record IsAnsweredBy (s : ReadyCall) (w : World) (q : Request) (a : Answer) : Type 0 where
  pub client_is : a.client ≡ s.client
  pub sequence : a.sequence ≡ q.sequence
  pub slot : Slot
  pub slot_is : slot_of w.server.slots s.client ≡ Some slot
  pub kept : slot.kept ≡ a
  pub last : slot.last ≡ q.sequence

-- ---- the holders of conflicting grants

-- client c is as it was when the event began
abbrev pub IsUntouched : ReadyCall → World → (c : ℕ) → Type 0
IsUntouched s w c = at_number w.clients c ≡ at_number s.world.clients c

-- it has sent this return of the grant, does nothing, and owes nothing else
pub record IsReturning (s : ReadyCall) (w : World) (g : Grant) (q : Request) : Type 0 where
  pub client_is : q.client ≡ g.client
  pub file_is : q.file ≡ file_at_call s
  pub args_are : q.args ≡ return_args g.number []
  pub new : admit (slot_of w.server.slots g.client) q.sequence ≡ New
  pub at : ClientAt
  pub there : at_number w.clients g.client ≡ Some at
  pub free : at.state.call ≡ None
  pub outstanding : at.state.outstanding ≡ Some q
  pub due : at.state.due ≡ []
  pub alive : at.stopped ≡ false
  pub released : held_of at.state.held (file_at_call s) ≡ None

-- its return was taken, and this answer is on its way to it; it does nothing, and owes nothing else
pub record IsTaking (s : ReadyCall) (w : World) (g : Grant) (a : Answer) : Type 0 where
  pub at : ClientAt
  pub there : at_number w.clients g.client ≡ Some at
  pub alive : at.stopped ≡ false
  pub free : at.state.call ≡ None
  pub request : Request
  pub outstanding : at.state.outstanding ≡ Some request
  pub due : at.state.due ≡ []
  pub released : held_of at.state.held (file_at_call s) ≡ None
  pub client_is : a.client ≡ g.client
  pub sequence : a.sequence ≡ request.sequence
  pub status : status_of a.results ≡ NFS4_OK
  pub slot : Slot
  pub slot_is : slot_of w.server.slots g.client ≡ Some slot
  pub kept : slot.kept ≡ a

-- a recall of each of these grants, in order
abbrev pub AreRecalls : List Grant → List Message → Type 0
AreRecalls [] [] = Unit {0}
AreRecalls (g ∷ gs) (m ∷ ms) =
    ((count : ℕ) × (m ≡ record {
      from = node.Server;
      to = node.Client g.client;
      body = OfEnvelope (envelope.Recall (recall_of g count));
    })) × AreRecalls gs ms
AreRecalls gs ms = ⊥

-- an answer to a recall, from this client
pub record IsRecallAnswer (client : ℕ) (m : Message) : Type 0 where
  pub answer : RecallAnswer
  pub message_is : m ≡ record { from = node.Client client; to = node.Server; body = OfEnvelope (envelope.RecallAnswer answer) }

-- of each of these grants the answer to its recall, and then its return
abbrev pub AreReturns : ReadyCall → World → List Grant → List Message → Type 0
AreReturns s w [] [] = Unit {0}
AreReturns s w (g ∷ gs) (a ∷ m ∷ ms) =
    IsRecallAnswer g.client a × ((q : Request) × IsReturning s w g q × (m ≡ request_message q)) × AreReturns s w gs ms
AreReturns s w gs ms = ⊥

-- the answer to each client of these grants, who gave them back
abbrev pub AreTaken : ReadyCall → World → List Grant → List Message → Type 0
AreTaken s w [] [] = Unit {0}
AreTaken s w (g ∷ gs) (m ∷ ms) = ((a : Answer) × IsTaking s w g a × (m ≡ answer_message a)) × AreTaken s w gs ms
AreTaken s w gs ms = ⊥

-- the return of the one grant, if there is one: the answer to its recall is gone
abbrev pub AreHalves : ReadyCall → World → List Grant → List Message → Type 0
AreHalves s w [] [] = Unit {0}
AreHalves s w (g ∷ []) (m ∷ []) = (q : Request) × IsReturning s w g q × (m ≡ request_message q)
AreHalves s w gs ms = ⊥

-- each of these grants was live when the event began
abbrev pub WereLive : ReadyCall → List Grant → Type 0
WereLive s grants = (g : Grant) → In g grants → In g (kept_at s).grants

-- ---- the other clients

-- no client has two of these grants
abbrev pub HaveOwnClients : List Grant → Type 0
HaveOwnClients [] = Unit {0}
HaveOwnClients (g ∷ gs) = ((x : Grant) → In x gs → x.client ≢ g.client) × HaveOwnClients gs

-- client c is as it was when the event began, and so is its grant on the call's file
pub record IsAside (s : ReadyCall) (w : World) (grants : List Grant) (c : ℕ) : Type 0 where
  pub client : at_number w.clients c ≡ at_number s.world.clients c
  pub grant : grant_of grants c ≡ grant_of (kept_at s).grants c

-- client c gave its grant on the file back, and is idle
pub record GaveBack (s : ReadyCall) (w : World) (grants : List Grant) (c : ℕ) : Type 0 where
  pub at : ClientAt
  pub there : at_number w.clients c ≡ Some at
  pub idle : IsIdle at
  pub released : held_by at (file_at_call s) ≡ None
  pub none : grant_of grants c ≡ None

-- one of these grants is client c's
abbrev pub HasOneOf : List Grant → (c : ℕ) → Type 0
HasOneOf gs c = (g : Grant) × In g gs × (g.client ≡ c)

-- each other client is aside or gave its grant back, but for the clients of these grants
abbrev pub OthersRest : ReadyCall → World → List Grant → (busy : List Grant) → Type 0
OthersRest s w grants busy =
    (c : ℕ) → c ≢ s.client → HasOneOf busy c ⊎ (IsAside s w grants c ⊎ GaveBack s w grants c)

-- ---- the grant is asked for

-- how many messages were sent in the event, at most
abbrev pub HasSent : ReadyCall → World → ℕ → Type 0
HasSent s w n = length w.network.messages ≤ first_at s + n

-- The grant that was held doesn't cover the call: its return is on its way.
pub record Returning (s : ReadyCall) (w : World) : Type 0 where
  pub request : Request
  pub number : ℕ
  pub args_are : request.args ≡ return_args number []
  pub asked : IsAsked s w request
  pub caller : Caller s w (Waits First) (Some request)
  pub released : holding caller ≡ None
  pub server : Serves s w (kept_at s).grants (kept_at s).size
  pub drives : w.drives ≡ s.world.drives
  pub untouched : (c : ℕ) → c ≢ s.client → IsUntouched s w c
  pub queue : queue_at s w ≡ request_message request ∷ []
  pub uncovered : (h : Held) → own_at s ≡ Some h → covers h (op_at s) ≡ false
  pub sent : HasSent s w 1
  -- the grant that it gives back was held where the event began
  pub own : Held
  pub owned : own_at s ≡ Some own

-- Its answer is on its way.
pub record Returned (s : ReadyCall) (w : World) : Type 0 where
  pub request : Request
  pub answer : Answer
  pub answered : IsAnsweredBy s w request answer
  pub status : status_of answer.results ≡ NFS4_OK
  pub caller : Caller s w (Waits First) (Some request)
  pub released : holding caller ≡ None
  pub server : Serves s w (without (kept_at s).grants s.client) (kept_at s).size
  pub drives : w.drives ≡ s.world.drives
  pub untouched : (c : ℕ) → c ≢ s.client → IsUntouched s w c
  pub queue : queue_at s w ≡ answer_message answer ∷ []
  pub uncovered : (h : Held) → own_at s ≡ Some h → covers h (op_at s) ≡ false
  pub sent : HasSent s w 2

-- What all stages share in which a grant is asked for: none is held, and the one that was held doesn't cover the call; the client
-- waits for the answer to this LAYOUTGET, its n-th but one.
pub record Asks (s : ReadyCall) (w : World) (tries : ℕ) (request : Request) (grants : List Grant) : Type 0 where
  pub args_are : request.args ≡ get_args (op_at s)
  pub caller : Caller s w (Waits (Get tries)) (Some request)
  pub released : holding caller ≡ None
  pub uncovered : (h : Held) → own_at s ≡ Some h → covers h (op_at s) ≡ false
  pub server : Serves s w grants (kept_at s).size
  pub drives : w.drives ≡ s.world.drives

-- The first LAYOUTGET is on its way.
pub record Asking (s : ReadyCall) (w : World) : Type 0 where
  pub request : Request
  pub asks : Asks s w 0 request (without (kept_at s).grants s.client)
  pub asked : IsAsked s w request
  pub untouched : (c : ℕ) → c ≢ s.client → IsUntouched s w c
  pub queue : queue_at s w ≡ request_message request ∷ []
  pub sent : HasSent s w 3

-- It was answered that conflicting grants are recalled. Of these `left` are still to be recalled; the holders of `done` were, and
-- their returns are behind that answer.
pub record Recalling (s : ReadyCall) (w : World) : Type 0 where
  pub request : Request
  pub answer : Answer
  pub asks : Asks s w 0 request (without (kept_at s).grants s.client)
  pub answered : IsAnsweredBy s w request answer
  pub status : status_of answer.results ≡ NFS4ERR_LAYOUTTRYLATER
  pub done : List Grant
  pub left : List Grant
  pub all : opposed_at s ≡ done ++ left
  pub some : opposed_at s ≢ []
  pub recalls : List Message
  pub returns : List Message
  pub are_recalls : AreRecalls left recalls
  pub are_returns : AreReturns s w done returns
  pub untouched : (g : Grant) → In g left → IsUntouched s w g.client
  pub aside : (c : ℕ) → c ≢ s.client → HasOneOf done c ⊎ IsUntouched s w c
  pub queue : queue_at s w ≡ recalls ++ answer_message answer ∷ returns
  pub sent : HasSent s w (4 + length (opposed_at s) + 2 * length done)

-- The second LAYOUTGET is behind the returns. Those of `done` were taken, those of `left` weren't, and of the first of these the
-- answer to the recall may be gone already.
pub record AskingAgain (s : ReadyCall) (w : World) : Type 0 where
  pub request : Request
  pub grants : List Grant
  pub asks : Asks s w 1 request grants
  pub asked : IsAsked s w request
  pub done : List Grant
  pub half : List Grant
  pub left : List Grant
  pub all : opposed_at s ≡ done ++ half ++ left
  pub against_are : against grants (wanted_at s) ≡ half ++ left
  pub own : grant_of grants s.client ≡ None
  pub others : WereLive s grants
  pub halves : List Message
  pub returns : List Message
  pub taken_by : List Message
  pub are_halves : AreHalves s w half halves
  pub are_returns : AreReturns s w left returns
  pub are_taken : AreTaken s w done taken_by
  pub gone : (g : Grant) → In g done → grant_of grants g.client ≡ None
  pub aside : OthersRest s w grants (opposed_at s)
  pub queue : queue_at s w ≡ halves ++ returns ++ request_message request ∷ taken_by
  pub sent : HasSent s w (5 + 3 * length (opposed_at s) + length done)

-- A held grant has the file's map and size, and lists of its components those that aren't missing.
pub record ListsFile (f : Kept) (h : Held) : Type 0 where
  pub map : h.map ≡ f.map
  pub size : h.size ≡ f.size
  pub count : length h.components ≡ length f.components
  pub listed : (k : ℕ) → is_some (credential_in (slice_get h.components k)) ≡ stands (slice_get f.components k)

-- The layout is on its way, behind the answers to the holders `left`.
pub record Getting (s : ReadyCall) (w : World) : Type 0 where
  pub tries : ℕ
  pub request : Request
  pub answer : Answer
  pub before : List Grant
  pub grant : Grant
  pub asks : Asks s w tries request (before ++ grant ∷ [])
  pub own : grant_of before s.client ≡ None
  pub client_is : grant.client ≡ s.client
  pub others : WereLive s before
  pub left : List Grant
  pub answered : IsAnsweredBy s w request answer
  pub status : status_of answer.results ≡ NFS4_OK
  pub taken_by : List Message
  pub own_left : HaveOwnClients left
  pub are_taken : AreTaken s w left taken_by
  pub gone : (g : Grant) → In g left → grant_of (before ++ grant ∷ []) g.client ≡ None
  pub aside : OthersRest s w (before ++ grant ∷ []) left
  pub queue : queue_at s w ≡ taken_by ++ answer_message answer ∷ []
  pub sent : HasSent s w (6 + 4 * length (opposed_at s))
  -- the grant's end, and what the layout lists
  pub expiry : grant.expiry ≡ (wanted_at s).expiry
  pub layout : (held : Held) → taken answer (op_at s) ≡ Ok held → ListsFile (kept_at s) held

-- ---- the call works on drives

-- So is each. Where a component's object had room to become so long that the call's WRITEs end inside it, it still has. And those
-- of touched components that aren't lost have the room that is needed.
pub record DrivesGoOn (s : ReadyCall) (w : World) : Type 0 where
  pub each : (d : ℕ) → IsAsBefore (at_number s.world.drives d) (at_number w.drives d)
  pub stays : (k : ℕ) (at : Component) (a b : DriveAt) (top : ℕ) → slice_get (kept_at s).components k ≡ Some at
      → at_number s.world.drives at.drive ≡ Some a → at_number w.drives at.drive ≡ Some b
      → (is_write (op_at s) ≡ true → write_end (kept_at s) (op_at s) k ≤ top)
      → HasRoomTo top a.state.store at.object → HasRoomTo top b.state.store at.object
  pub room : is_write (op_at s) ≡ true → (k : ℕ) (at : Component) (a : DriveAt) → IsTouched (kept_at s) (op_at s) k
      → slice_get (kept_at s).components k ≡ Some at → is_lost (scene_at s) at ≡ false
      → at_number w.drives at.drive ≡ Some a → HasRoomTo (write_end (kept_at s) (op_at s) k) a.state.store at.object

-- the message of a command that is awaited, on its way to its drive
abbrev pub command_message : (client : ℕ) → Awaited → Message
command_message c x = record { from = node.Client c; to = node.Drive x.drive; body = OfCommand x.command }

-- a reply on its way that says that it was carried out
pub record IsReplyTo (c : ℕ) (x : Awaited) (m : Message) : Type 0 where
  pub from_is : m.from ≡ node.Drive x.drive
  pub to_is : m.to ≡ node.Client c
  pub tells : TellsDone m x.command.nonce

-- the command, or such a reply
abbrev pub IsOf : (c : ℕ) → Awaited → Message → Type 0
IsOf c x m = (m ≡ command_message c x) ⊎ IsReplyTo c x m

-- one of these for each that is awaited here, in order
abbrev pub AreOf : (c : ℕ) → List Awaited → List Message → Type 0
AreOf c [] [] = Unit {0}
AreOf c (x ∷ xs) (m ∷ ms) = IsOf c x m × AreOf c xs ms
AreOf c xs ms = ⊥

-- no nonce stands twice
abbrev pub HaveOwnNonces : List Awaited → Type 0
HaveOwnNonces [] = Unit {0}
HaveOwnNonces (x ∷ xs) = ((y : Awaited) → In y xs → x.command.nonce ≢ y.command.nonce) × HaveOwnNonces xs

-- of these messages those that go to drives
abbrev pub is_to_drive : Node → Bool
is_to_drive (node.Drive d) = true
is_to_drive n = false

abbrev pub commands_in : List Message → ℕ
commands_in ms = length (filter (λ (m : Message). is_to_drive m.to) ms)

-- a phase in which something is awaited of drives
abbrev pub IsWorking : Phase → Type 0
IsWorking (Reads io) = io.awaited ≢ []
IsWorking (Probes io) = io.awaited ≢ []
IsWorking (Gathers io) = io.awaited ≢ []
IsWorking (Scatters io queue) = io.awaited ≢ []
IsWorking p = ⊥

-- What all stages share in which the call has a grant: it is held, and the server has it.
pub record HasGrant (s : ReadyCall) (w : World) (p : Phase) (out : Option Request) (size : ℕ) : Type 0 where
  pub caller : Caller s w p out
  pub held : Held
  pub holds : holding caller ≡ Some held
  pub grants : List Grant
  pub grant : Grant
  pub granted : grant_of grants s.client ≡ Some grant
  pub others : (g : Grant) → In g grants → (g.client ≡ s.client) ⊎ In g (kept_at s).grants
  pub aside : OthersRest s w grants []
  pub server : Serves s w grants size
  pub good : IsGood held (op_at s) (lost_at s)
  -- what it lists is what the call's readiness speaks of
  pub listed : (k : ℕ) → is_some (credential_in (slice_get held.components k)) ≡ true
      → is_listed (kept_at s) (own_at s) (op_at s) k ≡ true

-- how many messages the commands of a call take, with their replies
abbrev pub work_at : ReadyCall → ℕ
work_at s = 12 * (kept_at s).map.comps * stripes_touched (kept_at s) (op_at s)

-- how many messages come before the call works
abbrev pub asking_at : ReadyCall → ℕ
asking_at s = 6 + 4 * length (opposed_at s)

-- The call works on drives. Each message that is on its way is a command that it awaits, or the reply to one; and each that it
-- awaits without one is of a component that is lost.
pub record Working (s : ReadyCall) (w : World) : Type 0 where
  pub phase : Phase
  pub works : IsWorking phase
  pub has : HasGrant s w phase None (kept_at s).size
  pub size : has.held.size ≡ (kept_at s).size
  pub well : WorksWell has.held (op_at s) (lost_at s) phase
  -- the clock of no drive of a component that isn't lost is past the grant
  pub in_time : (k : ℕ) (at : Component) (d : DriveAt) → slice_get (kept_at s).components k ≡ Some at
      → is_lost (scene_at s) at ≡ false → at_number s.world.drives at.drive ≡ Some d → d.clock ≤ has.grant.expiry
  pub drives : DrivesGoOn s w
  pub begun : Held
  pub commands : List Awaited
  pub run : Runs begun (op_at s) has.held phase commands
  pub waiting : List Awaited
  pub own : HaveOwnNonces waiting
  pub queue : AreOf s.client waiting (queue_at s w)
  pub awaited : (x : Awaited) → In x waiting → In x (awaited_in phase)
  pub heard : (x : Awaited) → In x (awaited_in phase) → In x waiting ⊎ (among x.ask.component (lost_at s) ≡ true)
  pub sent : length w.network.messages + commands_in (queue_at s w) ≤ first_at s + (asking_at s + 2 * length commands)

-- ---- behind the last WRITE

-- what the client lists for component k is the object that the component has at the server
abbrev pub NamesItsObject : ReadyCall → Held → (k : ℕ) → Type 0
NamesItsObject s held k =
    (at : Component) → slice_get (kept_at s).components k ≡ Some at → listed_object held k ≡ object_of at

-- components that timed out, by rising number; each was asked, is lost, and is one that the layout lists
pub record AreSilent (s : ReadyCall) (held : Held) (timed : List TimedOut) : Type 0 where
  pub lost : (t : TimedOut) → In t timed → among t.ask.component (lost_at s) ≡ true
  pub touched : (t : TimedOut) → In t timed → IsTouched (kept_at s) (op_at s) t.ask.component
  pub listed : (t : TimedOut) → In t timed → is_some (credential_in (slice_get held.components t.ask.component)) ≡ true

-- The LAYOUTCOMMIT is on its way.
pub record Committing (s : ReadyCall) (w : World) : Type 0 where
  pub request : Request
  pub timed : List TimedOut
  pub has : HasGrant s w (Waits (Commit timed)) (Some request) (kept_at s).size
  pub writes : is_write (op_at s) ≡ true
  pub silent : AreSilent s has.held timed
  pub args_are : request.args ≡ commit_args has.held (op_at s)
  pub past : is_past_size has.held (op_at s) ≡ true
  pub asked : IsAsked s w request
  pub drives : DrivesGoOn s w
  pub queue : queue_at s w ≡ request_message request ∷ []
  pub sent : HasSent s w (asking_at s + work_at s + 1)

-- Its answer is.
pub record Committed (s : ReadyCall) (w : World) : Type 0 where
  pub request : Request
  pub answer : Answer
  pub timed : List TimedOut
  pub size : ℕ
  pub size_is : size ≡ max (kept_at s).size ((span_of (op_at s)).offset + (span_of (op_at s)).length)
  pub drives : DrivesGoOn s w
  pub has : HasGrant s w (Waits (Commit timed)) (Some request) size
  pub writes : is_write (op_at s) ≡ true
  pub silent : AreSilent s has.held timed
  pub answered : IsAnsweredBy s w request answer
  pub status : status_of answer.results ≡ NFS4_OK
  pub queue : queue_at s w ≡ answer_message answer ∷ []
  pub sent : HasSent s w (asking_at s + work_at s + 2)

-- The report is on its way. The grant isn't held any more, and it is the only one on the file.
pub record Reporting (s : ReadyCall) (w : World) : Type 0 where
  pub request : Request
  pub held : Held
  pub timed : List TimedOut
  pub some : timed ≢ []
  pub silent : AreSilent s held timed
  pub args_are : request.args ≡ return_args held.number (report_of held timed)
  pub asked : IsAsked s w request
  pub caller : Caller s w (Waits (Report timed)) (Some request)
  pub writes : is_write (op_at s) ≡ true
  pub size : ℕ
  pub grant : Grant
  pub server : Serves s w (grant ∷ []) size
  pub client_is : grant.client ≡ s.client
  pub for_writing : grant.rw ≡ true
  -- the report names the components by the objects that they have
  pub named : (t : TimedOut) → In t timed → NamesItsObject s held t.ask.component
  pub queue : queue_at s w ≡ request_message request ∷ []
  pub sent : HasSent s w (asking_at s + work_at s + 3)

-- It was taken as a loss, and the answer is on its way.
pub record Reported (s : ReadyCall) (w : World) : Type 0 where
  pub request : Request
  pub answer : Answer
  pub timed : List TimedOut
  pub answered : IsAnsweredBy s w request answer
  pub taken : is_loss_taken answer ≡ true
  pub some_lost : lost_at s ≢ []
  pub caller : Caller s w (Waits (Report timed)) (Some request)
  pub writes : is_write (op_at s) ≡ true
  pub queue : queue_at s w ≡ answer_message answer ∷ []
  pub sent : HasSent s w (asking_at s + work_at s + 4)

-- ---- all stages

pub data Stage (s : ReadyCall) (w : World) : Type 0 where
  Returns : Returning s w → Stage s w
  WasReturned : Returned s w → Stage s w
  AsksFirst : Asking s w → Stage s w
  Recalls : Recalling s w → Stage s w
  AsksAgain : AskingAgain s w → Stage s w
  Gets : Getting s w → Stage s w
  Works : Working s w → Stage s w
  Commits : Committing s w → Stage s w
  WasCommitted : Committed s w → Stage s w
  Reports : Reporting s w → Stage s w
  WasReported : Reported s w → Stage s w

-- The call left its client idle, which holds a grant on the file exactly if the server has one of it there. The size is at least
-- where a write ends. The other clients and the drives are as they were, but for the clients that gave their grants back, and for
-- objects and lanes.
pub record IsRested (s : ReadyCall) (w : World) : Type 0 where
  pub grants : List Grant
  pub server : Serves s w grants (size_after (kept_at s) (op_at s))
  pub at : ClientAt
  pub there : at_number w.clients s.client ≡ Some at
  pub idle : IsIdle at
  pub alike : is_some (held_by at (file_at_call s)) ≡ is_some (grant_of grants s.client)
  pub others : (g : Grant) → In g grants → (g.client ≡ s.client) ⊎ In g (kept_at s).grants
  pub aside : OthersRest s w grants []
  pub drives : DrivesGoOn s w

-- the call is over: the client has none, and nothing is on its way
pub record IsDone (s : ReadyCall) (w : World) : Type 0 where
  pub at : ClientAt
  pub there : at_number w.clients s.client ≡ Some at
  pub free : at.state.call ≡ None
  pub queue : queue_at s w ≡ []
  pub sent : HasSent s w (asking_at s + work_at s + 4)
  pub rests : lost_at s ≡ [] → IsRested s w

-- What a move leaves: a further stage, and no line tells that the call ended; or the call is over, and its lines tell that it
-- ended in ok, once.
pub data GoesOn (s : ReadyCall) (w : World) (lines : List Line) : Type 0 where
  Further : Stage s w → list_any (ends_call s.client) lines ≡ false → GoesOn s w lines
  Over : IsDone s w → EndsOk s.client (op_at s) lines → GoesOn s w lines
