-- What the parts of the proof that the requests of clients go on need, and give.
use Rattle.std.specs.Prelude.{◌≡◌, ◌+◌, ◌++◌, ◌∷◌, [], ℕ, ◌<◌, Bool, false, List, Some, Ok}
use Rattle.osd_lists.specs.declared.node.Node.TheVariants as node
use Rattle.scenario_text.specs.declared.line.Line.{Line}
use Rattle.scenario_text.specs.declared.names.TheConstants.{CLIENTS}
use Rattle.layout_ops.specs.declared.messages.Answer.{Answer}
use Rattle.server_rules.specs.Grants.{grant_of}
use Rattle.client_rules.specs.Calls.{is_write}
use Rattle.client_rules.specs.History.{step}
use Rattle.client_rules.specs.Layouts.{taken}
use Rattle.world_history.specs.ServerNames.{Server, File, Grant, ClientRequest, Outgoing, Answers}
use Rattle.server_rules.specs.Files.{Step, file_at, at_file}
use Rattle.server_rules.specs.Requests.{serves, answer_with}
use Rattle.server_rules.specs.Slots.{slot_of, keep}
use Rattle.server_rules.specs.Laws.{last_of}
use Rattle.world_history.specs.ClientNames.{Client, CallOp, Held, Request}
use Rattle.world_history.specs.Handed.{op_in}
use Rattle.world_history.specs.State.{World}
use Rattle.world_history.specs.Sending.{Move, move}
use Rattle.server_rules.specs.History.{Input, Hears}
use Rattle.server_rules.specs.Messages.{Asks}
use Rattle.history_law.specs.Doing.{input_in}
use Rattle.history_law.specs.Answers.{AnswersOnly, Never}
use Rattle.exchange_law.specs.Held.{IsGiven}
use Rattle.exchange_law.specs.InStep.{ClientsAreInStep}
use Rattle.exchange_law.specs.Meeting.{ClientsAgree, Reads}
use Rattle.exchange_law.specs.Taking.{AnswersAreOwn}
use Rattle.cause_law.specs.Readable.{FilesAndAnswersAreReadable}
use Rattle.fence_law.specs.State.{State}
use Rattle.fence_law.specs.Machine.{after_all}
use Rattle.file_simulation.specs.Requests.{phase_of, kept_by, IsOutstanding, RequestsAgree}
use Rattle.file_simulation.specs.Relation.{client_of}
use Rattle.file_simulation.specs.ClientEvents.{Going, going_in, at_first, ended}
use Rattle.file_simulation.specs.ServerEvents.{asker, is_served}
use Rattle.relation_law.specs.Requests.{HoldsWhatReturns}
use Rattle.relation_law.specs.Steps.{FollowsWhole, whole_behind, KeptGoesOn, ComponentsGoOn, RequestsGoOn}

-- the machine behind the first line of a client's step, and behind the line that tells how its call has ended
abbrev pub first_behind : State → (file : ℕ) → Going → State
first_behind s file j = after_all s (at_first s file j.client j.state j.input)

abbrev pub ended_behind : State → (file : ℕ) → Going → State
ended_behind s file j =
    after_all (first_behind s file j)
    (ended (first_behind s file j) file j.client (op_in j.state j.input) (step j.state j.input).outcome)

-- Where a client asks to return a grant of the file, the machine's client holds one.
abbrev pub ReturnsAreHeld : Type 0
ReturnsAreHeld =
    (w : World) (h : List Line) (m : Move) (f g : File) (s : State) → FollowsWhole w h m f g s → (j : Going) →
    going_in w m.action ≡ Some j → (r : Request) → (step j.state j.input).client.outstanding ≡ Some r →
    r.sequence ≡ j.state.next → r.file ≡ f.kept.number →
    HoldsWhatReturns (ended_behind s f.kept.number j) j.client (phase_of (step j.state j.input).client.call) r.args

-- A step of the server on a client's request keeps what the machine has of this client's requests.
abbrev pub OwnRequestsGoOn : Type 0
OwnRequestsGoOn =
    (w : World) (h : List Line) (m : Move) (f g : File) (s : State) → (k : FollowsWhole w h m f g s) → (i : Input) →
    input_in w m.action ≡ Some i → (c : ℕ) → c < CLIENTS → asker i ≡ Some c →
    RequestsAgree f.kept.number f.kept.map (whole_behind k) (move w m).world.server c (client_of (move w m).world c)

-- a new request of a client comes
abbrev pub is_served_in : Server → Input → Bool
is_served_in server (Hears now (node.Client c) (Asks q)) = is_served server c q
is_served_in server i = false

-- The server reads in q the outstanding request of client c, which is the next one for it.
pub record IsItsRequest (w : World) (c : ℕ) (q : ClientRequest) : Type 0 where
  pub request : Request
  pub outstanding : (client_of w c).outstanding ≡ Some request
  pub reads : Reads q request
  pub next : q.sequence ≡ last_of (slot_of w.server.slots c) + 1

-- The client's grant on a file, as the server has it then, is what the client takes from the answer.
pub record GivesGrant (s : Server) (g : File) (a : Answer) (op : CallOp) (c : ℕ) : Type 0 where
  pub grant : Grant
  pub has : grant_of g.kept.grants c ≡ Some grant
  pub writes : grant.rw ≡ is_write op
  pub held : Held
  pub taken_is : taken a op ≡ Ok held
  pub given : IsGiven s.drives g.kept grant held

-- what is known of the world, and these two
pub record RequestsLaws : Type 0 where
  pub in_step : ClientsAreInStep
  pub agree : ClientsAgree
  pub readable : FilesAndAnswersAreReadable
  pub own : AnswersAreOwn
  pub held : ReturnsAreHeld
  pub served : OwnRequestsGoOn

-- The server has answered a new request: the answer goes out last, and is kept in the client's slot. On a file that is there
-- it is of what the request did there.
pub record IsAnsweredBy (s : Server) (now : ℕ) (chosen : List ℕ) (q : ClientRequest) (t : Step) : Type 0 where
  pub answer : Answer
  pub others : List Outgoing
  pub none : AnswersOnly Never others
  pub sends : t.sends ≡ others ++ Answers answer ∷ []
  pub slots : t.state.slots ≡ keep s.slots (record { client = q.client; last = q.sequence; kept = answer })
  pub drives : t.state.drives ≡ s.drives
  pub on_file : (f : File) → file_at s.files q.file ≡ Some f →
      (answer ≡ answer_with s q (serves (at_file s chosen f) s.next_grant s.format now q.client q.args))
      × (file_at t.state.files q.file ≡ Some (serves (at_file s chosen f) s.next_grant s.format now q.client q.args).going.file)

-- what is known of the world, and of the parts of the relation that the answer to a LAYOUTGET needs
pub record OwnLaws : Type 0 where
  pub in_step : ClientsAreInStep
  pub agree : ClientsAgree
  pub readable : FilesAndAnswersAreReadable
  pub kept : KeptGoesOn
  pub components : ComponentsGoOn

-- ---- for the guards

-- what is known of the world
pub record MayLaws : Type 0 where
  pub in_step : ClientsAreInStep
  pub readable : FilesAndAnswersAreReadable
  pub own : AnswersAreOwn

-- The answer that client x takes is the one that the server keeps for its outstanding request.
pub record TakesOwnAnswer (w : World) (c : ℕ) (x : Client) (a : Answer) : Type 0 where
  pub request : Request
  pub outstanding : x.outstanding ≡ Some request
  pub served : last_of (slot_of w.server.slots c) ≡ request.sequence
  pub kept : kept_by (slot_of w.server.slots c) request ≡ Some a

-- Request q, which the server carries out, is the outstanding one of client c, as the machine has it.
pub record CarriesOut (w : World) (s : State) (f : File) (c : ℕ) (q : ClientRequest) : Type 0 where
  pub request : Request
  pub outstanding : (client_of w c).outstanding ≡ Some request
  pub reads : Reads q request
  pub slot : s.slot c ≡ last_of (slot_of w.server.slots c)
  pub next : last_of (slot_of w.server.slots c) + 1 ≡ request.sequence
  pub waits : IsOutstanding f.kept.number f.kept.map s (slot_of w.server.slots c) c (client_of w c) request

-- Requests follow from the components.
abbrev pub RequestsFollow : Type 0
RequestsFollow = ComponentsGoOn → RequestsGoOn
