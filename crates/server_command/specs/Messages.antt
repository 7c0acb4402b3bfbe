-- The messages of a server in the midst of its work, one after the other.
use Rattle.std.specs.Prelude.{◌≡◌, ℕ, zero, suc, ◌==◌, ◌&&◌, Bool, true, false, List, [], ◌∷◌, ◌++◌, Option, Some, None, Result, Ok}
use Rattle.osd_bytes.specs.Clocks.{TellsTime}
use Rattle.osd_bytes.specs.Connections.{after_notes}
use Rattle.osd_lists.specs.declared.node.Node.{Node}
use Rattle.osd_lists.specs.declared.node.Node.TheVariants.{Server as TheServer, Drive, Client}
use Rattle.osd_bytes.specs.Asking.{Answered, Ends}
use Rattle.osd_bytes.specs.Inboxes.{HasPutCause, PutsFrame}
use Rattle.layout_ops.specs.declared.err.OpErr.{OpErr}
use Rattle.layout_ops.specs.declared.envelope.Envelope.{Envelope}
use Rattle.layout_ops.specs.declared.envelope.Envelope.TheVariants.{Request, RecallAnswer}
use Rattle.layout_ops.specs.Reading.{envelope_of}
use Rattle.server_rules.specs.declared.server.Server.{Server}
use Rattle.server_rules.specs.Envelopes.{on_bytes}
use Rattle.server_requests.specs.declared.outgoing.Sent.{Sent}
use Rattle.server_requests.specs.Sending.{all_sent}
use Rattle.server_command.specs.Notes.{note_texts}
use Rattle.server_command.specs.Steps.{ServerStep}
use Rattle.server_command.specs.Steps as steps

-- a server in the midst of its work: the messages that wait to be sent, whether the accepted connection took all that
-- was put on it so far, the steps that the server has done, and what is known of the links and the clock
pub record Serving : Type 0 where
  pub server : Server
  pub waiting : List Sent
  pub stands : Bool
  pub done : List ServerStep
  pub ends : Ends

abbrev pub serving : Server → List Sent → Bool → List ServerStep → Ends → Serving
serving server waiting stands done ends =
    record { server = server; waiting = waiting; stands = stands; done = done; ends = ends }

-- one after the other
abbrev pub InTurn : {A : Type 0} → (A → Serving → Serving → Type 0) → List A → Serving → Serving → Type 0
InTurn R [] s t = t ≡ s
InTurn R (x ∷ xs) s t = (u : Serving) × R x s u × InTurn R xs u t

-- ---- a record

-- a record of a node is handled at the next time of the clock; what the server notes then is told, and what that gives
-- to send waits behind all other messages
pub record Handles (from : Node) (message : List ℕ) (s t : Serving) : Type 0 where
  pub time : ℕ
  -- what the placer named
  pub chosen : List ℕ
  pub tells : TellsTime s.ends.times t.ends.times time
  pub server : t.server ≡ (on_bytes s.server time chosen from message).state
  pub waiting : t.waiting ≡ s.waiting ++ all_sent (on_bytes s.server time chosen from message).sends
  pub stands : t.stands ≡ s.stands
  pub done : t.done ≡ s.done ++ steps.Hears time chosen from message ∷ []
  pub told : t.ends.told ≡
      after_notes (note_texts (on_bytes s.server time chosen from message).notes) s.ends.told
  pub faults : t.ends.faults ≡ s.ends.faults

-- ---- a message to a drive

-- the record that came, where one did, is handled
abbrev pub Hears : (drive : ℕ) → Option (List ℕ) → (s t : Serving) → Type 0
Hears drive None s t = t ≡ s
Hears drive (Some bytes) s t = Handles (Drive drive) bytes s t

-- one exchange
pub record AsksDrive (drive : ℕ) (message : List ℕ) (s t : Serving) : Type 0 where
  pub came : Option (List ℕ)
  pub between : Ends
  pub answered : Answered (Drive drive) message s.ends.told between.told s.ends.faults between.faults came
  pub times : between.times ≡ s.ends.times
  pub hears : Hears drive came (record s { ends = between }) t

-- ---- a message to who sent the record, or to another

-- it goes out on the accepted connection, or a part of it
pub record PutsAnswer (message : List ℕ) (s t : Serving) : Type 0 where
  pub put : PutsFrame t.stands message s.ends.told t.ends.told
  pub cause : HasPutCause t.stands message s.ends.faults t.ends.faults
  pub server : t.server ≡ s.server
  pub waiting : t.waiting ≡ s.waiting
  pub done : t.done ≡ s.done
  pub times : t.ends.times ≡ s.ends.times

-- or nothing does
abbrev pub PutsIf : Bool → (message : List ℕ) → (s t : Serving) → Type 0
PutsIf true message s t = PutsAnswer message s t
PutsIf false message s t = t ≡ s

-- the node sent the record that is worked
abbrev pub is_sender : (sender : Option Node) → Node → Bool
is_sender (Some TheServer) TheServer = true
is_sender (Some (Client c)) (Client d) = c == d
is_sender sender to = false

-- ---- any message

-- by whom it is for: one to a drive is an exchange; one to who sent the record is put, unless one before it wasn't put
-- whole; one to any other client is lost
abbrev pub WorksTo : Node → (sender : Option Node) → (message : List ℕ) → (s t : Serving) → Type 0
WorksTo (Drive d) sender message s t = AsksDrive d message s t
WorksTo TheServer sender message s t = PutsIf (is_sender sender TheServer && s.stands) message s t
WorksTo (Client c) sender message s t = PutsIf (is_sender sender (Client c) && s.stands) message s t

abbrev pub Works : (sender : Option Node) → Sent → (s t : Serving) → Type 0
Works sender m s t = WorksTo m.to sender m.bytes s t

-- ---- all messages

-- all messages that wait, in order; what they bring waits then
abbrev pub Round : (Sent → Serving → Serving → Type 0) → (s t : Serving) → Type 0
Round R s t = InTurn R s.waiting (record s { waiting = [] }) t

abbrev pub Rounds : (Sent → Serving → Serving → Type 0) → (rounds : ℕ) → (s t : Serving) → Type 0
Rounds R zero s t = t ≡ s
Rounds R (suc n) s t = (u : Serving) × Rounds R n s u × Round R u t

-- until none waits
abbrev pub UntilNone : (Sent → Serving → Serving → Type 0) → (s t : Serving) → Type 0
UntilNone R s t = (rounds : ℕ) × Rounds R rounds s t × (t.waiting ≡ [])

abbrev pub WorksAll : (sender : Option Node) → (s t : Serving) → Type 0
WorksAll sender s t = UntilNone (Works sender) s t

-- ---- a record of the accepted connection

-- who sent it: the client that a request or a recall's answer names, else the program that gives orders
abbrev pub sender_in : Result Envelope OpErr → Node
sender_in (Ok (Request q)) = Client q.client
sender_in (Ok (RecallAnswer a)) = Client a.client
sender_in r = TheServer

abbrev pub sender_of : List ℕ → Node
sender_of message = sender_in (envelope_of message)

-- it is handled, and then what it brings is worked until nothing waits
abbrev pub ServesRecord : (message : List ℕ) → (s t : Serving) → Type 0
ServesRecord message s t =
    (u : Serving) × Handles (sender_of message) message s u × WorksAll (Some (sender_of message)) u t
