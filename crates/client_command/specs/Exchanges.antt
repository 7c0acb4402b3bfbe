-- The exchanges of a client with its nodes, one after the other.
use Rattle.std.specs.Prelude.{◌≡◌, ◌⊎◌, ℕ, zero, suc, nat_le, List, [], ◌∷◌, ◌++◌, length, slice_range, ⊤, Option, Some, None, IsSome, IsTrue, if◌then◌else◌}
use Rattle.std.specs.Int.{w64, from_be_bytes}
use Rattle.osd_bytes.specs.Connections.{Traffic}
use Rattle.osd_bytes.specs.Counts.{Faults}
use Rattle.osd_bytes.specs.declared.links.Links.{Ghosts as LinksGhosts}
use Rattle.osd_lists.specs.declared.node.Node.{Node}
use Rattle.osd_lists.specs.declared.node.Node.TheVariants.{Server, Drive, Client as AClient}
use Rattle.osd_bytes.specs.Asking.{Answered, IsCutOff}
use Rattle.layout_ops.specs.declared.messages.Request.{Request}
use Rattle.client_rules.specs.declared.client.Client.{Client}
use Rattle.client_rules.specs.declared.client.Outgoing.TheVariants.{Asks}
use Rattle.client_rules.specs.declared.outcomes.Outcome.{Outcome}
use Rattle.client_rules.specs.Messages.{Step}
use Rattle.client_rules.specs.Envelopes.{bytes_of, on_bytes}
use Rattle.client_rules.specs.Steps.{awaited_component, times_out}
use Rattle.stripe_client.specs.declared.sending.Sent.{Sent}
use Rattle.stripe_client.specs.Sending.{spelled}
use Rattle.reply_matching.specs.Answers.{is_answer_to}
use Rattle.client_command.specs.declared.drive.TheConstants.{NONCE_AT, NONCE_END}
use Rattle.client_command.specs.declared.notices.Notice.{Notice}
use Rattle.client_command.specs.declared.notices.Notice.TheVariants.{Ended, TimedOut}

-- a client in the midst of its exchanges: the messages that wait to be sent, what was told of its call so far, and what
-- is known of the links
pub record Dealing : Type 0 where
  pub client : Client
  pub waiting : List Sent
  pub notices : List Notice
  pub told : Option Traffic
  pub faults : Faults

abbrev pub dealing : Client → List Sent → List Notice → Option Traffic → Faults → Dealing
dealing client waiting notices told faults =
    record { client = client; waiting = waiting; notices = notices; told = told; faults = faults }

abbrev pub dealing_at : {A : Type 0} → LinksGhosts A → (links : A) → Client → List Sent → List Notice → Dealing
dealing_at l links client waiting notices = dealing client waiting notices (l.told links) (l.faults links)

-- what else happened on the links
abbrev pub on_links : Option Traffic → Faults → Dealing → Dealing
on_links told faults s = record s { told = told; faults = faults }

-- one after the other
abbrev pub InTurn : (Sent → Dealing → Dealing → Type 0) → List Sent → Dealing → Dealing → Type 0
InTurn R [] s t = t ≡ s
InTurn R (m ∷ ms) s t = (u : Dealing) × R m s u × InTurn R ms u t

-- ---- the client's steps

-- how a step ended the call
abbrev pub ended : Option Outcome → List Notice
ended None = []
ended (Some o) = Ended o ∷ []

-- what a step sends waits behind all other messages, and how it ended the call is told
abbrev pub stepped : Dealing → Step → Dealing
stepped s t = record s {
  client = t.client;
  waiting = s.waiting ++ spelled t.sends;
  notices = s.notices ++ ended t.outcome;
}

-- a record comes, where one does
abbrev pub heard : Dealing → (from : Node) → Option (List ℕ) → Dealing
heard s from None = s
heard s from (Some bytes) = stepped s (on_bytes s.client from bytes)

-- the component of a command, where its reply is awaited
abbrev pub late : Client → (command : List ℕ) → Option ℕ
late c command =
    if nat_le NONCE_END (length command)
    then awaited_component c (from_be_bytes w64 (slice_range command NONCE_AT NONCE_END))
    else None

-- it times out, which is told first
abbrev pub timed_out : Dealing → Option ℕ → Dealing
timed_out s None = s
timed_out s (Some k) = stepped (record s { notices = s.notices ++ TimedOut k ∷ [] }) (times_out s.client k)

-- the record of a drive comes, where one does, and the command times out where its reply is awaited still
abbrev pub answered : Dealing → (drive : ℕ) → (command : List ℕ) → Option (List ℕ) → Dealing
answered s drive command came =
    timed_out (heard s (Drive drive) came) (late (heard s (Drive drive) came).client command)

-- the answer to a request is awaited still
abbrev pub AwaitsStill : Client → (message : List ℕ) → Type 0
AwaitsStill c message = (r : Request) × (c.outstanding ≡ Some r) × (message ≡ bytes_of (Asks r))

-- a message is this one to the server
abbrev pub IsRequest : Sent → (message : List ℕ) → Type 0
IsRequest m message = (m.to ≡ Server) × (m.bytes ≡ message)

-- ---- an exchange

-- no record came of a first exchange, and of a second one this
pub record AskedAgain (to : Node) (message : List ℕ) (told_before told : Option Traffic) (failed_before failed : Faults)
    (came : Option (List ℕ)) : Type 0 where
  pub told_between : Option Traffic
  pub failed_between : Faults
  pub first : Answered to message told_before told_between failed_before failed_between None
  pub second : Answered to message told_between told failed_between failed came

-- a node is asked, and if no record comes, once more
abbrev pub AskedTwice : Node → (message : List ℕ) → (told_before told : Option Traffic) → (failed_before failed : Faults)
    → Option (List ℕ) → Type 0
AskedTwice to message told_before told failed_before failed came =
    (IsSome came × Answered to message told_before told failed_before failed came)
    ⊎ AskedAgain to message told_before told failed_before failed came

-- so a drive is asked if a component's reply is awaited; else it is asked once
abbrev pub AskedFor : (awaited : Option ℕ) → Node → (message : List ℕ) → (told_before told : Option Traffic)
    → (failed_before failed : Faults) → Option (List ℕ) → Type 0
AskedFor None to message told_before told failed_before failed came =
    Answered to message told_before told failed_before failed came
AskedFor (Some k) to message told_before told failed_before failed came =
    AskedTwice to message told_before told failed_before failed came

-- a command goes to its drive
pub record AsksDrive (drive : ℕ) (command : List ℕ) (s t : Dealing) : Type 0 where
  pub came : Option (List ℕ)
  pub told : AskedFor (late s.client command) (Drive drive) command s.told t.told s.faults t.faults came
  pub dealt : t ≡ on_links t.told t.faults (answered s drive command came)

-- the record that came, where it answers the message: the client hears no other
abbrev pub answer_among : (message : List ℕ) → Option (List ℕ) → Option (List ℕ)
answer_among message None = None
answer_among message (Some bytes) = if is_answer_to message bytes then Some bytes else None

-- a message goes to the server, and the awaited answer comes: a record that answers it, and that the client takes
pub record AsksServer (message : List ℕ) (s t : Dealing) : Type 0 where
  pub came : List ℕ
  pub told : Answered Server message s.told t.told s.faults t.faults (Some came)
  pub answers : IsTrue (is_answer_to message came)
  pub dealt : t ≡ on_links t.told t.faults (heard s Server (Some came))
  pub taken : AwaitsStill t.client message → ⊥

-- no answer came, or one that the client doesn't take
abbrev pub IsLost : Option (List ℕ) → Client → (message : List ℕ) → Type 0
IsLost None c message = ⊤
IsLost (Some bytes) c message = AwaitsStill c message

-- a message goes to the server, and the awaited answer doesn't come
pub record LosesServer (message : List ℕ) (s t : Dealing) : Type 0 where
  pub came : Option (List ℕ)
  pub told : Answered Server message s.told t.told s.faults t.faults came
  pub dealt : t ≡ on_links t.told t.faults (heard s Server (answer_among message came))
  pub lost : IsLost (answer_among message came) t.client message

-- ---- all messages

-- a message is one exchange with its node; a client sends none to another client
abbrev pub WorksTo : Node → (message : List ℕ) → (s t : Dealing) → Type 0
WorksTo (Drive d) message s t = AsksDrive d message s t
WorksTo Server message s t = AsksServer message s t
WorksTo (AClient c) message s t = t ≡ s

abbrev pub Works : Sent → (s t : Dealing) → Type 0
Works m s t = WorksTo m.to m.bytes s t

abbrev pub Loses : Sent → (s t : Dealing) → Type 0
Loses m s t = (m.to ≡ Server) × LosesServer m.bytes s t

-- some of these messages were sent, and the next was to the server, whose answer didn't come
pub record LosesIn (ms : List Sent) (s t : Dealing) : Type 0 where
  pub sent : List Sent
  pub lost : Sent
  pub unsent : List Sent
  pub are : ms ≡ sent ++ lost ∷ unsent
  pub before : Dealing
  pub works : InTurn Works sent s before
  pub loses : Loses lost before t

-- all messages that wait are sent in order; what they bring waits then
abbrev pub WorksRounds : (rounds : ℕ) → (s t : Dealing) → Type 0
WorksRounds zero s t = t ≡ s
WorksRounds (suc n) s t = (u : Dealing) × WorksRounds n s u × InTurn Works u.waiting (record u { waiting = [] }) t

-- until none waits
abbrev pub WorksAll : (s t : Dealing) → Type 0
WorksAll s t = (rounds : ℕ) × WorksRounds rounds s t × (t.waiting ≡ [])

-- until the server's answer to one didn't come
abbrev pub LosesAll : (s : Dealing) → Client → List Notice → Option Traffic → Faults → Type 0
LosesAll s client notices told faults =
    (rounds : ℕ) × (u : Dealing) × WorksRounds rounds s u
    × (left : List Sent) × LosesIn u.waiting (record u { waiting = [] }) (dealing client left notices told faults)

-- ---- cut off for want of memory

-- an exchange was cut off, or there was no memory for what came of it
abbrev pub CutsExchange : Node → (message : List ℕ) → (told_before told : Option Traffic) → (failed_before failed : Faults) → Type 0
CutsExchange to message told_before told failed_before failed =
    IsCutOff to message told_before told failed_before failed
    ⊎ ((came : Option (List ℕ)) × Answered to message told_before told failed_before failed came)

-- no record came of a first exchange, and the second was cut off
pub record CutsAgain (to : Node) (message : List ℕ) (told_before told : Option Traffic) (failed_before failed : Faults) : Type 0 where
  pub told_between : Option Traffic
  pub failed_between : Faults
  pub first : Answered to message told_before told_between failed_before failed_between None
  pub cuts : CutsExchange to message told_between told failed_between failed

-- a drive is asked twice if a component's reply is awaited
abbrev pub CutsFor : (awaited : Option ℕ) → Node → (message : List ℕ) → (told_before told : Option Traffic)
    → (failed_before failed : Faults) → Type 0
CutsFor None to message told_before told failed_before failed = CutsExchange to message told_before told failed_before failed
CutsFor (Some k) to message told_before told failed_before failed =
    CutsExchange to message told_before told failed_before failed ⊎ CutsAgain to message told_before told failed_before failed

-- so the exchange of a message was, or the second with its drive
abbrev pub CutsTo : Node → (message : List ℕ) → (s : Dealing) → Option Traffic → Faults → Type 0
CutsTo (Drive d) message s told faults = CutsFor (late s.client message) (Drive d) message s.told told s.faults faults
CutsTo to message s told faults = CutsExchange to message s.told told s.faults faults

-- some of these messages were sent, and the exchange of the next was cut off
pub record CutsIn (ms : List Sent) (s : Dealing) (told : Option Traffic) (faults : Faults) : Type 0 where
  pub sent : List Sent
  pub cut : Sent
  pub unsent : List Sent
  pub are : ms ≡ sent ++ cut ∷ unsent
  pub before : Dealing
  pub works : InTurn Works sent s before
  pub cuts : CutsTo cut.to cut.bytes before told faults

-- all went so far, and no further: the next round didn't begin, or was cut off
abbrev pub CutsAll : (s : Dealing) → Option Traffic → Faults → Type 0
CutsAll s told faults =
    (rounds : ℕ) × (u : Dealing) × WorksRounds rounds s u
    × (((told ≡ u.told) × (faults ≡ u.faults)) ⊎ CutsIn u.waiting (record u { waiting = [] }) told faults)
