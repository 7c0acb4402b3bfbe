-- The state of each client, read off the lines.
use Rattle.std.specs.Prelude.{ℕ, Bool, false, true, ◌||◌, ◌==◌, if◌then◌else◌, List, [], slice_get, Option, Some, None, is_some, option_map, Result, Ok, Err}
use Rattle.std.specs.List.{list_any, fold}
use Rattle.client_rules.specs.Messages.{Message, Step}
use Rattle.client_rules.specs.Steps.{new_client, calls}
use Rattle.client_rules.specs.Envelopes.{message_in}
use Rattle.client_rules.specs.History.{Input, Calls, Hears, TimesOut, Leaves, Resends, step}
use Rattle.scenario_text.specs.declared.event.Event.{Event}
use Rattle.scenario_text.specs.declared.event.Event.TheVariants as event
use Rattle.scenario_text.specs.declared.event.Sender.TheVariants as sender
use Rattle.scenario_text.specs.declared.line.Party.{Party}
use Rattle.scenario_text.specs.declared.line.Party.TheVariants as party
use Rattle.scenario_text.specs.declared.line.Line.{Line}
use Rattle.scenario_text.specs.declared.line.Line.TheVariants as line
use Rattle.world_history.specs.ClientNames.{CallOp, CallErr}
use Rattle.world_history.specs.State.{ClientAt}
use Rattle.world_history.specs.declared.messages.Sent.{Sent}
use Rattle.world_history.specs.Spelled.{node_of}
use Rattle.world_history.specs.Handed.{is_write_out, wrote_in}
use Rattle.world_history.specs.Moves.{op_of}
use Rattle.world_history.specs.Reading.{sent_after}

-- the client behind a step that it made on an input
abbrev pub went : ClientAt → Input → Step → ClientAt
went a i s = record a { state = s.client; wrote = wrote_in a i || list_any is_write_out s.sends }

-- its step on an input
abbrev pub goes : Input → ClientAt → ClientAt
goes i a = went a i (step a.state i)

-- a call that is refused changes nothing
abbrev pub called_as : ClientAt → CallOp → Result Step CallErr → ClientAt
called_as a op (Err e) = a
called_as a op (Ok s) = went a (Calls op) s

-- it is called
abbrev pub called : CallOp → ClientAt → ClientAt
called op a = called_as a op (calls a.state op)

-- one with a pending call doesn't leave
abbrev pub left : ClientAt → ClientAt
left a = if is_some a.state.call then a else goes Leaves a

-- it is stopped
abbrev pub halted : ClientAt → ClientAt
halted a = record a { stopped = true }

-- it hears what the bytes of a message spell for it, if anything
abbrev pub hears_read : ClientAt → (from : Party) → Option Message → ClientAt
hears_read a from None = a
hears_read a from (Some m) = goes (Hears (node_of from) m) a

-- a message comes to it; one that was stopped is deaf
abbrev pub hears : Sent → ClientAt → ClientAt
hears s a = if a.stopped then a else hears_read a s.from (message_in (node_of s.from) s.bytes)

-- the party is client c
abbrev pub is_client : (c : ℕ) → Party → Bool
is_client c (party.Client k) = k == c
is_client c p = false

-- the client behind the delivery of a message, which may be for another party
abbrev pub hears_sent : (c : ℕ) → Option ClientAt → Option Sent → Option ClientAt
hears_sent c a None = a
hears_sent c a (Some s) = if is_client c s.to then option_map (hears s) a else a

-- a change of client k changes client c exactly where k is c
abbrev pub where_it_is : (k c : ℕ) → (ClientAt → ClientAt) → Option ClientAt → Option ClientAt
where_it_is k c becomes a = if k == c then option_map becomes a else a

-- client c behind the first line of an event
abbrev pub client_after_event : (c : ℕ) → Option ClientAt → Event → Option ClientAt
client_after_event c a (event.Client k) =
    if k == c then Some (record { state = new_client k 1; stopped = false; wrote = false }) else a
client_after_event c a (event.Do k x) = where_it_is k c (called (op_of x)) a
client_after_event c a (event.Call k x) = where_it_is k c (called (op_of x)) a
client_after_event c a (event.Resend (sender.Client k)) = where_it_is k c (goes Resends) a
client_after_event c a (event.Leave k) = where_it_is k c left a
client_after_event c a (event.Stop k) = where_it_is k c halted a
client_after_event c a e = a

-- the messages so far, and client c
pub record ClientSeen : Type 0 where
  pub sent : List Sent
  pub client : Option ClientAt

-- client c behind any line
abbrev pub client_after_line : (c : ℕ) → ClientSeen → Line → Option ClientAt
client_after_line c s (line.Event e) = client_after_event c s.client e
client_after_line c s (line.Delivered number delivery) = hears_sent c s.client (slice_get s.sent number)
client_after_line c s (line.TimedOut k component) = where_it_is k c (goes (TimesOut component)) s.client
client_after_line c s l = s.client

-- what is known behind a line
abbrev pub sees_client : (c : ℕ) → ClientSeen → Line → ClientSeen
sees_client c s l = record { sent = sent_after s.sent l; client = client_after_line c s l }

-- and behind all of a history
abbrev pub client_seen : (c : ℕ) → List Line → ClientSeen
client_seen c h = fold (sees_client c) (record { sent = []; client = None }) h

-- client c after a history
abbrev pub client_after : List Line → (c : ℕ) → Option ClientAt
client_after h c = (client_seen c h).client
