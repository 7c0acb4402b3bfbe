-- What the call of each client has met, read off the lines.
use Rattle.std.specs.Prelude.{ℕ, ◌==◌, if◌then◌else◌, List, [], slice_get, Option, Some, None, is_some, Result, Ok, Err}
use Rattle.std.specs.List.{fold}
use Rattle.world_history.specs.ClientNames.{Client, CallOp, CallErr, Held, Outcome}
use Rattle.client_rules.specs.Messages.{Message, Step}
use Rattle.client_rules.specs.Steps.{calls}
use Rattle.client_rules.specs.Envelopes.{message_in}
use Rattle.client_rules.specs.History.{Input, Calls, Hears, TimesOut, Leaves, Resends, step}
use Rattle.scenario_text.specs.declared.event.Event.{Event}
use Rattle.scenario_text.specs.declared.event.Event.TheVariants as event
use Rattle.scenario_text.specs.declared.event.Sender.TheVariants as sender
use Rattle.scenario_text.specs.declared.line.Party.{Party}
use Rattle.scenario_text.specs.declared.line.Line.{Line}
use Rattle.scenario_text.specs.declared.line.Line.TheVariants as line
use Rattle.world_history.specs.State.{ClientAt}
use Rattle.world_history.specs.declared.messages.Sent.{Sent}
use Rattle.world_history.specs.Spelled.{node_of}
use Rattle.world_history.specs.Moves.{op_of}
use Rattle.cause_law.specs.Met.{Met, met_after}
use Rattle.cause_law.specs.Caused.{call_in}
use Rattle.cause_law.specs.ReadClients.{ClientSeen, is_client, sees_client}

-- ---- what comes to a client in a line

-- a call, unless it is refused
abbrev pub call_input : CallOp → Result Step CallErr → Option Input
call_input op (Ok s) = Some (Calls op)
call_input op (Err e) = None

-- where it is this client
abbrev pub only_for : (k c : ℕ) → Option Input → Option Input
only_for k c i = if k == c then i else None

abbrev pub event_input : (c : ℕ) → ClientAt → Event → Option Input
event_input c a (event.Do k x) = only_for k c (call_input (op_of x) (calls a.state (op_of x)))
event_input c a (event.Call k x) = only_for k c (call_input (op_of x) (calls a.state (op_of x)))
event_input c a (event.Resend (sender.Client k)) = only_for k c (Some Resends)
event_input c a (event.Leave k) = only_for k c (if is_some a.state.call then None else Some Leaves)
event_input c a e = None

-- what it reads in a message
abbrev pub read_input : (from : Party) → Option Message → Option Input
read_input from None = None
read_input from (Some m) = Some (Hears (node_of from) m)

-- one that was stopped reads none
abbrev pub sent_input : (c : ℕ) → ClientAt → Option Sent → Option Input
sent_input c a None = None
sent_input c a (Some s) =
    if is_client c s.to
    then (if a.stopped then None else read_input s.from (message_in (node_of s.from) s.bytes))
    else None

-- what comes to client c in a line, behind these messages
abbrev pub line_input : (c : ℕ) → List Sent → Line → ClientAt → Option Input
line_input c sent (line.Event e) a = event_input c a e
line_input c sent (line.Delivered number delivery) a = sent_input c a (slice_get sent number)
line_input c sent (line.TimedOut k component) a = only_for k c (Some (TimesOut component))
line_input c sent l a = None

-- ---- its last step

-- the call that it was about, the grants that were held before, what that call has met, and how it ended there, if it did
pub record LastStep : Type 0 where
  pub call : Option CallOp
  pub held : List Held
  pub met : List Met
  pub outcome : Option Outcome

-- a further step
abbrev pub stepped : Client → LastStep → Input → LastStep
stepped x t i = record {
  call = call_in x i;
  held = x.held;
  met = met_after x t.met i;
  outcome = (step x i).outcome;
}

-- if anything comes
abbrev pub after_input : Client → LastStep → Option Input → LastStep
after_input x t None = t
after_input x t (Some i) = stepped x t i

-- and the client is there
abbrev pub after_line : Option ClientAt → (ClientAt → Option Input) → LastStep → LastStep
after_line None input t = t
after_line (Some a) input t = after_input a.state t (input a)

-- ---- all lines

-- a client, and its last step
pub record CallSeen : Type 0 where
  pub seen : ClientSeen
  pub last : LastStep

-- behind a line
abbrev pub sees_call : (c : ℕ) → CallSeen → Line → CallSeen
sees_call c s l = record {
  seen = sees_client c s.seen l;
  last = after_line s.seen.client (line_input c s.seen.sent l) s.last;
}

-- and behind all of a history
abbrev pub call_seen : (c : ℕ) → List Line → CallSeen
call_seen c h = fold (sees_call c) (record {
  seen = record { sent = []; client = None };
  last = record { call = None; held = []; met = []; outcome = None };
}) h
