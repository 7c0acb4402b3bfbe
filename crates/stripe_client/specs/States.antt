-- The state of a client in the code, and what a step has made so far, as the rules have them.
use Rattle.std.specs.Prelude.{List, [], ◌∷◌, Option, Some, None, option_map, if◌then◌else◌}
use Rattle.call_io.specs.Phases.{phase_of}
use Rattle.client_rules.specs.declared.client.Client.{Client}
use Rattle.client_rules.specs.declared.calls.Call.{Call}
use Rattle.client_rules.specs.declared.steps.Done.{Done}
use Rattle.client_rules.specs.Steps.{new_client}
use Rattle.stripe_client.specs.declared.state.PendingCall.{PendingCall}
use Rattle.stripe_client.specs.declared.state.State.{State}
use Rattle.stripe_client.specs.declared.state.Made.{Made}

-- what there may be, as a list
abbrev pub list_of : {X : Type 0} → Option X → List X
list_of None = []
list_of (Some x) = x ∷ []

-- a pending call
abbrev pub call_of : PendingCall → Call
call_of p = record { op = p.op; phase = phase_of p.phase }

-- the client
abbrev pub client_of : State → Client
client_of s = record {
  number = s.number;
  next = s.next;
  outstanding = s.outstanding;
  held = s.held;
  due = s.due;
  call = option_map call_of s.call;
}

-- a client that is over: it has nothing, and no number is left for a request
abbrev pub over : Client → Client
over c = new_client c.number 0

-- in the middle of a step; a request that the step sent is the outstanding one
abbrev pub done_of : State → Made → Done
done_of s m = record {
  client = client_of s;
  recalls = list_of m.recall;
  requests = if m.asked then list_of s.outstanding else [];
  commands = m.commands;
  outcome = m.outcome;
}
