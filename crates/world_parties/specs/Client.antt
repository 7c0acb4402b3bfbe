-- What a client of the code does in a step.
use Rattle.std.specs.Prelude.{ℕ, Bool, false, List, [], ◌∷◌, ◌||◌, ◌≡◌, Option, Some, None, Result, Ok, Err, is_some, if◌then◌else◌}
use Rattle.std.specs.List.{list_any}
use Rattle.std.specs.Option.{option_map}
use Rattle.osd_lists.specs.declared.node.Node.{Node}
use Rattle.client_rules.specs.Calls.{bytes_of}
use Rattle.client_rules.specs.Messages.{Step, still}
use Rattle.client_rules.specs.Envelopes.{on_bytes}
use Rattle.client_rules.specs.Steps.{calls, times_out, leaves, resent}
use Rattle.stripe_client.specs.Sending.{spelled}
use Rattle.scenario_text.specs.declared.line.CallKind.{CallKind}
use Rattle.scenario_text.specs.declared.line.Line.{Line}
use Rattle.scenario_text.specs.declared.line.Line.TheVariants as line
use Rattle.scenario_text.specs.declared.line.Outcome.TheVariants as outcome
use Rattle.scenario_text.specs.declared.line.Ending.TheVariants as ending
use Rattle.scenario_text.specs.declared.line.Refusal.TheVariants as refusal
use Rattle.world_history.specs.ClientNames.{CallOp, CallErr, Outcome}
use Rattle.world_history.specs.State.{ClientAt}
use Rattle.world_history.specs.Told.{kind_of, told_refusal}
use Rattle.world_history.specs.Handed.{end_line, pending_op, data_in}
use Rattle.world_network.specs.declared.acts.Act.{Act}
use Rattle.world_network.specs.Acts.{nothing, line_alone}
use Rattle.world_history.specs.Names.{known_outcome}
use Rattle.world_parties.specs.declared.client.CallData.{CallData}
use Rattle.world_parties.specs.Posting.{is_write, postings}

-- ---- what is told of a call

-- what lines tell of it
abbrev pub data_of_call : CallOp → CallData
data_of_call op = record { kind = kind_of op; bytes = data_in (Some op) }

-- its data bytes, none without a call
abbrev pub bytes_in : Option CallData → ℕ
bytes_in None = 0
bytes_in (Some d) = d.bytes

-- how a call of that kind ended, as a line, where it did
abbrev pub ended : (client : ℕ) → Option CallData → Option Outcome → List Line
ended c (Some d) (Some o) = end_line c (known_outcome d.kind o)
ended c d o = []

-- ---- a step

-- the client then, and what it tells and sends
pub record Acted : Type 0 where
  pub client : ClientAt
  pub act : Act

-- the code does that
pub record Acts (e : Acted) (new : ClientAt) (act : Act) : Type 0 where
  pub client : new ≡ e.client
  pub act_is : act ≡ e.act

-- a step about a call, of which a WRITE was sent before or not
abbrev pub acted : (client : ℕ) → ClientAt → Option CallOp → (wrote : Bool) → Step → Acted
acted c a op wrote s = record {
  client = record a { state = s.client; wrote = wrote || list_any is_write (spelled s.sends) };
  act = record {
    told = ended c (option_map data_of_call op) s.outcome;
    posts = postings c wrote (data_in op) (spelled s.sends);
  };
}

-- a step about the pending call
abbrev pub goes_on : (client : ℕ) → ClientAt → Step → Acted
goes_on c a s = acted c a (pending_op a.state) a.wrote s

-- only a line is told
abbrev pub only_tells : ClientAt → Line → Acted
only_tells a l = record { client = a; act = line_alone l }

-- a line stands first
abbrev pub behind : Line → Acted → Acted
behind l e = record e { act = record e.act { told = l ∷ e.act.told } }

-- a call that is refused has its line; any other is a step
abbrev pub called_by : (client : ℕ) → ClientAt → CallOp → Result Step CallErr → Acted
called_by c a op (Err e) = only_tells a (line.Refused c (told_refusal e))
called_by c a op (Ok s) = acted c a (Some op) false s

abbrev pub called : (client : ℕ) → CallOp → ClientAt → Acted
called c op a = called_by c a op (calls a.state op)

-- bytes come
abbrev pub heard : (client : ℕ) → Node → List ℕ → ClientAt → Acted
heard c from bytes a = goes_on c a (on_bytes a.state from bytes)

-- a component times out
abbrev pub timed_out : (client component : ℕ) → ClientAt → Acted
timed_out c k a = behind (line.TimedOut c k) (goes_on c a (times_out a.state k))

-- what is awaited is sent again
abbrev pub resends : (client : ℕ) → ClientAt → Acted
resends c a = goes_on c a (record (still a.state) { sends = resent a.state })

-- an idle client returns its grants, of which nothing is told; one with a pending call is busy
abbrev pub returned : (client : ℕ) → ClientAt → Acted
returned c a = acted c a None a.wrote (record (leaves a.state) { outcome = None })

abbrev pub left : (client : ℕ) → ClientAt → Acted
left c a = if is_some a.state.call then only_tells a (line.Refused c refusal.Busy) else returned c a

-- a call that is pending is told
abbrev pub pending_told : (client : ℕ) → Option CallOp → Act
pending_told c None = nothing
pending_told c (Some op) = line_alone (line.Ended c (outcome.Failed (kind_of op) ending.Pending))
