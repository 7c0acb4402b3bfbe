-- What comes to a client, and the one function of all its steps.
use Rattle.std.specs.Prelude.{ℕ, List, [], ◌∷◌, Result, Ok, Err}
use Rattle.osd_lists.specs.declared.node.Node.{Node}
use Rattle.client_rules.specs.State.{Client, CallOp, CallErr}
use Rattle.client_rules.specs.Messages.{Message, Step, still, hears}
use Rattle.client_rules.specs.Steps.{calls, times_out, leaves, resent}

-- what comes to a client
pub data Input : Type 0 where
  Calls : CallOp → Input
  Hears : Node → Message → Input
  TimesOut : (component : ℕ) → Input
  Leaves : Input
  Resends : Input

-- a call that is refused changes nothing
abbrev pub unless_refused : Client → Result Step CallErr → Step
unless_refused c (Ok s) = s
unless_refused c (Err e) = still c

-- any step
abbrev pub step : Client → Input → Step
step c (Calls op) = unless_refused c (calls c op)
step c (Hears from m) = hears c from m
step c (TimesOut k) = times_out c k
step c Leaves = leaves c
step c Resends = record (still c) { sends = resent c }

-- the client after these
abbrev pub state_after : Client → List Input → Client
state_after c [] = c
state_after c (i ∷ is) = state_after (step c i).client is
