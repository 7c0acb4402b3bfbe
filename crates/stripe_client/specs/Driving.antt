-- Replies and timeouts of a call that was taken up.
use Rattle.std.specs.Prelude.{ℕ, Bool, false, List, Option, Some, None, find, is_some}
use Rattle.call_commands.specs.Pending.{first_among}
use Rattle.client_rules.specs.declared.client.Client.{Client}
use Rattle.call_io.specs.Steps.{on_reply, on_timeout}
use Rattle.client_rules.specs.declared.calls.Call.{Call}
use Rattle.client_rules.specs.declared.grants.Held.{Held}
use Rattle.client_rules.specs.declared.calls.Awaited.{Awaited}
use Rattle.client_rules.specs.declared.steps.Done.{Done}
use Rattle.osd_commands.specs.declared.replies.Reply.{Reply}
use Rattle.client_rules.specs.Calls.{file_of}
use Rattle.client_rules.specs.Grants.{held_of}
use Rattle.client_rules.specs.Commands.{of_component}
use Rattle.client_rules.specs.Io.{awaited_in}
use Rattle.client_rules.specs.Replies.{answers}
use Rattle.client_rules.specs.Going.{phased, moved}

-- under the grant that may be held; without one the call stays
abbrev pub replied_under : Done → Call → Reply → Option Awaited → Option Held → Done
replied_under d call r a None = phased d call.op call.phase
replied_under d call r a (Some h) = moved d call.op (on_reply h call.op call.phase r a)

-- a reply
abbrev pub replied_call : Done → Call → (drive : ℕ) → Reply → Done
replied_call d call drive r =
    replied_under d call r (find (answers drive r) (awaited_in call.phase)) (held_of d.client.held (file_of call.op))

-- the same of a timeout
abbrev pub timed_under : Done → Call → (k : ℕ) → List Awaited → Option Held → Done
timed_under d call k xs None = phased d call.op call.phase
timed_under d call k xs (Some h) = moved d call.op (on_timeout h call.op call.phase k xs)

-- a component that doesn't answer
abbrev pub timed_call : Done → Call → (k : ℕ) → Done
timed_call d call k =
    timed_under d call k (of_component k (awaited_in call.phase)) (held_of d.client.held (file_of call.op))

-- one of these commands is awaited under a grant
abbrev pub waits_under : Option Held → List Awaited → Bool
waits_under None xs = false
waits_under (Some h) xs = is_some (first_among xs)

-- a command to component k is
abbrev pub waits_call : Client → (k : ℕ) → Option Call → Bool
waits_call c k None = false
waits_call c k (Some call) = waits_under (held_of c.held (file_of call.op)) (of_component k (awaited_in call.phase))
