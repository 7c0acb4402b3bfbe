-- Calls, timeouts and leaving, and what a client waits for.
use Rattle.std.specs.Prelude.{ℕ, Bool, List, [], ◌∷◌, ◌++◌, Option, Some, None, Result, Ok, Err, ◌+◌, ◌-◌, ◌==◌, ◌&&◌, ◌||◌, nat_lt, map, find, option_map, is_some, if◌then◌else◌}
use Rattle.data_map.specs.declared.ranges.TheConstants.{MAX_FILE_SIZE}
use Rattle.client_rules.specs.declared.limits.TheConstants.{MAX_CALL, GREATEST_SEQUENCE, SPARE_REQUESTS}
use Rattle.client_rules.specs.State.{Client, Call, CallOp, Held, Due, Awaited, Starts, WriteOk, CallErr, Busy, BadRange, SlotSpent, Awaits, Nothing, TheServer, ADrive, Outgoing, Asks, Request, Span}
use Rattle.client_rules.specs.Calls.{file_of, span_of, is_write}
use Rattle.client_rules.specs.Grants.{held_of}
use Rattle.client_rules.specs.Commands.{of_component, in_order}
use Rattle.client_rules.specs.Io.{awaited_in}
use Rattle.client_rules.specs.Replies.{timed_out}
use Rattle.client_rules.specs.Going.{quiet, moved}
use Rattle.client_rules.specs.Messages.{Step, still, to_drive, finished, due_with, awaited_of}

-- a client that has done nothing, whose first request has this number
abbrev pub new_client : (number sequence : ℕ) → Client
new_client number sequence = record {
  number = number;
  next = sequence;
  outstanding = None;
  held = [];
  due = [];
  call = None;
}

-- ---- a call

-- the range passes a limit
abbrev pub is_bad_range : Span → Bool
is_bad_range r = nat_lt MAX_CALL r.length || nat_lt MAX_FILE_SIZE (r.offset + r.length)

-- too few numbers are left behind the last one
abbrev pub is_spent : (next : ℕ) → Bool
is_spent next = (next == 0) || nat_lt (GREATEST_SEQUENCE - SPARE_REQUESTS) (next - 1)

-- a write of no byte is over at once
abbrev pub writes_nothing : CallOp → Bool
writes_nothing op = is_write op && ((span_of op).length == 0)

-- any other is pending, and begins where it can
abbrev pub starts : Client → CallOp → Step
starts c op =
    if writes_nothing op then record (still c) { outcome = Some (WriteOk 0) }
    else finished (quiet (record c { call = Some (record { op = op; phase = Starts }) }))

-- the first refusal that holds, or a step
unfoldable pub calls : Client → CallOp → Result Step CallErr
calls c op =
    if is_some c.call then Err Busy
    else if is_bad_range (span_of op) then Err BadRange
    else if is_spent c.next then Err SlotSpent
    else Ok (starts c op)

-- ---- a timeout

-- where a command to the component is awaited, under the call's grant
abbrev pub timeout_under : Client → Call → (k : ℕ) → Option Held → List Awaited → Step
timeout_under c call k (Some h) (a ∷ xs) = finished (moved (quiet c) call.op (timed_out h call.op call.phase k a xs))
timeout_under c call k None xs = still c
timeout_under c call k (Some h) [] = still c

-- without a call nothing is awaited
abbrev pub timeout_call : Client → (k : ℕ) → Option Call → Step
timeout_call c k None = still c
timeout_call c k (Some call) =
    timeout_under c call k (held_of c.held (file_of call.op)) (of_component k (awaited_in call.phase))

-- component k of the pending call's file doesn't answer
unfoldable pub times_out : Client → (k : ℕ) → Step
times_out c k = timeout_call c k c.call

-- ---- leaving

-- each held grant becomes due, by rising file
unfoldable pub all_due : List Due → List Held → List Due
all_due us [] = us
all_due us (h ∷ hs) = all_due (due_with us h.file h.number) hs

-- an idle client returns its grants
unfoldable pub leaves : Client → Step
leaves c = finished (quiet (record c { due = all_due c.due c.held }))

-- ---- what it waits for

-- the outstanding request
abbrev pub outstanding_sends : Option Request → List Outgoing
outstanding_sends None = []
outstanding_sends (Some r) = Asks r ∷ []

-- the same messages once more: the request, then the commands by stripe, component and offset
unfoldable pub resent : Client → List Outgoing
resent c = outstanding_sends c.outstanding ++ map to_drive (in_order (awaited_of c.call))

-- the lowest component of some commands and k
unfoldable pub lowest_with : (k : ℕ) → List Awaited → ℕ
lowest_with k [] = k
lowest_with k (a ∷ xs) = if nat_lt a.ask.component k then lowest_with a.ask.component xs else lowest_with k xs

-- drives come before the server
abbrev pub awaits_by : List Awaited → Option Request → Awaits
awaits_by (a ∷ xs) outstanding = ADrive (lowest_with a.ask.component xs)
awaits_by [] (Some r) = TheServer
awaits_by [] None = Nothing

-- whose answer it awaits
unfoldable pub awaits : Client → Awaits
awaits c = awaits_by (awaited_of c.call) c.outstanding

-- the component of the awaited command with that nonce
unfoldable pub awaited_component : Client → (nonce : ℕ) → Option ℕ
awaited_component c nonce =
    option_map (λ (a : Awaited). a.ask.component) (find (λ (a : Awaited). a.command.nonce == nonce) (awaited_of c.call))

-- the number of its next request, or 0
abbrev pub next_sequence : Client → ℕ
next_sequence c = c.next
