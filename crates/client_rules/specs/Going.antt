-- A client in the middle of a step: its call begins, and a request goes out.
use Rattle.std.specs.Prelude.{ℕ, Bool, List, [], ◌∷◌, ◌++◌, Option, Some, None, ◌+◌, ◌==◌, ◌&&◌, find, if◌then◌else◌}
use Rattle.std.specs.List.{list_any}
use Rattle.layout_ops.specs.declared.args.Args.{Args}
use Rattle.layout_ops.specs.declared.args.Args.TheVariants as args
use Rattle.client_rules.specs.declared.limits.TheConstants.{GREATEST_SEQUENCE}
use Rattle.client_rules.specs.State.{Client, Call, CallOp, Held, Due, Need, First, Get, Phase, Starts, Needs, Waits, Reads, Probes, Gathers, Scatters, Outcome, Turn, Goes, Ends, Forgets, Moved, Done, Request}
use Rattle.client_rules.specs.Calls.{file_of, span_of, is_write}
use Rattle.client_rules.specs.Grants.{clipped, covers, held_of, put_held, without_held}
use Rattle.client_rules.specs.Requests.{args_of, get_args, return_args}
use Rattle.client_rules.specs.Reads.{reads, probes}
use Rattle.client_rules.specs.Writes.{gathers}

-- nothing was done yet
abbrev pub quiet : Client → Done
quiet c = record { client = c; recalls = []; requests = []; commands = []; outcome = None }

-- ---- the call

-- the client's call is this one, or there is none
abbrev pub with_call : Done → Option Call → Done
with_call d call = record d { client = record d.client { call = call } }

-- the call comes to this phase
abbrev pub phased : Done → CallOp → Phase → Done
phased d op p = with_call d (Some (record { op = op; phase = p }))

-- the call ends
abbrev pub over : Done → Outcome → Done
over d o = record d { client = record d.client { call = None }; outcome = Some o }

-- a grant is held, or has changed
abbrev pub with_held : Done → Held → Done
with_held d h = record d { client = record d.client { held = put_held d.client.held h } }

-- a grant is held no more
abbrev pub forgotten : Done → (file : ℕ) → Done
forgotten d file = record d { client = record d.client { held = without_held d.client.held file } }

-- what becomes of the call
abbrev pub by_turn : Done → CallOp → Turn → Done
by_turn d op (Goes p) = phased d op p
by_turn d op (Ends o) = over d o
by_turn d op (Forgets o) = over (forgotten d (file_of op)) o

-- what its dealings with the drives did
abbrev pub moved : Done → CallOp → Moved → Done
moved d op m = by_turn (record (with_held d m.held) { commands = m.sent }) op m.turn

-- ---- its begin

-- under a grant that covers it: a write gathers, and a read reads, or probes where it has no byte below the size
unfoldable pub begins : Held → CallOp → Moved
begins h op =
    if is_write op then gathers h op [] [] []
    else if (clipped h.size (span_of op)).length == 0 then probes h [] [] []
    else reads h (clipped h.size (span_of op)) [] [] []

-- it needs the server, and waits with that while a request is outstanding
abbrev pub starts_with : Done → CallOp → Need → Option Request → Done
starts_with d op n None = phased d op (Needs n)
starts_with d op n (Some r) = d

-- under a grant that covers it it begins; without a grant it asks for one; another grant goes back first
abbrev pub starts_under : Done → CallOp → Option Held → Done
starts_under d op None = starts_with d op (Get 0) d.client.outstanding
starts_under d op (Some h) =
    if covers h op then moved d op (begins h op) else starts_with d op First d.client.outstanding

-- a call that has begun goes on
abbrev pub starts_at : Done → CallOp → Phase → Done
starts_at d op Starts = starts_under d op (held_of d.client.held (file_of op))
starts_at d op (Needs n) = d
starts_at d op (Waits n) = d
starts_at d op (Reads io) = d
starts_at d op (Probes io) = d
starts_at d op (Gathers io) = d
starts_at d op (Scatters io queue) = d

-- without a call nothing begins
abbrev pub starts_call : Done → Option Call → Done
starts_call d None = d
starts_call d (Some call) = starts_at d call.op call.phase

-- a call that hasn't begun begins where it can
unfoldable pub begun : Done → Done
begun d = starts_call d d.client.call

-- ---- requests

-- the number behind; none is behind the last
abbrev pub after_number : ℕ → ℕ
after_number n = if n == GREATEST_SEQUENCE then 0 else n + 1

-- a request with the next number
abbrev pub request_of : Client → (file : ℕ) → Args → Request
request_of c file a = record { client = c.number; sequence = c.next; file = file; args = a }

-- a grant is held until its return is sent
abbrev pub held_after : List Held → (file : ℕ) → Args → List Held
held_after hs file (args.LayoutGet a) = hs
held_after hs file (args.LayoutCommit a) = hs
held_after hs file (args.LayoutReturn a) = without_held hs file

-- it is sent, and its answer awaited
unfoldable pub requests : Done → (file : ℕ) → Args → Done
requests d file a = record d {
  client = record d.client {
    next = after_number d.client.next;
    outstanding = Some (request_of d.client file a);
    held = held_after d.client.held file a;
  };
  requests = d.requests ++ request_of d.client file a ∷ [];
}

-- the call's request goes out, and the call waits
abbrev pub asks_server : Done → CallOp → Need → Args → Done
asks_server d op n a = requests (phased d op (Waits n)) (file_of op) a

-- without a grant there is a LAYOUTGET to send, and nothing else
abbrev pub asks_under : Done → CallOp → Need → Option Held → Done
asks_under d op n None = asks_server d op n (get_args op)
asks_under d op n (Some h) = asks_server d op n (args_of h op n)

-- ---- returns that are due

-- a grant that is due is still held
abbrev pub is_held : List Held → Due → Bool
is_held hs u = list_any (λ (h : Held). (h.file == u.file) && (h.number == u.number)) hs

-- what is due behind the first such
unfoldable pub due_behind : List Held → List Due → List Due
due_behind hs [] = []
due_behind hs (u ∷ us) = if is_held hs u then us else due_behind hs us

-- it goes back clean; where none is held the entries count for nothing, and none is kept
abbrev pub returns : Done → Option Due → Done
returns d None = record d { client = record d.client { due = [] } }
returns d (Some u) = requests (record d { client = record d.client { due = due_behind d.client.held d.client.due } })
    u.file (return_args u.number [])

-- the first grant that is due and still held, where a sequence number is left
unfoldable pub returns_due : Done → Done
returns_due d = if d.client.next == 0 then d else returns d (find (is_held d.client.held) d.client.due)

-- ---- what goes to the server

-- what a pending call needs
abbrev pub progress_phase : Done → CallOp → Phase → Done
progress_phase d op (Needs n) = asks_under d op n (held_of d.client.held (file_of op))
progress_phase d op Starts = d
progress_phase d op (Waits n) = d
progress_phase d op (Reads io) = d
progress_phase d op (Probes io) = d
progress_phase d op (Gathers io) = d
progress_phase d op (Scatters io queue) = d

-- and without a call what is due
abbrev pub progress_call : Done → Option Call → Done
progress_call d None = returns_due d
progress_call d (Some call) = progress_phase d call.op call.phase

-- one request at a time
abbrev pub progress_free : Done → Option Request → Done
progress_free d None = progress_call d d.client.call
progress_free d (Some r) = d

-- so a request goes out
unfoldable pub progressed : Done → Done
progressed d = progress_free d d.client.outstanding
