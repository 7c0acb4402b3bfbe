-- What a client takes of a message, and what that changes.
use Rattle.std.specs.Prelude.{ℕ, Bool, not, List, [], ◌∷◌, ◌++◌, Option, Some, None, Result, Ok, Err, ◌==◌, ◌&&◌, nat_lt, map, find, if◌then◌else◌}
use Rattle.std.specs.List.{list_any}
use Rattle.osd_lists.specs.declared.node.Node.{Node}
use Rattle.osd_lists.specs.declared.node.Node.TheVariants.{Server as FromServer, Drive as FromDrive}
use Rattle.layout_ops.specs.declared.statuses.TheConstants.{NFS4_OK, NFS4ERR_LAYOUTTRYLATER, NFS4ERR_NOMATCHING_LAYOUT}
use Rattle.client_rules.specs.declared.limits.TheConstants.{MAX_CLIENT}
use Rattle.client_rules.specs.State.{Client, Call, CallOp, Held, Due, Awaited, Need, First, Get, Commit, Report, Close, Phase, Starts, Needs, Waits, Reads, Probes, Gathers, Scatters, Outcome, BadLayout, Why, Done, Outgoing, AnswersRecall, Asks, ToDrive, Request, Answer, Recall, RecallAnswer, Reply}
use Rattle.client_rules.specs.Calls.{file_of}
use Rattle.client_rules.specs.Grants.{held_of}
use Rattle.client_rules.specs.Requests.{grant_in}
use Rattle.client_rules.specs.Results.{status_of}
use Rattle.client_rules.specs.Layouts.{taken}
use Rattle.client_rules.specs.Io.{awaited_in}
use Rattle.client_rules.specs.Replies.{answers, replied}
use Rattle.client_rules.specs.Answers.{not_granted, on_commit, on_report}
use Rattle.client_rules.specs.Going.{quiet, phased, over, with_held, by_turn, moved, begun, progressed}

-- ---- a step

-- what a step leaves: the client, what it sends in order, and how a call ended in it
pub record Step : Type 0 where
  pub client : Client
  pub sends : List Outgoing
  pub outcome : Option Outcome

-- nothing happens
abbrev pub still : Client → Step
still c = record { client = c; sends = []; outcome = None }

-- a command goes to its drive
abbrev pub to_drive : Awaited → Outgoing
to_drive a = ToDrive a.drive a.command

-- answers to recalls first, then a request, then commands
abbrev pub sends_of : Done → List Outgoing
sends_of d = map AnswersRecall d.recalls ++ (map Asks d.requests ++ map to_drive d.commands)

-- what was done, as a step
abbrev pub closed : Done → Step
closed d = record { client = d.client; sends = sends_of d; outcome = d.outcome }

-- behind every change a call may begin, and then a request may go out
unfoldable pub finished : Done → Step
finished d = closed (progressed (begun d))

-- ---- answers

-- the grant is held and the call begins, or its layout can't be used
abbrev pub answered_get : Done → CallOp → Result Held Why → Done
answered_get d op (Err w) = over d (BadLayout w)
answered_get d op (Ok h) = phased (with_held d h) op Starts

-- the answer to a LAYOUTGET
abbrev pub on_get : Done → CallOp → (tries : ℕ) → Answer → Done
on_get d op tries a =
    if status_of a.results == NFS4_OK then answered_get d op (taken a op) else by_turn d op (not_granted a tries)

-- the answer to a LAYOUTCOMMIT, under the call's grant
abbrev pub commit_under : Done → CallOp → Answer → Need → Option Held → Done
commit_under d op a (Commit timed) (Some h) = moved d op (on_commit h op a timed)
commit_under d op a n held = d

-- by what the call waits for
abbrev pub on_need : Done → CallOp → Need → Answer → Done
on_need d op First a = phased d op Starts
on_need d op (Get tries) a = on_get d op tries a
on_need d op (Commit timed) a = commit_under d op a (Commit timed) (held_of d.client.held (file_of op))
on_need d op (Report timed) a = over d (on_report op a timed)
on_need d op (Close outcome report) a = over d outcome

-- only a call that waits is answered
abbrev pub on_phase : Done → CallOp → Phase → Answer → Done
on_phase d op (Waits n) a = on_need d op n a
on_phase d op Starts a = d
on_phase d op (Needs n) a = d
on_phase d op (Reads io) a = d
on_phase d op (Probes io) a = d
on_phase d op (Gathers io) a = d
on_phase d op (Scatters io queue) a = d

-- the answer to a return that was due changes no call
abbrev pub on_call : Done → Option Call → Answer → Done
on_call d None a = d
on_call d (Some call) a = on_phase d call.op call.phase a

-- no client has that number
abbrev pub names_nobody : Answer → Bool
names_nobody a = (status_of a.results == NFS4ERR_LAYOUTTRYLATER) && nat_lt MAX_CLIENT a.detail

-- the answer is this client's, and to its outstanding request
abbrev pub is_awaited : Client → Answer → Request → Bool
is_awaited c a r = (a.client == c.number) && ((a.sequence == r.sequence) && not (names_nobody a))

-- ---- recalls

-- a grant is due already
abbrev pub is_due : List Due → (file number : ℕ) → Bool
is_due us file number = list_any (λ (u : Due). (u.file == file) && (u.number == number)) us

-- it becomes due once
unfoldable pub due_with : List Due → (file number : ℕ) → List Due
due_with us file number = if is_due us file number then us else us ++ record { file = file; number = number } ∷ []

-- the answer to a recall
abbrev pub recall_answer : Recall → (status : ℕ) → RecallAnswer
recall_answer r status = record { client = r.client; number = r.number; file = r.file; status = status }

-- there is no such grant
abbrev pub no_match : Client → Recall → Done
no_match c r = record (quiet c) { recalls = recall_answer r NFS4ERR_NOMATCHING_LAYOUT ∷ [] }

-- the grant will be returned
abbrev pub obeys : Client → Recall → Done
obeys c r =
    record (quiet (record c { due = due_with c.due r.file (grant_in r.args.stateid) })) {
      recalls = recall_answer r
          NFS4_OK ∷ [];
    }

-- the held grant is meant where the recall names it
abbrev pub recalled : Client → Recall → Option Held → Done
recalled c r None = no_match c r
recalled c r (Some h) = if h.number == grant_in r.args.stateid then obeys c r else no_match c r

-- ---- replies

-- under the call's grant
abbrev pub reply_under : Client → Call → Awaited → Reply → Option Held → Done
reply_under c call a r None = quiet c
reply_under c call a r (Some h) = moved (quiet c) call.op (replied h call.op call.phase a r)

-- without a call no reply is awaited
abbrev pub reply_call : Client → Awaited → Reply → Option Call → Done
reply_call c a r None = quiet c
reply_call c a r (Some call) = reply_under c call a r (held_of c.held (file_of call.op))

-- ---- a message

-- what comes to a client
pub data Message : Type 0 where
  Replies : Reply → Message
  Answers : Answer → Message
  Recalls : Recall → Message

-- what it takes
pub data Taken : Type 0 where
  TakesAnswer : Answer → Taken
  TakesReply : Awaited → Reply → Taken
  TakesRecall : Recall → Taken

-- the answer to the outstanding request
abbrev pub answer_taken : Client → Answer → Option Request → Option Taken
answer_taken c a None = None
answer_taken c a (Some r) = if is_awaited c a r then Some (TakesAnswer a) else None

-- a reply to an awaited command
abbrev pub reply_taken : Reply → Option Awaited → Option Taken
reply_taken r None = None
reply_taken r (Some a) = Some (TakesReply a r)

-- the commands that are awaited
abbrev pub awaited_of : Option Call → List Awaited
awaited_of None = []
awaited_of (Some call) = awaited_in call.phase

-- what it takes of a message: drives send replies, and the server answers and recalls
unfoldable pub takes : Client → Node → Message → Option Taken
takes c (FromDrive drive) (Replies reply) = reply_taken reply (find (answers drive reply) (awaited_of c.call))
takes c FromServer (Answers answer) = answer_taken c answer c.outstanding
takes c FromServer (Recalls recall) = if recall.client == c.number then Some (TakesRecall recall) else None
takes c from message = None

-- what that changes
abbrev pub on_taken : Client → Taken → Done
on_taken c (TakesAnswer a) = on_call (quiet (record c { outstanding = None })) c.call a
on_taken c (TakesReply a r) = reply_call c a r c.call
on_taken c (TakesRecall r) = recalled c r (held_of c.held r.file)

-- what isn't taken changes nothing
abbrev pub by_taken : Client → Option Taken → Step
by_taken c None = still c
by_taken c (Some t) = finished (on_taken c t)

-- a message comes
unfoldable pub hears : Client → Node → Message → Step
hears c from m = by_taken c (takes c from m)
