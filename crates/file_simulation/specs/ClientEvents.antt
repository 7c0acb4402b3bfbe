-- The events of a file in a move of a client, line by line. Each section says of which lines.
use Rattle.std.specs.Prelude.{ℕ, ◌+◌, ◌-◌, ◌==◌, not, true, false, List, [], ◌∷◌, ◌++◌, slice_get, slice_index, Option, Some, None, is_some, if◌then◌else◌}
use Rattle.osd_lists.specs.declared.node.Node.{Node}
use Rattle.osd_lists.specs.declared.node.Node.TheVariants as node
use Rattle.layout_ops.specs.declared.args.Args.{Args}
use Rattle.layout_ops.specs.declared.args.Args.TheVariants as args
use Rattle.layout_ops.specs.declared.statuses.TheConstants.{NFS4_OK, LAYOUTIOMODE4_RW}
use Rattle.layout_ops.specs.declared.messages.Answer.{Answer}
use Rattle.osd_drive.specs.Table.{is_write as is_write_action}
use Rattle.osd_commands.specs.declared.commands.Command.{Command}
use Rattle.osd_commands.specs.declared.replies.Reply.{Reply}
use Rattle.file_log.specs.Judge.{byte_for}
use Rattle.scenario_text.specs.declared.event.Event.{Event}
use Rattle.scenario_text.specs.declared.event.Event.TheVariants as scenario
use Rattle.client_rules.specs.declared.limits.TheConstants.{PERFORMED, OTHER_TAG}
use Rattle.client_rules.specs.Calls.{file_of, span_of, bytes_of, is_write}
use Rattle.client_rules.specs.Grants.{held_of, clipped}
use Rattle.client_rules.specs.Results.{status_of}
use Rattle.client_rules.specs.Answers.{is_loss_taken}
use Rattle.client_rules.specs.Commands.{of_component}
use Rattle.client_rules.specs.Io.{awaited_in}
use Rattle.client_rules.specs.Replies.{timed_out}
use Rattle.client_rules.specs.Messages.{Message, Step, Taken, TakesAnswer, TakesReply, TakesRecall, takes}
use Rattle.client_rules.specs.Steps.{awaited_component}
use Rattle.client_rules.specs.History.{Input, Calls, Hears, TimesOut, Leaves, Resends, step}
use Rattle.world_history.specs.ClientNames as client_rules
use Rattle.world_history.specs.ClientNames.{Client, Call, CallOp, Held, Awaited, Request, Phase, Needs, Close, Scatters, Turn, Goes, Ends, Outcome, WriteOk, ReadOk, Silent, Lost, Outgoing}
use Rattle.world_history.specs.declared.messages.Posted.{Posted}
use Rattle.world_history.specs.State.{World, ClientAt, at_number}
use Rattle.world_history.specs.declared.messages.Message.{Message as Posting}
use Rattle.world_history.specs.Handed.{op_in, for_client}
use Rattle.world_history.specs.Moves as moves
use Rattle.fence_law.specs.State as machine
use Rattle.fence_law.specs.State.{Event as event}
use Rattle.fence_law.specs.State.RequestKind.{Get, Return}
use Rattle.fence_law.specs.Law.{byte_before}
use Rattle.fence_law.specs.Machine.{after_all}
use Rattle.file_simulation.specs.Requests.{RequestClass, Own, Other, phase_of, return_class}
use Rattle.plan_law.specs.Writes.{touches_column, hits_cell, part_of}
use Rattle.file_simulation.specs.EventLists.{Lines, and_behind, where_so, of_grant, entry_of, write_of, is_idle, is_writing}

-- ---- an answer is taken

-- the grant that comes with it, if it is one of success: the one that the machine keeps for the client's last request
abbrev pub grant_with : machine.State → (c : ℕ) → Answer → Option machine.Grant
grant_with s c a = if status_of a.results == NFS4_OK then s.kept_grant c else None

-- an answer to a LAYOUTCOMMIT
abbrev pub commit_answered : machine.State → (c : ℕ) → Answer → List machine.Event
commit_answered s c a =
    if status_of a.results == NFS4_OK then event.TakesOther c ∷ (event.TakesCommit c (entry_of s c) ∷ [])
    else event.TakesOther c ∷ (event.TakesRefusal c (entry_of s c) ∷ [])

-- an answer to a report: if it isn't taken as a loss, the write has broken off
abbrev pub report_answered : machine.State → (c : ℕ) → Answer → List machine.Event
report_answered s c a =
    if is_loss_taken a then event.TakesOther c ∷ []
    else event.TakesOther c ∷ (event.Breaks c (entry_of s c) ∷ (event.Forgets c ∷ []))

-- an answer to a return
abbrev pub return_answered : machine.State → (c : ℕ) → Answer → RequestClass → List machine.Event
return_answered s c a (Own kind) = event.Takes c None a.size ∷ []
return_answered s c a Other = report_answered s c a

-- an answer to a request on the file
abbrev pub answered_here : machine.State → (c : ℕ) → Answer → Option Phase → Args → List machine.Event
answered_here s c a phase (args.LayoutGet x) = event.Takes c (grant_with s c a) a.size ∷ []
answered_here s c a phase (args.LayoutCommit x) = commit_answered s c a
answered_here s c a phase (args.LayoutReturn x) = return_answered s c a (return_class phase)

-- an answer to the outstanding request
abbrev pub answered : machine.State → (file c : ℕ) → Client → Answer → Option Request → List machine.Event
answered s file c x a None = []
answered s file c x a (Some r) =
    if r.file == file then answered_here s c a (phase_of x.call) r.args else event.TakesOther c ∷ []

-- ---- a reply is taken

-- a WRITE was performed; of READs the machine knows from the drive
abbrev pub performed : machine.State → (c : ℕ) → Awaited → Phase → List machine.Event
performed s c a (Scatters io queue) =
    event.Learns c a.ask.component (entry_of s c) a.command.nonce a.ask.offset ∷ []
performed s c a phase = []

-- a command was refused: the write breaks off, or the read ends
abbrev pub refused : machine.State → (c : ℕ) → Phase → List machine.Event
refused s c (Scatters io queue) = event.Breaks c (entry_of s c) ∷ []
refused s c phase = event.EndsRead c (entry_of s c) ∷ []

-- by the verdict; of another tag the grant is forgotten
abbrev pub replied : machine.State → (c : ℕ) → Awaited → Reply → Phase → List machine.Event
replied s c a r phase =
    if r.verdict == PERFORMED then performed s c a phase
    else refused s c phase ++ where_so (r.verdict == OTHER_TAG) (event.Forgets c ∷ [])

-- a reply to a call, which may be on another file
abbrev pub replied_in : machine.State → (file c : ℕ) → Awaited → Reply → Option Call → List machine.Event
replied_in s file c a r None = []
replied_in s file c a r (Some call) = where_so (file_of call.op == file) (replied s c a r call.phase)

-- ---- the `d` line: what a client takes

-- by what it takes a message as; what it takes as nothing has no event
abbrev pub taken : machine.State → (file c : ℕ) → Client → Option Taken → List machine.Event
taken s file c x None = []
taken s file c x (Some (TakesAnswer a)) = answered s file c x a x.outstanding
taken s file c x (Some (TakesReply a r)) = replied_in s file c a r x.call
taken s file c x (Some (TakesRecall r)) = []

-- ---- the `t` line: a component times out

-- by how the call goes on: it ends, is to be closed with a report, or goes on as it was
abbrev pub turned : machine.State → (c : ℕ) → Turn → List machine.Event
turned s c (Ends (Silent k)) = event.EndsRead c (entry_of s c) ∷ []
turned s c (Ends (Lost positions)) = event.EndsRead c (entry_of s c) ∷ []
turned s c (Goes (Needs (Close outcome (e ∷ es)))) = event.Breaks c (entry_of s c) ∷ []
turned s c turn = []

-- under the grant that is held, if a command to the component is awaited
abbrev pub timed_under : machine.State → (c : ℕ) → Call → (k : ℕ) → Option Held → List Awaited → List machine.Event
timed_under s c call k (Some h) (a ∷ xs) = turned s c (timed_out h call.op call.phase k a xs).turn
timed_under s c call k held xs = []

-- for a call on the file
abbrev pub timed : machine.State → (file c k : ℕ) → Client → Option Call → List machine.Event
timed s file c k x None = []
timed s file c k x (Some call) = where_so (file_of call.op == file)
    (timed_under s c call k (held_of x.held file) (of_component k (awaited_in call.phase)))

-- ---- the first line

-- by what comes to the client: a call and a leave have no event there
abbrev pub at_first : machine.State → (file c : ℕ) → Client → Input → List machine.Event
at_first s file c x (Hears from m) = taken s file c x (takes x from m)
at_first s file c x (TimesOut k) = timed s file c k x x.call
at_first s file c x i = []

-- ---- the `o` line: how a call has ended

-- a write was acknowledged, unless its report was taken before; one without bytes has no entry
abbrev pub write_told : machine.State → (c : ℕ) → List machine.Event
write_told s c =
    where_so (not (s.acknowledged (write_of s c))) (event.Acknowledges c (write_of s c) ∷ [])
    ++ event.Tells (write_of s c) ∷ []

-- the answer of a read by positions
abbrev pub answer_from : (offset : ℕ) → List ℕ → ℕ → ℕ
answer_from offset bytes p = slice_index bytes (p - offset)

-- by the outcome; any other has no event
abbrev pub ended_with : machine.State → (c : ℕ) → CallOp → Outcome → List machine.Event
ended_with s c op (WriteOk count) = where_so (not (count == 0)) (write_told s c)
ended_with s c op (ReadOk bytes) =
    event.Answers c (entry_of s c) (answer_from (span_of op).offset bytes) ∷ []
ended_with s c op outcome = []

-- for a call on the file
abbrev pub ended : machine.State → (file c : ℕ) → Option CallOp → Option Outcome → List machine.Event
ended s file c (Some op) (Some o) = where_so (file_of op == file) (ended_with s c op o)
ended s file c op o = []

-- ---- an `m` line: what a client sends

-- a return
abbrev pub returns : machine.State → (c : ℕ) → RequestClass → List machine.Event
returns s c (Own (Return true)) = of_grant (s.held c) (λ g. event.GivesBack c g ∷ [])
returns s c (Own (Return false)) = of_grant (s.held c) (λ g. event.Reports c g ∷ [])
returns s c (Own (Get rw)) = []
returns s c Other = event.AsksOther c ∷ []

-- a request on the file
abbrev pub asks_here : machine.State → (c : ℕ) → Option Phase → Args → List machine.Event
asks_here s c phase (args.LayoutGet x) = event.Asks c (x.iomode == LAYOUTIOMODE4_RW) ∷ []
asks_here s c phase (args.LayoutCommit x) = event.AsksOther c ∷ (event.AsksCommit c (entry_of s c) ∷ [])
asks_here s c phase (args.LayoutReturn x) = returns s c (return_class phase)

-- any request; `x` is the client behind the step
abbrev pub asks : machine.State → (file c : ℕ) → Client → Request → List machine.Event
asks s file c x r =
    if r.file == file then asks_here s c (phase_of x.call) r.args else event.AsksOther c ∷ []

-- a read of the call's range, which reaches what lies below the size
abbrev pub starts_read : (c : ℕ) → Held → CallOp → machine.Grant → List machine.Event
starts_read c h op g =
    event.StartsRead c g (span_of op).offset ((span_of op).offset + (span_of op).length)
    (touches_column h.map (clipped h.size (span_of op)))
    ∷ []

-- what parity needs is gathered of all columns that the call touches
abbrev pub starts_gather : (c : ℕ) → Held → CallOp → machine.Grant → List machine.Event
starts_gather c h op g = event.StartsRead c g 0 0 (touches_column h.map (span_of op)) ∷ []

-- the first READ of a call
abbrev pub starts : (c : ℕ) → Held → CallOp → machine.Grant → List machine.Event
starts c h op g = if is_write op then starts_gather c h op g else starts_read c h op g

-- a write starts behind its gather, which is entry i
abbrev pub starts_write : machine.State → (c i : ℕ) → Held → CallOp → machine.Grant → List machine.Event
starts_write s c i h op g =
    event.StartsWrite c g i (byte_for (span_of op).offset (bytes_of op)) (touches_column h.map (span_of op))
    (hits_cell h.map (span_of op) g.left) (byte_before s i) ((span_of op).offset + (span_of op).length)
    (part_of h.map (span_of op))
    ∷ []

-- one part goes to component k
abbrev pub sends_part : machine.State → (c k : ℕ) → Command → machine.Grant → List machine.Event
sends_part s c k x g = event.Sends c k g (entry_of s c) x.offset x.nonce ∷ []

-- a write that has started sends on
abbrev pub sends_on : machine.State → (c : ℕ) → Option ℕ → Command → machine.Grant → List machine.Event
sends_on s c None x g = []
sends_on s c (Some k) x g = sends_part s c k x g

-- behind the gather the write starts
abbrev pub sends_first : machine.State → (c : ℕ) → Held → CallOp → Option ℕ → Command → machine.Grant
    → List machine.Event
sends_first s c h op k x g =
    starts_write s c (entry_of s c) h op g
    ++ sends_on (after_all s (starts_write s c (entry_of s c) h op g)) c k x g

-- where nothing was gathered, an empty gather stands before it
abbrev pub sends_behind : machine.State → (c : ℕ) → Held → CallOp → Option ℕ → Command → machine.Grant
    → List machine.Event
sends_behind s c h op k x g =
    starts_gather c h op g ++ sends_first (after_all s (starts_gather c h op g)) c h op k x g

-- a WRITE of the call, to component k
abbrev pub sends_write : machine.State → (c : ℕ) → Held → CallOp → Option ℕ → Command → machine.Grant
    → List machine.Event
sends_write s c h op k x g =
    if is_writing (s.call c) then sends_on s c k x g
    else if is_idle (s.call c) then sends_behind s c h op k x g
    else sends_first s c h op k x g

-- a READ of the call
abbrev pub sends_read : machine.State → (c : ℕ) → Held → CallOp → machine.Grant → List machine.Event
sends_read s c h op g = where_so (is_idle (s.call c)) (starts c h op g)

-- a command under the grant that is held
abbrev pub commands : machine.State → (c : ℕ) → Held → CallOp → Option ℕ → Command → List machine.Event
commands s c h op k x =
    of_grant (s.held c) (λ g. if is_write_action x.action then sends_write s c h op k x g else sends_read s c h op g)

-- if the client holds one; the component is that of which the command is awaited
abbrev pub commands_under : machine.State → (c : ℕ) → Client → Call → Command → Option Held → List machine.Event
commands_under s c x call cmd None = []
commands_under s c x call cmd (Some h) = commands s c h call.op (awaited_component x cmd.nonce) cmd

-- for a call on the file
abbrev pub commands_in : machine.State → (file c : ℕ) → Client → Command → Option Call → List machine.Event
commands_in s file c x cmd None = []
commands_in s file c x cmd (Some call) =
    where_so (file_of call.op == file) (commands_under s c x call cmd (held_of x.held file))

-- any message of the client
abbrev pub sends : machine.State → (file c : ℕ) → Client → Outgoing → List machine.Event
sends s file c x (client_rules.AnswersRecall a) = []
sends s file c x (client_rules.Asks r) = asks s file c x r
sends s file c x (client_rules.ToDrive d cmd) = commands_in s file c x cmd x.call

-- all of them, each at its line
unfoldable pub sends_all : machine.State → (file c : ℕ) → Client → List Outgoing → Lines
sends_all s file c x [] = []
sends_all s file c x (o ∷ os) = and_behind s (sends s file c x o) (λ t. sends_all t file c x os)

-- ---- a step of a client

-- the lines behind the first: one tells how the call ended, if it has, and then stand the messages
abbrev pub at_end : machine.State → (file c : ℕ) → Option CallOp → Step → Lines
at_end s file c op did =
    if is_some did.outcome
    then and_behind s (ended s file c op did.outcome) (λ t. sends_all t file c did.client did.sends)
    else sends_all s file c did.client did.sends

-- the lines of a step. What was sent before is sent again by `Resends`, which has no event
abbrev pub client_goes : machine.State → (file c : ℕ) → Client → Input → Lines
client_goes s file c x Resends = []
client_goes s file c x i =
    and_behind s (at_first s file c x i) (λ t. at_end t file c (op_in x i) (step x i))

-- ---- a move of a client

-- which client goes on, and with what
pub record Going : Type 0 where
  pub client : ℕ
  pub state : Client
  pub input : Input

-- a client that there is
abbrev pub going : (c : ℕ) → Input → Option ClientAt → Option Going
going c i None = None
going c i (Some a) = Some (record { client = c; state = a.state; input = i })

-- a client hears a message that is for it, unless it was stopped
abbrev pub hearing : (c : ℕ) → Node → Option Message → Option ClientAt → Option Going
hearing c from (Some m) (Some a) =
    if a.stopped then None else Some (record { client = c; state = a.state; input = Hears from m })
hearing c from m a = None

-- a message goes to a client
abbrev pub hearing_at : World → Posting → Node → Option Going
hearing_at w m (node.Client c) = hearing c m.from (for_client m) (at_number w.clients c)
hearing_at w m to = None

-- it was sent
abbrev pub delivered : World → Option Posted → Option Going
delivered w None = None
delivered w (Some p) = hearing_at w p.message p.message.to

-- one with a pending call doesn't leave
abbrev pub leaving : (c : ℕ) → Option ClientAt → Option Going
leaving c None = None
leaving c (Some a) =
    if is_some a.state.call then None else Some (record { client = c; state = a.state; input = Leaves })

-- what an event begins with
abbrev pub opened : World → Event → Option Going
opened w (scenario.Do c x) = going c (Calls (moves.op_of x)) (at_number w.clients c)
opened w (scenario.Call c x) = going c (Calls (moves.op_of x)) (at_number w.clients c)
opened w (scenario.Leave c) = leaving c (at_number w.clients c)
opened w (scenario.Timeout c k) = going c (TimesOut k) (at_number w.clients c)
opened w (scenario.Deliver number) = delivered w (slice_get w.network.messages number)
opened w e = None

-- and any action
abbrev pub going_in : World → moves.Action → Option Going
going_in w (moves.Opens e) = opened w e
going_in w (moves.Delivers number) = delivered w (slice_get w.network.messages number)
going_in w (moves.TimesOut c k) = going c (TimesOut k) (at_number w.clients c)
going_in w (moves.Pends c) = None

-- the events of the client that goes on, if one does
abbrev pub client_events : machine.State → (file : ℕ) → Option Going → Lines
client_events s file None = []
client_events s file (Some g) = client_goes s file g.client g.state g.input
