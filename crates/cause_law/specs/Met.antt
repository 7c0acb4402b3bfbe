-- What a call meets: the answers and replies that it takes, and the timeouts of what it awaits. The newest stands first.
use Rattle.std.specs.Prelude.{ℕ, Bool, List, [], ◌∷◌, ◌++◌, Option, Some, None, ◌+◌, ◌/◌, ◌==◌, nat_lt, length, is_some, if◌then◌else◌}
use Rattle.std.specs.List.{filter_map, range_with_len}
use Rattle.std.specs.Option.{option_or}
use Rattle.data_map.specs.Striping.{replicas, positions, group_width}
use Rattle.stripe_plan.specs.Touched.{stripes}
use Rattle.stripe_plan.specs.Lost.{positions_out, unreadable, unwritable}
use Rattle.layout_ops.specs.declared.args.Args.{Args}
use Rattle.layout_ops.specs.declared.args.Args.TheVariants as args
use Rattle.layout_ops.specs.declared.statuses.TheConstants.{NFS4_OK, NFS4ERR_NOENT, NFS4ERR_LAYOUTTRYLATER, NFS4ERR_LAYOUTUNAVAILABLE, NFS4ERR_RECALLCONFLICT}
use Rattle.client_rules.specs.declared.limits.TheConstants.{PERFORMED, MAX_TRIES}
use Rattle.world_history.specs.ClientNames.{Client, Call, CallOp, Held, Awaited, Outcome, NoFile, HeldBy, Fencing, Status, Refused, Silent, Lost, BadLayout, Why, Request, Answer, Reply, Span}
use Rattle.client_rules.specs.Calls.{file_of, span_of, is_write}
use Rattle.client_rules.specs.Grants.{clipped, held_of, missing_of}
use Rattle.client_rules.specs.Commands.{of_component}
use Rattle.client_rules.specs.Reads.{first_present, is_probe_lost}
use Rattle.client_rules.specs.Results.{status_of}
use Rattle.client_rules.specs.Layouts.{taken}
use Rattle.client_rules.specs.Answers.{unavailable, is_loss_taken}
use Rattle.client_rules.specs.Messages.{Taken, TakesAnswer, TakesReply, TakesRecall, awaited_of, takes}
use Rattle.client_rules.specs.History.{Input, Calls, Hears, TimesOut, Leaves, Resends, step}
use Rattle.std.specs.Prelude.{Result, Ok, Err}

-- an answer of the server to a request, a reply to a command, or that component k, of which commands were awaited, timed
-- out while the call worked under this grant
pub data Met : Type 0 where
  Answered : Request → Answer → Met
  Replied : Awaited → Reply → Met
  TimedOut : Held → (k : ℕ) → Met

-- ---- what a client's call has met

-- a new call has met nothing
abbrev pub since : Option Call → List Met → List Met
since None ms = []
since (Some call) ms = ms

-- the answer to the outstanding request
abbrev pub with_answer : Option Request → Answer → List Met → List Met
with_answer None a ms = ms
with_answer (Some r) a ms = Answered r a ∷ ms

-- what is taken of a message
abbrev pub with_taken : Client → Option Taken → List Met → List Met
with_taken c None ms = ms
with_taken c (Some (TakesAnswer a)) ms = with_answer c.outstanding a ms
with_taken c (Some (TakesReply a r)) ms = Replied a r ∷ ms
with_taken c (Some (TakesRecall r)) ms = ms

-- a timeout counts where something of the component is awaited
abbrev pub with_timeout : (k : ℕ) → Option Held → List Awaited → List Met → List Met
with_timeout k (Some h) (a ∷ xs) ms = TimedOut h k ∷ ms
with_timeout k None xs ms = ms
with_timeout k (Some h) [] ms = ms

-- under the grant on the call's file
abbrev pub with_silence : Client → (k : ℕ) → Option Call → List Met → List Met
with_silence c k None ms = ms
with_silence c k (Some call) ms =
    with_timeout k (held_of c.held (file_of call.op)) (of_component k (awaited_of (Some call))) ms

-- what the pending call has met once this came
abbrev pub met_after : Client → List Met → Input → List Met
met_after c ms (Calls op) = since c.call ms
met_after c ms (Hears from m) = with_taken c (takes c from m) (since c.call ms)
met_after c ms (TimesOut k) = with_silence c k c.call (since c.call ms)
met_after c ms Leaves = since c.call ms
met_after c ms Resends = since c.call ms

-- and once all of these came
abbrev pub met_by : Client → List Met → List Input → List Met
met_by c ms [] = ms
met_by c ms (i ∷ is) = met_by (step c i).client (met_after c ms i) is

-- ---- the server is busy

-- a LAYOUTGET that is answered so that it be asked again
abbrev pub busy_status : (status detail : ℕ) → Option Outcome
busy_status status detail =
    if status == NFS4ERR_LAYOUTTRYLATER then Some (HeldBy detail)
    else if status == NFS4ERR_RECALLCONFLICT then Some (Fencing detail)
    else None

abbrev pub busy_args : Args → Answer → Option Outcome
busy_args (args.LayoutGet x) a = busy_status (status_of a.results) a.detail
busy_args (args.LayoutCommit x) a = None
busy_args (args.LayoutReturn x) a = None

abbrev pub busy_at : Met → Option Outcome
busy_at (Answered r a) = busy_args r.args a
busy_at (Replied a r) = None
busy_at (TimedOut h k) = None

-- all of these
unfoldable pub busy_in : List Met → List Outcome
busy_in ms = filter_map busy_at ms

-- the one that is the last that a call asks: the third
abbrev pub last_busy_at : (before : ℕ) → Met → Option Outcome
last_busy_at before m = if before + 1 == MAX_TRIES then busy_at m else None

unfoldable pub last_busy : List Met → Option Outcome
last_busy [] = None
last_busy (m ∷ ms) = option_or (last_busy ms) (last_busy_at (length (busy_in ms)) m)

-- ---- a drive refuses

-- a reply that isn't Perform
abbrev pub refusal_at : Met → Option Outcome
refusal_at (Answered r a) = None
refusal_at (Replied a r) = if r.verdict == PERFORMED then None else Some (Refused a.drive r.verdict r.detail)
refusal_at (TimedOut h k) = None

-- the first of them
unfoldable pub first_refusal : List Met → Option Outcome
first_refusal [] = None
first_refusal (m ∷ ms) = option_or (first_refusal ms) (refusal_at m)

-- ---- components that are out

-- one more among components that rise
unfoldable pub rising_with : (k : ℕ) → List ℕ → List ℕ
rising_with k [] = k ∷ []
rising_with k (j ∷ js) = if nat_lt k j then k ∷ j ∷ js else j ∷ rising_with k js

-- those that timed out, by rising number
unfoldable pub timed_in : List Met → List ℕ
timed_in [] = []
timed_in (Answered r a ∷ ms) = timed_in ms
timed_in (Replied a r ∷ ms) = timed_in ms
timed_in (TimedOut h k ∷ ms) = rising_with k (timed_in ms)

-- those that the layout lists as missing, and those that timed out
abbrev pub out_in : Held → List Met → List ℕ
out_in h ms = missing_of h ++ timed_in ms

-- ---- a write that can't go on

-- a touched stripe has more positions out than its parity brings back
abbrev pub is_beyond : Held → CallOp → List Met → Bool
is_beyond h op ms = is_some (unwritable h.map (out_in h ms) (stripes h.map (span_of op)))

-- in a write, a timeout behind which that is so
abbrev pub beyond_at : CallOp → Met → List Met → Option Outcome
beyond_at op (Answered r a) ms = None
beyond_at op (Replied a r) ms = None
beyond_at op (TimedOut h k) ms =
    if is_write op then (if is_beyond h op (TimedOut h k ∷ ms) then Some (Silent k) else None) else None

-- the first of them
unfoldable pub first_beyond : CallOp → List Met → Option Outcome
first_beyond op [] = None
first_beyond op (m ∷ ms) = option_or (first_beyond op ms) (beyond_at op m ms)

-- ---- a read that can't go on

-- The positions that are lost to a read of a range. One of no byte asks the group of the first component that isn't missing;
-- where there is none, every position is lost.
abbrev pub probe_lost : Held → (out : List ℕ) → Option ℕ → Option (List ℕ)
probe_lost h out None = Some (range_with_len 0 (positions h.map))
probe_lost h out (Some k) =
    if is_probe_lost h.map out (k / replicas h.map)
    then Some (positions_out h.map out (k / replicas h.map / group_width h.map))
    else None

unfoldable pub range_lost : Held → Span → (out : List ℕ) → Option (List ℕ)
range_lost h r out =
    if r.length == 0 then probe_lost h out (first_present h.components 0)
    else unreadable h.map r out (stripes h.map r)

-- a read ends so
abbrev pub as_lost : Option (List ℕ) → Option Outcome
as_lost None = None
as_lost (Some ps) = Some (Lost ps)

-- under a grant
abbrev pub lost_under : CallOp → List Met → Option Held → Option Outcome
lost_under op ms None = None
lost_under op ms (Some h) =
    if is_write op then None else as_lost (range_lost h (clipped h.size (span_of op)) (out_in h ms))

-- the grant that an answer gave
abbrev pub given_in : Result Held Why → Option Held
given_in (Ok h) = Some h
given_in (Err w) = None

abbrev pub given_args : CallOp → Args → Answer → Option Held
given_args op (args.LayoutGet x) a = if status_of a.results == NFS4_OK then given_in (taken a op) else None
given_args op (args.LayoutCommit x) a = None
given_args op (args.LayoutReturn x) a = None

abbrev pub given_at : CallOp → List Met → Option Held
given_at op (Answered r a ∷ ms) = given_args op r.args a
given_at op (Replied a r ∷ ms) = None
given_at op (TimedOut h k ∷ ms) = None
given_at op [] = None

-- the grant under which a call works in a step: the one that it is given there, or else the one that is held before
abbrev pub grant_under : List Held → CallOp → List Met → Option Held
grant_under hs op ms = option_or (given_at op ms) (held_of hs (file_of op))

-- ---- what the server answers last

-- a LAYOUTGET gives no layout that can be used, or none at all
abbrev pub why_in : Result Held Why → Option Outcome
why_in (Ok h) = None
why_in (Err w) = Some (BadLayout w)

abbrev pub status_failure : (status detail : ℕ) → Option Outcome
status_failure status detail =
    if status == NFS4ERR_NOENT then Some NoFile
    else if status == NFS4ERR_LAYOUTTRYLATER then None
    else if status == NFS4ERR_RECALLCONFLICT then None
    else if status == NFS4ERR_LAYOUTUNAVAILABLE then Some (unavailable detail)
    else Some (Status status detail)

-- the lowest component of a report, which isn't taken as a loss
abbrev pub silent_first : List ℕ → Option Outcome
silent_first [] = None
silent_first (k ∷ ks) = Some (Silent k)

abbrev pub failure_args : CallOp → Args → Answer → List Met → Option Outcome
failure_args op (args.LayoutGet x) a ms =
    if status_of a.results == NFS4_OK then why_in (taken a op) else status_failure (status_of a.results) a.detail
failure_args op (args.LayoutCommit x) a ms =
    if status_of a.results == NFS4_OK then None else Some (Status (status_of a.results) a.detail)
failure_args op (args.LayoutReturn x) a ms = if is_loss_taken a then None else silent_first (timed_in ms)

-- what the last that a call met says, where that is an answer
abbrev pub failure_at : CallOp → List Met → Option Outcome
failure_at op [] = None
failure_at op (Answered r a ∷ ms) = failure_args op r.args a ms
failure_at op (Replied a r ∷ ms) = None
failure_at op (TimedOut h k ∷ ms) = None

-- ---- how it fails

-- The first of these that applies: the third answer that the server is busy; the first refusal of a drive; in a write the first
-- timeout behind which it can't go on; in a read that what it asks is lost, by the layout of this grant.
abbrev pub cut_short : Option Held → CallOp → List Met → Option Outcome
cut_short g op ms =
    option_or (last_busy ms) (option_or (first_refusal ms) (option_or (first_beyond op ms) (lost_under op ms g)))

-- else what the last answer says
abbrev pub failure_in : Option Held → CallOp → List Met → Option Outcome
failure_in g op ms = option_or (cut_short g op ms) (failure_at op ms)
