-- A turn of a client by cases: what comes to it, how its call begins, and what goes to the server.
use Rattle.std.specs.Prelude.{◌≡◌, ◌≢◌, ◌+◌, ℕ, true, false, List, ◌∷◌, Option, Some, None, Ok, Err, nat_lt, find}
use Rattle.osd_lists.specs.declared.node.Node.{Node}
use Rattle.osd_lists.specs.declared.node.Node.TheVariants.{Server as FromServer, Drive as FromDrive}
use Rattle.layout_ops.specs.declared.messages.Answer.{Answer}
use Rattle.client_rules.specs.declared.limits.TheConstants.{MAX_TRIES}
use Rattle.client_rules.specs.Answers.{unavailable, not_granted, on_commit, on_report}
use Rattle.client_rules.specs.Calls.{file_of, span_of}
use Rattle.client_rules.specs.Commands.{of_component}
use Rattle.client_rules.specs.Going.{quiet, over, with_held, by_turn, moved, begins, phased, asks_under, is_held, returns}
use Rattle.client_rules.specs.Grants.{covers, held_of}
use Rattle.client_rules.specs.History.{Input, Calls, Hears, TimesOut, Leaves, Resends}
use Rattle.client_rules.specs.Io.{awaited_in}
use Rattle.client_rules.specs.Layouts.{taken}
use Rattle.client_rules.specs.Messages.{Step, Message, Answers, Replies, Recalls, TakesAnswer, is_awaited, still, finished, on_call, obeys, no_match, takes}
use Rattle.client_rules.specs.Replies.{answers, replied, timed_out}
use Rattle.client_rules.specs.Results.{status_of}
use Rattle.client_rules.specs.Steps.{is_bad_range, is_spent, writes_nothing, all_due, resent}
use Rattle.world_history.specs.ClientNames.{Client, Call, CallOp, Held, Due, Awaited, TimedOut, Request, Recall, Reply, IoErr, Why, Done}
use Rattle.world_history.specs.ClientNames.{Need, First, Get, Commit, Report, Close, Starts, Needs, Waits, Turn, Goes, Ends}
use Rattle.world_history.specs.ClientNames.{Outcome, WriteOk, NoFile, HeldBy, Fencing, Status, BadLayout}

-- the client's call is this one, in that phase
abbrev pub IsBeginning : Client → CallOp → Type 0
IsBeginning c op = c.call ≡ Some (record { op = op; phase = Starts })

abbrev pub IsNeeding : Client → CallOp → Need → Type 0
IsNeeding c op n = c.call ≡ Some (record { op = op; phase = Needs n })

abbrev pub IsWaiting : Client → CallOp → Need → Type 0
IsWaiting c op n = c.call ≡ Some (record { op = op; phase = Waits n })

-- what a call needs that can't go to the drives at once: a grant, if it has none, or the return of one that doesn't cover it
abbrev pub IsFirstNeed : CallOp → Need → Option Held → Type 0
IsFirstNeed op (Get tries) None = tries ≡ 0
IsFirstNeed op (Get tries) (Some h) = ⊥
IsFirstNeed op First None = ⊥
IsFirstNeed op First (Some h) = covers h op ≡ false
IsFirstNeed op (Commit timed) h = ⊥
IsFirstNeed op (Report timed) h = ⊥
IsFirstNeed op (Close o report) h = ⊥

-- a call that begins
abbrev pub with_start : Client → CallOp → Client
with_start c op = record c { call = Some (record { op = op; phase = Starts }) }

-- a call whose range passes no limit, for which sequence numbers are left, and that isn't a write of no byte
pub record IsTakenUp (c : Client) (op : CallOp) : Type 0 where
  pub range : is_bad_range (span_of op) ≡ false
  pub numbers : is_spent c.next ≡ false
  pub some : writes_nothing op ≡ false

-- a reply to what the call awaits, under the grant that it has
pub record IsReplied (c : Client) (i : Input) (drive : ℕ) (q : Reply) (call : Call) (h : Held) (a : Awaited) : Type 0 where
  pub is : i ≡ Hears (FromDrive drive) (Replies q)
  pub call_is : c.call ≡ Some call
  pub held : held_of c.held (file_of call.op) ≡ Some h
  pub awaits : find (answers drive q) (awaited_in call.phase) ≡ Some a

-- component k, of which these commands are awaited, doesn't answer
pub record IsTimed (c : Client) (i : Input) (k : ℕ) (call : Call) (h : Held) (a : Awaited) (xs : List Awaited) : Type 0
  where
    pub is : i ≡ TimesOut k
    pub call_is : c.call ≡ Some call
    pub held : held_of c.held (file_of call.op) ≡ Some h
    pub awaits : of_component k (awaited_in call.phase) ≡ a ∷ xs

-- the answer to the outstanding request
pub record AnswerComes (c : Client) (i : Input) (a : Answer) : Type 0 where
  pub from : Node
  pub message : Message
  pub is : i ≡ Hears from message
  pub heard : i ≡ Hears FromServer (Answers a)
  pub takes_it : takes c from message ≡ Some (TakesAnswer a)
  pub request : Request
  pub outstanding : c.outstanding ≡ Some request
  pub awaited : is_awaited c a request ≡ true

-- So is P of a turn, where it is in each of these cases.
pub record TurnCases (c : Client) (i : Input) (P : Step → Type 0) : Type 0 where
  -- nothing happens
  pub rests : P (still c)
  -- a call of no byte is over, and any other begins
  pub nothing : (op : CallOp) → i ≡ Calls op → writes_nothing op ≡ true
      → P (record (still c) { outcome = Some (WriteOk 0) })
  pub called : (op : CallOp) → i ≡ Calls op → c.call ≡ None → IsTakenUp c op → P (finished (quiet (with_start c op)))
  -- a message is taken
  pub answered : (a : Answer) → AnswerComes c i a
      → P (finished (on_call (quiet (record c { outstanding = None })) c.call a))
  pub replied : (drive : ℕ) (q : Reply) (call : Call) (h : Held) (a : Awaited) → IsReplied c i drive q call h a
      → P (finished (moved (quiet c) call.op (replied h call.op call.phase a q)))
  -- a reply under no grant changes nothing
  pub unheld : P (finished (quiet c))
  pub recalled : (q : Recall) → i ≡ Hears FromServer (Recalls q) → P (finished (obeys c q))
  pub unmatched : (q : Recall) → i ≡ Hears FromServer (Recalls q) → P (finished (no_match c q))
  -- a component times out
  pub timed : (k : ℕ) (call : Call) (h : Held) (a : Awaited) (xs : List Awaited) → IsTimed c i k call h a xs
      → P (finished (moved (quiet c) call.op (timed_out h call.op call.phase k a xs)))
  -- the client leaves, or sends again what it waits for
  pub leaves : i ≡ Leaves → P (finished (quiet (record c { due = all_due c.due c.held })))
  pub resends : i ≡ Resends → P (record (still c) { sends = resent c })

-- So is P behind the begin of a call.
pub record BeginCases (d : Done) (P : Done → Type 0) : Type 0 where
  pub stays : P d
  pub needs : (op : CallOp) (n : Need) → IsBeginning d.client op → d.client.outstanding ≡ None
      → IsFirstNeed op n (held_of d.client.held (file_of op)) → P (phased d op (Needs n))
  pub begun : (op : CallOp) (h : Held) → IsBeginning d.client op → held_of d.client.held (file_of op) ≡ Some h
      → covers h op ≡ true → P (moved d op (begins h op))

-- So is P behind the request that may go out.
pub record ProgressCases (d : Done) (P : Done → Type 0) : Type 0 where
  -- a request is outstanding, the call needs none, or no number is left
  pub waits : (r : Request) → d.client.outstanding ≡ Some r → P d
  pub works : (call : Call) → d.client.call ≡ Some call → d.client.outstanding ≡ None → P d
  pub spent : d.client.call ≡ None → d.client.outstanding ≡ None → d.client.next ≡ 0 → P d
  -- the call's request goes out, under the grant that it has, if any
  pub asks : (op : CallOp) (n : Need) (h : Option Held) → IsNeeding d.client op n → d.client.outstanding ≡ None
      → held_of d.client.held (file_of op) ≡ h → P (asks_under d op n h)
  -- what is due goes back, if anything is
  pub gives_back : (u : Option Due) → d.client.call ≡ None → d.client.outstanding ≡ None → d.client.next ≢ 0
      → find (is_held d.client.held) d.client.due ≡ u → P (returns d u)

-- What a turn so far keeps is kept to its end.
pub record FinishCases (Q : Done → Type 0) : Type 0 where
  pub needs : (d : Done) (op : CallOp) (n : Need) → Q d → IsBeginning d.client op → d.client.outstanding ≡ None
      → IsFirstNeed op n (held_of d.client.held (file_of op)) → Q (phased d op (Needs n))
  pub begun : (d : Done) (op : CallOp) (h : Held) → Q d → IsBeginning d.client op
      → held_of d.client.held (file_of op) ≡ Some h → covers h op ≡ true → Q (moved d op (begins h op))
  pub asks : (d : Done) (op : CallOp) (n : Need) (h : Option Held) → Q d → IsNeeding d.client op n
      → d.client.outstanding ≡ None → held_of d.client.held (file_of op) ≡ h → Q (asks_under d op n h)
  pub gives_back : (d : Done) (u : Option Due) → Q d → d.client.call ≡ None → d.client.outstanding ≡ None
      → Q (returns d u)

-- So is P of what becomes of a call whose LAYOUTGET wasn't granted.
pub record RefusalCases (a : Answer) (tries : ℕ) (P : Turn → Type 0) : Type 0 where
  -- it asks once more, if it asked less often than it may
  pub again : nat_lt (tries + 1) MAX_TRIES ≡ true → P (Goes (Needs (Get (tries + 1))))
  -- or it ends: there is no such file, it is held or being fenced, no grant can be given, or for another status
  pub no_file : P (Ends NoFile)
  pub is_held : P (Ends (HeldBy a.detail))
  pub is_fenced : P (Ends (Fencing a.detail))
  pub none_given : P (Ends (unavailable a.detail))
  pub other : P (Ends (Status (status_of a.results) a.detail))

-- So is P after an answer to the call.
pub record AnswerCases (d : Done) (a : Answer) (P : Done → Type 0) : Type 0 where
  -- no call waits
  pub stays : P d
  -- the grant that was in the way is returned
  pub returned : (op : CallOp) → IsWaiting d.client op First → P (phased d op Starts)
  -- a grant is given, or one that can't be used, or none
  pub granted : (op : CallOp) (tries : ℕ) (h : Held) → IsWaiting d.client op (Get tries) → taken a op ≡ Ok h
      → P (phased (with_held d h) op Starts)
  pub unusable : (op : CallOp) (tries : ℕ) (w : Why) → IsWaiting d.client op (Get tries) → taken a op ≡ Err w
      → P (over d (BadLayout w))
  pub refused : (op : CallOp) (tries : ℕ) → IsWaiting d.client op (Get tries) → P (by_turn d op (not_granted a tries))
  -- a commit, a report or the return at the end is answered
  pub committed : (op : CallOp) (timed : List TimedOut) (h : Held) → IsWaiting d.client op (Commit timed)
      → held_of d.client.held (file_of op) ≡ Some h → P (moved d op (on_commit h op a timed))
  pub reported : (op : CallOp) (timed : List TimedOut) → IsWaiting d.client op (Report timed)
      → P (over d (on_report op a timed))
  pub closed : (op : CallOp) (o : Outcome) (report : List IoErr) → IsWaiting d.client op (Close o report) → P (over d o)
