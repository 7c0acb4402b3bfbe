-- A turn of a client by cases, with the events of its first line.
use Rattle.std.specs.Prelude.{◌≡◌, ◌==◌, ℕ, true, false, List, [], Some, None, find}
use Rattle.osd_lists.specs.declared.node.Node.TheVariants.{Server as FromServer}
use Rattle.layout_ops.specs.declared.messages.Answer.{Answer}
use Rattle.client_rules.specs.Calls.{file_of}
use Rattle.client_rules.specs.Going.{quiet, moved}
use Rattle.client_rules.specs.Grants.{held_of}
use Rattle.client_rules.specs.History.{Input, Calls, Hears, Leaves, Resends}
use Rattle.client_rules.specs.Io.{awaited_in}
use Rattle.client_rules.specs.Messages.{Step, Recalls, still, finished, on_call, obeys, no_match}
use Rattle.client_rules.specs.Replies.{answers, replied, timed_out}
use Rattle.client_rules.specs.Steps.{writes_nothing, all_due}
use Rattle.world_history.specs.ClientNames.{Client, Call, CallOp, Done, Held, Awaited, Recall, Reply, WriteOk}
use Rattle.history_law.specs.Turns.{IsReplied, IsTimed, AnswerComes, with_start}
use Rattle.fence_law.specs.State.{State, Event}
use Rattle.file_simulation.specs.EventLists.{where_so}
use Rattle.file_simulation.specs.ClientEvents as table

-- A reply comes to a call that holds no grant.
pub record IsUnheld (x : Client) (i : Input) : Type 0 where
  pub drive : ℕ
  pub reply : Reply
  pub call : Call
  pub awaited : Awaited
  pub call_is : x.call ≡ Some call
  pub held : held_of x.held (file_of call.op) ≡ None
  pub awaits : find (answers drive reply) (awaited_in call.phase) ≡ Some awaited

-- So is P of a turn and the events of its first line, where it is in each of these cases. What is sent once more has no event,
-- and no case.
pub record EventCases (file : ℕ) (s : State) (c : ℕ) (x : Client) (i : Input) (P : List Event → Step → Type 0) : Type 0
  where
    -- nothing happens
    pub rests : P [] (still x)
    -- a call of no byte is over, and any other begins
    pub nothing : (op : CallOp) → i ≡ Calls op → writes_nothing op ≡ true
        → P [] (record (still x) { outcome = Some (WriteOk 0) })
    pub called : (op : CallOp) → i ≡ Calls op → x.call ≡ None → P [] (finished (quiet (with_start x op)))
    -- a message is taken
    pub answered : (a : Answer) → AnswerComes x i a → P (table.answered s file c x a x.outstanding)
        (finished (on_call (quiet (record x { outstanding = None })) x.call a))
    pub replied : (drive : ℕ) (q : Reply) (call : Call) (h : Held) (a : Awaited) → IsReplied x i drive q call h a
        → P (where_so (file_of call.op == file) (table.replied s c a q call.phase))
        (finished (moved (quiet x) call.op (replied h call.op call.phase a q)))
    pub unheld : IsUnheld x i → (es : List Event) (t : Step) → P es t
    pub recalled : (q : Recall) → i ≡ Hears FromServer (Recalls q) → P [] (finished (obeys x q))
    pub unmatched : (q : Recall) → i ≡ Hears FromServer (Recalls q) → P [] (finished (no_match x q))
    -- a component times out
    pub timed : (k : ℕ) (call : Call) (h : Held) (a : Awaited) (xs : List Awaited) → IsTimed x i k call h a xs
        → P (where_so (file_of call.op == file) (table.turned s c (timed_out h call.op call.phase k a xs).turn))
        (finished (moved (quiet x) call.op (timed_out h call.op call.phase k a xs)))
    -- the client leaves
    pub leaves : i ≡ Leaves → P [] (finished (quiet (record x { due = all_due x.due x.held })))
    -- what it waits for is sent again
    pub resends : i ≡ Resends → (es : List Event) (t : Step) → P es t

-- In the middle of a turn the client is so, behind the events of its first line: its call is new, an answer was taken, a reply
-- or a timeout was, or its call is as it was.
pub data IsTurn (file : ℕ) (s : State) (c : ℕ) (x : Client) (i : Input) (es : List Event) (d : Done) : Type 0 where
  Begins : (op : CallOp) → i ≡ Calls op → x.call ≡ None → writes_nothing op ≡ false → es ≡ [] → d ≡ quiet (with_start x op) →
      IsTurn file s c x i es d
  Answered : (a : Answer) → AnswerComes x i a → es ≡ table.answered s file c x a x.outstanding →
      d ≡ on_call (quiet (record x { outstanding = None })) x.call a → IsTurn file s c x i es d
  Replied : (drive : ℕ) (q : Reply) (call : Call) (h : Held) (a : Awaited) → IsReplied x i drive q call h a →
      es ≡ where_so (file_of call.op == file) (table.replied s c a q call.phase) →
      d ≡ moved (quiet x) call.op (replied h call.op call.phase a q) → IsTurn file s c x i es d
  Timed : (k : ℕ) (call : Call) (h : Held) (a : Awaited) (xs : List Awaited) → IsTimed x i k call h a xs →
      es ≡ where_so (file_of call.op == file) (table.turned s c (timed_out h call.op call.phase k a xs).turn) →
      d ≡ moved (quiet x) call.op (timed_out h call.op call.phase k a xs) → IsTurn file s c x i es d
  Stays : es ≡ [] → d.client.call ≡ x.call → d.client.held ≡ x.held → d.client.outstanding ≡ x.outstanding →
      d.client.next ≡ x.next → d.commands ≡ [] → d.outcome ≡ None → IsTurn file s c x i es d
