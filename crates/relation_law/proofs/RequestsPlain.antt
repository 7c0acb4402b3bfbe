-- Events of no request leave what the machine has of requests, and of which lines all events are such.
use Rattle.std.proofs.Common.{◌≡◌, ℕ, List, [], ◌∷◌, Option, Some, None, refl, ◌∙◌}
use Rattle.std.specs.Prelude.{◌==◌, not}
use Rattle.osd_drive.specs.Table.{is_write as is_write_action}
use Rattle.osd_commands.specs.declared.commands.Command.{Command}
use Rattle.osd_commands.specs.declared.replies.Reply.{Reply}
use Rattle.client_rules.specs.declared.limits.TheConstants.{PERFORMED, OTHER_TAG}
use Rattle.client_rules.specs.Calls.{file_of, is_write}
use Rattle.client_rules.specs.Grants.{held_of}
use Rattle.client_rules.specs.Commands.{of_component}
use Rattle.client_rules.specs.Io.{awaited_in}
use Rattle.client_rules.specs.Replies.{timed_out}
use Rattle.client_rules.specs.Messages.{Message, Taken, TakesAnswer, TakesReply, TakesRecall, takes}
use Rattle.client_rules.specs.Steps.{awaited_component}
use Rattle.client_rules.specs.History.{Input, Calls, Hears, TimesOut, Leaves, Resends}
use Rattle.layout_ops.specs.declared.messages.Answer.{Answer}
use Rattle.osd_lists.specs.declared.node.Node.{Node}
use Rattle.world_history.specs.ClientNames.{Client, Call, CallOp, Held, Awaited, Phase, Needs, Close, Scatters, Turn, Goes, Ends, Outcome, WriteOk, ReadOk, Silent, Lost}
use Rattle.fence_law.specs.State.{State, Event, Grant}
use Rattle.fence_law.specs.State.Event.{Asks, Grants, Refuses, Takes, AsksOther, ServesOther, TakesOther, GivesBack, Reports, Frees}
use Rattle.fence_law.specs.Machine.{after, after_all}
use Rattle.file_simulation.specs.EventLists.{where_so, is_idle, is_writing, entry_of, write_of}
use Rattle.file_simulation.specs.ClientEvents as table
use Rattle.relation_law.specs.Frames.{AreAll}
use Rattle.relation_law.specs.Requests.{IsPlain, AskingStays}
use Rattle.relation_law.proofs.FramesStay.{all_more, related_by_all}
use Rattle.relation_law.proofs.FramesClient.{where_all, grant_all, either_all}

-- ---- events

pub asking_same : (s : State) → AskingStays s s
asking_same s = record {
  slot = refl;
  kept_grant = refl;
  kept_size = refl;
  sequence = refl;
  waiting = refl;
  away = refl;
  asked = refl;
  requests = refl;
  answers = refl;
}

pub asking_more : (s t u : State) → AskingStays s t → AskingStays t u → AskingStays s u
asking_more s t u a b = record {
  slot = b.slot ∙ a.slot;
  kept_grant = b.kept_grant ∙ a.kept_grant;
  kept_size = b.kept_size ∙ a.kept_size;
  sequence = b.sequence ∙ a.sequence;
  waiting = b.waiting ∙ a.waiting;
  away = b.away ∙ a.away;
  asked = b.asked ∙ a.asked;
  requests = b.requests ∙ a.requests;
  answers = b.answers ∙ a.answers;
}

pub asking_stays : (s : State) (e : Event) → IsPlain e → AskingStays s (after s e)
asking_stays s (Asks c rw) is = absurd is
asking_stays s (Grants c number rw range extending) is = absurd is
asking_stays s (Refuses c kind) is = absurd is
asking_stays s (Takes c o size) is = absurd is
asking_stays s (AsksOther c) is = absurd is
asking_stays s (ServesOther c) is = absurd is
asking_stays s (TakesOther c) is = absurd is
asking_stays s (GivesBack c g) is = absurd is
asking_stays s (Reports c g) is = absurd is
asking_stays s (Frees c) is = absurd is
asking_stays s e is = asking_same s

-- Events of no request leave what the machine has of requests.
pub asking_stays_all : (s : State) (es : List Event) → AreAll IsPlain es → AskingStays s (after_all s es)
asking_stays_all = related_by_all IsPlain AskingStays asking_same asking_more asking_stays

-- ---- the lines of a client that have only such events

abbrev Plain : List Event → Type 0
Plain = AreAll IsPlain

module _ (file c : ℕ) where
  was_performed : (s : State) (a : Awaited) (phase : Phase) → Plain (table.performed s c a phase)
  was_performed s a (Scatters io queue) = (tt, tt)
  was_performed s a phase = tt

  was_refused : (s : State) (phase : Phase) → Plain (table.refused s c phase)
  was_refused s (Scatters io queue) = (tt, tt)
  was_refused s phase = (tt, tt)

  pub taken_reply : (s : State) (a : Awaited) (r : Reply) (o : Option Call) → Plain (table.replied_in s file c a r o)
  taken_reply s a r None = tt
  taken_reply s a r (Some call) =
      where_all IsPlain (file_of call.op == file) _
      (either_all IsPlain (r.verdict == PERFORMED) _ _ (was_performed s a call.phase)
      (all_more IsPlain (table.refused s c call.phase) _ (was_refused s call.phase)
      (where_all IsPlain (r.verdict == OTHER_TAG) _ (tt, tt))))

  pub turned : (s : State) (t : Turn) → Plain (table.turned s c t)
  turned s (Ends (Silent k)) = (tt, tt)
  turned s (Ends (Lost positions)) = (tt, tt)
  turned s (Goes (Needs (Close outcome (e ∷ es)))) = (tt, tt)
  turned s t = tt

  timed_under : (s : State) (call : Call) (k : ℕ) (o : Option Held) (xs : List Awaited)
      → Plain (table.timed_under s c call k o xs)
  timed_under s call k (Some h) (a ∷ xs) = turned s (timed_out h call.op call.phase k a xs).turn
  timed_under s call k (Some h) [] = tt
  timed_under s call k None xs = tt

  timed : (s : State) (k : ℕ) (x : Client) (o : Option Call) → Plain (table.timed s file c k x o)
  timed s k x None = tt
  timed s k x (Some call) =
      where_all IsPlain (file_of call.op == file) _
      (timed_under s call k (held_of x.held file) (of_component k (awaited_in call.phase)))

  -- the first line, if no answer is taken
  by_taken : (s : State) (x : Client) (o : Option Taken) → ((a : Answer) → o ≡ Some (TakesAnswer a) → ⊥)
      → Plain (table.taken s file c x o)
  by_taken s x None none = tt
  by_taken s x (Some (TakesAnswer a)) none = absurd (none a refl)
  by_taken s x (Some (TakesReply a r)) none = taken_reply s a r x.call
  by_taken s x (Some (TakesRecall r)) none = tt

  pub first_plain : (s : State) (x : Client) (i : Input)
      → ((a : Answer) (from : Node) (m : Message) → i ≡ Hears from m → takes x from m ≡ Some (TakesAnswer a) → ⊥)
      → Plain (table.at_first s file c x i)
  first_plain s x (Hears from m) none = by_taken s x (takes x from m) (λ a is. none a from m refl is)
  first_plain s x (TimesOut k) none = timed s k x x.call
  first_plain s x (Calls op) none = tt
  first_plain s x Leaves none = tt
  first_plain s x Resends none = tt

  -- how the call has ended
  told_write : (s : State) → Plain (table.write_told s c)
  told_write s =
      all_more IsPlain (where_so (not (s.acknowledged (write_of s c))) _) _
      (where_all IsPlain (not (s.acknowledged (write_of s c))) _ (tt, tt)) (tt, tt)

  ended_with : (s : State) (op : CallOp) (o : Outcome) → Plain (table.ended_with s c op o)
  ended_with s op (WriteOk count) = where_all IsPlain (not (count == 0)) _ (told_write s)
  ended_with s op (ReadOk bytes) = (tt, tt)
  ended_with s op o = tt

  pub ended_plain : (s : State) (op : Option CallOp) (o : Option Outcome) → Plain (table.ended s file c op o)
  ended_plain s (Some op) (Some o) = where_all IsPlain (file_of op == file) _ (ended_with s op o)
  ended_plain s (Some op) None = tt
  ended_plain s None o = tt

  -- commands
  started : (h : Held) (op : CallOp) (g : Grant) → Plain (table.starts c h op g)
  started h op g = either_all IsPlain (is_write op) _ _ (tt, tt) (tt, tt)

  sent_on : (s : State) (k : Option ℕ) (x : Command) (g : Grant) → Plain (table.sends_on s c k x g)
  sent_on s None x g = tt
  sent_on s (Some k) x g = (tt, tt)

  sent_first : (s : State) (h : Held) (op : CallOp) (k : Option ℕ) (x : Command) (g : Grant)
      → Plain (table.sends_first s c h op k x g)
  sent_first s h op k x g = (tt, sent_on (after_all s (table.starts_write s c (entry_of s c) h op g)) k x g)

  sent_write : (s : State) (h : Held) (op : CallOp) (k : Option ℕ) (x : Command) (g : Grant)
      → Plain (table.sends_write s c h op k x g)
  sent_write s h op k x g =
      either_all IsPlain (is_writing (s.call c)) _ _ (sent_on s k x g)
      (either_all IsPlain (is_idle (s.call c)) _ _
      (tt, sent_first (after_all s (table.starts_gather c h op g)) h op k x g) (sent_first s h op k x g))

  commanded : (s : State) (h : Held) (op : CallOp) (k : Option ℕ) (x : Command) → Plain (table.commands s c h op k x)
  commanded s h op k x =
      grant_all IsPlain (s.held c) _
      (λ g. either_all IsPlain (is_write_action x.action) _ _ (sent_write s h op k x g)
      (where_all IsPlain (is_idle (s.call c)) _ (started h op g)))

  commanded_under : (s : State) (x : Client) (call : Call) (cmd : Command) (o : Option Held)
      → Plain (table.commands_under s c x call cmd o)
  commanded_under s x call cmd None = tt
  commanded_under s x call cmd (Some h) = commanded s h call.op (awaited_component x cmd.nonce) cmd

  pub commanded_in : (s : State) (x : Client) (cmd : Command) (o : Option Call) → Plain (table.commands_in s file c x cmd o)
  commanded_in s x cmd None = tt
  commanded_in s x cmd (Some call) =
      where_all IsPlain (file_of call.op == file) _ (commanded_under s x call cmd (held_of x.held file))
