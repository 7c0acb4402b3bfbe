-- All events of a client's move are that client's.
use Rattle.std.proofs.Common.{◌≡◌, ℕ, Bool, true, false, List, [], ◌∷◌, Option, Some, None, refl}
use Rattle.std.specs.Prelude.{◌==◌, not, is_some, if◌then◌else◌}
use Rattle.layout_ops.specs.declared.args.Args.{Args}
use Rattle.layout_ops.specs.declared.args.Args.TheVariants as args
use Rattle.layout_ops.specs.declared.statuses.TheConstants.{NFS4_OK}
use Rattle.layout_ops.specs.declared.messages.Answer.{Answer}
use Rattle.osd_drive.specs.Table.{is_write as is_write_action}
use Rattle.osd_commands.specs.declared.commands.Command.{Command}
use Rattle.osd_commands.specs.declared.replies.Reply.{Reply}
use Rattle.client_rules.specs.declared.limits.TheConstants.{PERFORMED, OTHER_TAG}
use Rattle.client_rules.specs.Calls.{file_of, is_write}
use Rattle.client_rules.specs.Grants.{held_of}
use Rattle.client_rules.specs.Results.{status_of}
use Rattle.client_rules.specs.Answers.{is_loss_taken}
use Rattle.client_rules.specs.Commands.{of_component}
use Rattle.client_rules.specs.Io.{awaited_in}
use Rattle.client_rules.specs.Replies.{timed_out}
use Rattle.client_rules.specs.Messages.{Step, Taken, TakesAnswer, TakesReply, TakesRecall, takes}
use Rattle.client_rules.specs.Steps.{awaited_component}
use Rattle.client_rules.specs.History.{Input, Calls, Hears, TimesOut, Leaves, Resends, step}
use Rattle.world_history.specs.ClientNames as client_rules
use Rattle.world_history.specs.ClientNames.{Client, Call, CallOp, Held, Awaited, Request, Phase, Needs, Close, Scatters, Turn, Goes, Ends, Outcome, WriteOk, ReadOk, Silent, Lost, Outgoing}
use Rattle.world_history.specs.State.{World}
use Rattle.world_history.specs.Handed.{op_in}
use Rattle.world_history.specs.ServerNames.{File}
use Rattle.world_history.specs.Moves as moves
use Rattle.world_history.specs.Sending.{Move}
use Rattle.history_law.specs.Read.{leads}
use Rattle.fence_law.specs.State.{State, Event, Grant}
use Rattle.fence_law.specs.State.RequestKind.{Get, Return}
use Rattle.fence_law.specs.Machine.{after_all}
use Rattle.file_simulation.specs.Requests.{RequestClass, Own, Other, phase_of, return_class}
use Rattle.file_simulation.specs.EventLists.{Lines, where_so, of_grant, is_idle, is_writing, entry_of, write_of}
use Rattle.file_simulation.specs.ClientEvents as table
use Rattle.file_simulation.specs.Events.{events_of, led_by}
use Rattle.relation_law.specs.Frames.{AreAll, LinesAre, IsOfClient}
use Rattle.relation_law.proofs.FramesStay.{all_more}

-- ---- lists

pub where_all : (P : Event → Type 0) (b : Bool) (es : List Event) → AreAll P es → AreAll P (where_so b es)
where_all P true es a = a
where_all P false es a = tt

pub grant_all : (P : Event → Type 0) (o : Option Grant) (does : Grant → List Event) → ((g : Grant) → AreAll P (does g))
    → AreAll P (of_grant o does)
grant_all P None does each = tt
grant_all P (Some g) does each = each g

pub either_all : (P : Event → Type 0) (b : Bool) (es fs : List Event) → AreAll P es → AreAll P fs
    → AreAll P (if b then es else fs)
either_all P true es fs a d = a
either_all P false es fs a d = d

-- an event's own line has none
pub led_all : (P : Event → Type 0) (a : moves.Action) (lines : Lines) → LinesAre P lines → LinesAre P (led_by a lines)
led_all P (moves.Opens e) lines all = either (leads e) all
  where
    either : (b : Bool) → LinesAre P lines → LinesAre P (if b then [] ∷ lines else lines)
    either true all = (tt, all)
    either false all = all
led_all P (moves.Delivers n) lines all = all
led_all P (moves.TimesOut c k) lines all = all
led_all P (moves.Pends c) lines all = all

-- ---- what a client takes

module _ (file c : ℕ) where
  abbrev Own_all : List Event → Type 0
  Own_all = AreAll (IsOfClient c)

  taken_return : (s : State) (a : Answer) (k : RequestClass) → Own_all (table.return_answered s c a k)
  taken_return s a (Own kind) = (refl, tt)
  taken_return s a Other = either_all (IsOfClient c) (is_loss_taken a) _ _ (refl, tt) (refl, (refl, (refl, tt)))

  taken_here : (s : State) (a : Answer) (phase : Option Phase) (r : Args) → Own_all (table.answered_here s c a phase r)
  taken_here s a phase (args.LayoutGet x) = (refl, tt)
  taken_here s a phase (args.LayoutCommit x) =
      either_all (IsOfClient c) (status_of a.results == NFS4_OK) _ _ (refl, (refl, tt)) (refl, (refl, tt))
  taken_here s a phase (args.LayoutReturn x) = taken_return s a (return_class phase)

  taken_answer : (s : State) (x : Client) (a : Answer) (o : Option Request) → Own_all (table.answered s file c x a o)
  taken_answer s x a None = tt
  taken_answer s x a (Some r) =
      either_all (IsOfClient c) (r.file == file) _ _ (taken_here s a (phase_of x.call) r.args) (refl, tt)

  was_performed : (s : State) (a : Awaited) (phase : Phase) → Own_all (table.performed s c a phase)
  was_performed s a (Scatters io queue) = (refl, tt)
  was_performed s a phase = tt

  was_refused : (s : State) (phase : Phase) → Own_all (table.refused s c phase)
  was_refused s (Scatters io queue) = (refl, tt)
  was_refused s phase = (refl, tt)

  taken_reply : (s : State) (a : Awaited) (r : Reply) (o : Option Call) → Own_all (table.replied_in s file c a r o)
  taken_reply s a r None = tt
  taken_reply s a r (Some call) =
      where_all (IsOfClient c) (file_of call.op == file) _
      (either_all (IsOfClient c) (r.verdict == PERFORMED) _ _ (was_performed s a call.phase)
      (all_more (IsOfClient c) (table.refused s c call.phase) _ (was_refused s call.phase)
      (where_all (IsOfClient c) (r.verdict == OTHER_TAG) _ (refl, tt))))

  is_taken : (s : State) (x : Client) (o : Option Taken) → Own_all (table.taken s file c x o)
  is_taken s x None = tt
  is_taken s x (Some (TakesAnswer a)) = taken_answer s x a x.outstanding
  is_taken s x (Some (TakesReply a r)) = taken_reply s a r x.call
  is_taken s x (Some (TakesRecall r)) = tt

  -- ---- a component times out

  turned : (s : State) (t : Turn) → Own_all (table.turned s c t)
  turned s (Ends (Silent k)) = (refl, tt)
  turned s (Ends (Lost positions)) = (refl, tt)
  turned s (Goes (Needs (Close outcome (e ∷ es)))) = (refl, tt)
  turned s t = tt

  timed_under : (s : State) (call : Call) (k : ℕ) (o : Option Held) (xs : List Awaited)
      → Own_all (table.timed_under s c call k o xs)
  timed_under s call k (Some h) (a ∷ xs) = turned s (timed_out h call.op call.phase k a xs).turn
  timed_under s call k (Some h) [] = tt
  timed_under s call k None xs = tt

  timed : (s : State) (k : ℕ) (x : Client) (o : Option Call) → Own_all (table.timed s file c k x o)
  timed s k x None = tt
  timed s k x (Some call) =
      where_all (IsOfClient c) (file_of call.op == file) _
      (timed_under s call k (held_of x.held file) (of_component k (awaited_in call.phase)))

  pub at_first : (s : State) (x : Client) (i : Input) → Own_all (table.at_first s file c x i)
  at_first s x (Hears from m) = is_taken s x (takes x from m)
  at_first s x (TimesOut k) = timed s k x x.call
  at_first s x (Calls op) = tt
  at_first s x Leaves = tt
  at_first s x Resends = tt

  -- ---- how the call has ended

  told_write : (s : State) → Own_all (table.write_told s c)
  told_write s =
      all_more (IsOfClient c) (where_so (not (s.acknowledged (write_of s c))) _) _
      (where_all (IsOfClient c) (not (s.acknowledged (write_of s c))) _ (refl, tt)) (tt, tt)

  ended_with : (s : State) (op : CallOp) (o : Outcome) → Own_all (table.ended_with s c op o)
  ended_with s op (WriteOk count) = where_all (IsOfClient c) (not (count == 0)) _ (told_write s)
  ended_with s op (ReadOk bytes) = (refl, tt)
  ended_with s op o = tt

  pub ended : (s : State) (op : Option CallOp) (o : Option Outcome) → Own_all (table.ended s file c op o)
  ended s (Some op) (Some o) = where_all (IsOfClient c) (file_of op == file) _ (ended_with s op o)
  ended s (Some op) None = tt
  ended s None o = tt

  -- ---- what a client sends

  returned : (s : State) (k : RequestClass) → Own_all (table.returns s c k)
  returned s (Own (Return true)) = grant_all (IsOfClient c) (s.held c) _ (λ g. (refl, tt))
  returned s (Own (Return false)) = grant_all (IsOfClient c) (s.held c) _ (λ g. (refl, tt))
  returned s (Own (Get rw)) = tt
  returned s Other = (refl, tt)

  asked_here : (s : State) (phase : Option Phase) (r : Args) → Own_all (table.asks_here s c phase r)
  asked_here s phase (args.LayoutGet x) = (refl, tt)
  asked_here s phase (args.LayoutCommit x) = (refl, (refl, tt))
  asked_here s phase (args.LayoutReturn x) = returned s (return_class phase)

  asked : (s : State) (x : Client) (r : Request) → Own_all (table.asks s file c x r)
  asked s x r = either_all (IsOfClient c) (r.file == file) _ _ (asked_here s (phase_of x.call) r.args) (refl, tt)

  started : (h : Held) (op : CallOp) (g : Grant) → Own_all (table.starts c h op g)
  started h op g = either_all (IsOfClient c) (is_write op) _ _ (refl, tt) (refl, tt)

  sent_on : (s : State) (k : Option ℕ) (x : Command) (g : Grant) → Own_all (table.sends_on s c k x g)
  sent_on s None x g = tt
  sent_on s (Some k) x g = (refl, tt)

  sent_first : (s : State) (h : Held) (op : CallOp) (k : Option ℕ) (x : Command) (g : Grant)
      → Own_all (table.sends_first s c h op k x g)
  sent_first s h op k x g = (refl, sent_on (after_all s (table.starts_write s c (entry_of s c) h op g)) k x g)

  sent_write : (s : State) (h : Held) (op : CallOp) (k : Option ℕ) (x : Command) (g : Grant)
      → Own_all (table.sends_write s c h op k x g)
  sent_write s h op k x g =
      either_all (IsOfClient c) (is_writing (s.call c)) _ _ (sent_on s k x g)
      (either_all (IsOfClient c) (is_idle (s.call c)) _ _
      (refl, sent_first (after_all s (table.starts_gather c h op g)) h op k x g) (sent_first s h op k x g))

  commanded : (s : State) (h : Held) (op : CallOp) (k : Option ℕ) (x : Command) → Own_all (table.commands s c h op k x)
  commanded s h op k x =
      grant_all (IsOfClient c) (s.held c) _
      (λ g. either_all (IsOfClient c) (is_write_action x.action) _ _ (sent_write s h op k x g)
      (where_all (IsOfClient c) (is_idle (s.call c)) _ (started h op g)))

  commanded_under : (s : State) (x : Client) (call : Call) (cmd : Command) (o : Option Held)
      → Own_all (table.commands_under s c x call cmd o)
  commanded_under s x call cmd None = tt
  commanded_under s x call cmd (Some h) = commanded s h call.op (awaited_component x cmd.nonce) cmd

  commanded_in : (s : State) (x : Client) (cmd : Command) (o : Option Call) → Own_all (table.commands_in s file c x cmd o)
  commanded_in s x cmd None = tt
  commanded_in s x cmd (Some call) =
      where_all (IsOfClient c) (file_of call.op == file) _ (commanded_under s x call cmd (held_of x.held file))

  pub sent : (s : State) (x : Client) (o : Outgoing) → Own_all (table.sends s file c x o)
  sent s x (client_rules.AnswersRecall a) = tt
  sent s x (client_rules.Asks r) = asked s x r
  sent s x (client_rules.ToDrive d cmd) = commanded_in s x cmd x.call

  pub sent_all : (s : State) (x : Client) (os : List Outgoing) → LinesAre (IsOfClient c) (table.sends_all s file c x os)
  unfolding table.sends_all
  sent_all s x [] = tt
  sent_all s x (o ∷ os) = (sent s x o, sent_all (after_all s (table.sends s file c x o)) x os)

  -- ---- a step of a client

  at_end : (s : State) (op : Option CallOp) (did : Step) → LinesAre (IsOfClient c) (table.at_end s file c op did)
  at_end s op did = either (is_some did.outcome)
    where
      either : (b : Bool) → LinesAre (IsOfClient c)
          (if b then table.ended s file c op did.outcome
          ∷ table.sends_all (after_all s (table.ended s file c op did.outcome)) file c did.client did.sends
          else table.sends_all s file c did.client did.sends)
      either true =
          (ended s op did.outcome, sent_all (after_all s (table.ended s file c op did.outcome)) did.client did.sends)
      either false = sent_all s did.client did.sends

  goes_on : (s : State) (x : Client) (i : Input) → LinesAre (IsOfClient c)
      (table.at_first s file c x i ∷ table.at_end (after_all s (table.at_first s file c x i)) file c (op_in x i) (step x i))
  goes_on s x i = (at_first s x i, at_end (after_all s (table.at_first s file c x i)) (op_in x i) (step x i))

  pub client_step_lines : (s : State) (x : Client) (i : Input) → LinesAre (IsOfClient c) (table.client_goes s file c x i)
  client_step_lines s x (Hears from m) = goes_on s x (Hears from m)
  client_step_lines s x (TimesOut k) = goes_on s x (TimesOut k)
  client_step_lines s x (Calls op) = goes_on s x (Calls op)
  client_step_lines s x Leaves = goes_on s x Leaves
  client_step_lines s x Resends = tt

-- All events of a move in which a client goes on are that client's.
pub client_lines : (s : State) (w : World) (e : ℕ → ℕ) (f : File) (m : Move) (g : table.Going)
    → table.going_in w m.action ≡ Some g → LinesAre (IsOfClient g.client) (events_of s w e f m)
client_lines s w e f m g is =
    rw is (led_all (IsOfClient g.client) m.action (table.client_goes s f.kept.number g.client g.state g.input)
    (client_step_lines f.kept.number g.client s g.state g.input))
