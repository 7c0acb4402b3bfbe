-- A client that sends a WRITE in a move has a write pending in the log, in front of the move's messages.
-- `SentInWrites` (`proofs/MarksNewPending.antt`).
use Rattle.std.proofs.Common.{◌≡◌, ◌++◌, ℕ, true, List, length, Option, Some, None, refl, sym, ap, subst, ◌∙◌}
use Rattle.std.specs.List.{fold}
use Rattle.std.specs.Prelude.{option_map}
use Rattle.std.proofs.lemmas.Bool.{true≢false}
use Rattle.osd_commands.specs.declared.actions.Action.TheVariants.{Write}
use Rattle.osd_commands.specs.declared.commands.Command.{Command}
use Rattle.osd_drive.specs.Table.{is_write as is_write_action}
use Rattle.scenario_text.specs.declared.line.Line.{Line}
use Rattle.server_rules.specs.Laws.{In}
use Rattle.server_rules.proofs.Members.{in_filtered}
use Rattle.client_rules.specs.Calls.{is_write}
use Rattle.client_rules.specs.History.{step}
use Rattle.client_rules.specs.Messages.{awaited_of}
use Rattle.world_history.specs.ClientNames.{Awaited, Call, CallOp, Client, Held, Phase, Request, Starts, Needs, Waits, Reads, Probes, Gathers, Scatters, ToDrive}
use Rattle.world_history.specs.declared.messages.Message.{Message}
use Rattle.world_history.specs.Handed.{client_posts, data_in, is_addressed, op_in, pending_op, wrote_in}
use Rattle.world_history.specs.Moves.{acts, op_of}
use Rattle.world_history.specs.Plans.{due}
use Rattle.world_history.specs.ReadLog.{Log, Pending, log_after, log_in}
use Rattle.world_history.specs.Sending.{Move, move}
use Rattle.world_history.specs.State.{World, at_number}
use Rattle.history_law.specs.Moments.{IsMoment, plan_at, with_event, lines_in}
use Rattle.history_law.proofs.Ending.{next_moment}
use Rattle.exchange_law.specs.Calls.{CallFine, Knows, PhaseFine}
use Rattle.exchange_law.specs.Meeting.{ClientsAgree, IsMet, KeptGood}
use Rattle.exchange_law.specs.Sent.{message_of}
use Rattle.exchange_law.proofs.ClientMoves.{clients_always}
use Rattle.exchange_law.proofs.CountMoments.{reached}
use Rattle.exchange_law.proofs.Knowing.{lawful_at}
use Rattle.cause_law.specs.Readable.{FilesAndAnswersAreReadable}
use Rattle.name_law.specs.ClientTells.{CallsOfTextArePending}
use Rattle.file_simulation.specs.Claim.{IsOfScenario}
use Rattle.file_simulation.specs.Messages.{is_scatter}
use Rattle.file_simulation.specs.Tied.{WasPosted}
use Rattle.exchange_law.specs.Pending.{logged_op}
use Rattle.relation_law.specs.Working.{CallWorks, ClientWorks}
use Rattle.relation_law.proofs.ComponentsSenders.{SenderLaws}
use Rattle.relation_law.proofs.OwnFacts.{works_kept}
use Rattle.exchange_law.proofs.PendingLines.{sent_keeps}
use Rattle.relation_law.proofs.WorksRun.{step_works}
use Rattle.headline_law.proofs.MarksNewLines.{Writes}
use Rattle.headline_law.proofs.MarksNewPending.{SentInWrites, log_is}
use Rattle.headline_law.proofs.MarksNewResends.{posts_to}
use Rattle.headline_law.proofs.MarksNewSent.{AreOfClient, IsPostAt, post_at, post_in, posts_of}
use Rattle.headline_law.proofs.MarksWrites.{IsNew}
use Rattle.headline_law.proofs.MarksWritesSent.{read_is}
use Rattle.headline_law.proofs.SentAwaited.{sends_awaited}
use Rattle.headline_law.proofs.SentTurn.{awaited_works}

-- what is known of histories
pub record PendingLaws : Type 0 where
  pub calls : CallsOfTextArePending
  pub agree : ClientsAgree
  pub readable : FilesAndAnswersAreReadable
  pub senders : SenderLaws

-- a call that scatters is a write
scatters_write : (K : Knows) (o : Option Held) (out : Option Request) (op : CallOp) (p : Phase) → PhaseFine K o out op p →
    is_scatter p ≡ true → is_write op ≡ true
scatters_write K None out op (Scatters io queue) k t = absurd k.0
scatters_write K (Some h) out op (Scatters io queue) k t = k.0.0
scatters_write K o out op Starts k t = absurd (true≢false (sym t))
scatters_write K o out op (Needs n) k t = absurd (true≢false (sym t))
scatters_write K o out op (Waits n) k t = absurd (true≢false (sym t))
scatters_write K o out op (Reads io) k t = absurd (true≢false (sym t))
scatters_write K o out op (Probes io) k t = absurd (true≢false (sym t))
scatters_write K o out op (Gathers io) k t = absurd (true≢false (sym t))

-- it is pending
abbrev IsPendingWrite : Option Call → Type 0
IsPendingWrite o = (op : CallOp) × (option_map (λ (q : Call). q.op) o ≡ Some op) × (is_write op ≡ true)

-- a call that awaits a WRITE is a write
awaits_write : (K : Knows) (hs : List Held) (out : Option Request) (o : Option Call) → CallWorks hs o → CallFine K hs out o →
    (a : Awaited) → In a (awaited_of o) → a.command.action ≡ Write → IsPendingWrite o
awaits_write K hs out None works fine a i write = absurd i
awaits_write K hs out (Some call) works fine a i write =
    let held = works.0 (awaited_works call.phase a i) in
    let scatters : is_scatter call.phase ≡ true =
    sym ((works.1 held.0 held.1).ones a i).action ∙ ap is_write_action write in
    (call.op, refl, scatters_write K _ out call.op call.phase fine.1 scatters)

-- the call of the log is a write, where it is that of the client
logged_write : (o : Option Pending) (op : CallOp) → logged_op o ≡ Some op → is_write op ≡ true → Writes o
logged_write None op e write = absurd (cc e)
logged_write (Some p) op e write =
    let same : op_of p.call ≡ op = cc e in (p, refl, ap is_write same ∙ write)

module _ (laws : PendingLaws) (w : World) (h : List Line) (m : Move) (moment : IsMoment w h)
    (is_due : due (plan_at moment) w ≡ Some m.action) (scenario : IsOfScenario (h ++ lines_in w m)) (n c d : ℕ) (x : Command)
    (new : IsNew w n) (p : WasPosted (move w m).world n c d x) (write : x.action ≡ Write) where
  abbrev v : World
  v = (move w m).world

  next : IsMoment (move w m).world (h ++ lines_in w m)
  next = next_moment w h moment m is_due

  -- ---- its turn

  at_ : IsPostAt w (acts w m.chosen m.action) n p.posted.message
  at_ = post_at w m n c d x new p

  its : AreOfClient w m.action c (acts w m.chosen m.action)
  its =
      posts_of w m.chosen m.action at_.post c (post_in w m n p.posted.message at_)
      (ap (λ (y : Message). y.from) (sym at_.message) ∙ p.sender)

  abbrev z : Client
  z = (step its.at.state its.input).client

  -- the command that is sent
  sent : (y : Command) × In (ToDrive d y) (step its.at.state its.input).sends × (at_.post.message ≡ message_of c d y)
  sent =
      posts_to c (wrote_in its.at its.input) (data_in (op_in its.at.state its.input)) (step its.at.state its.input).sends
      at_.post d
      (in_filtered is_addressed at_.post
      (client_posts c (wrote_in its.at its.input) (data_in (op_in its.at.state its.input))
      (step its.at.state its.input).sends)
      (subst (In at_.post) its.posts (post_in w m n p.posted.message at_))).0
      (ap (λ (y : Message). y.to) (sym at_.message) ∙ p.receiver)

  -- it is a WRITE
  writes : sent.0.action ≡ Write
  writes =
      sym (read_is laws.senders v (h ++ lines_in w m) next scenario n c d x p sent.0
      (ap (λ (y : Message). y.body) (at_.message ∙ sent.2))).1.action
      ∙ write

  works_before : ClientWorks its.at.state
  works_before = clients_always (λ n y. ClientWorks y) works_kept w (reached w h moment) c its.at its.found

  -- which the client awaits behind its turn
  awaited : (a : Awaited) × In a (awaited_of z.call) × (a.command ≡ sent.0)
  awaited = sends_awaited its.at.state its.input works_before d sent.0 sent.1

  works : ClientWorks z
  works = step_works its.at.state works_before its.input

  met : IsMet v.server c z
  met =
      subst (IsMet v.server c) its.behind
      (laws.agree v (h ++ lines_in w m) next
      (laws.readable (h ++ lines_in w m) (lawful_at v (h ++ lines_in w m) next) scenario.text scenario.few) c)

  -- so its call is a write
  pending : IsPendingWrite z.call
  pending =
      awaits_write (KeptGood v.server c) z.held z.outstanding z.call works met.call awaited.0 awaited.1
      (ap (λ (y : Command). y.action) awaited.2 ∙ writes)

  -- ---- the log in front of the messages

  abbrev front : Log
  front = fold log_after (log_in h) (with_event m.action (acts w m.chosen m.action).told)

  logged : logged_op (at_number front.pending c) ≡ Some pending.0
  logged =
      sym ((sent_keeps front (length (acts w m.chosen m.action).world.network.messages) (acts w m.chosen m.action).posts).1 c)
      ∙ sym (ap (λ (l : Log). logged_op (at_number l.pending c)) (log_is w h m))
      ∙ laws.calls v (h ++ lines_in w m) next scenario.text c ∙ ap pending_op its.behind ∙ pending.1

  pub front_writes : Writes (at_number front.pending c)
  front_writes = logged_write (at_number front.pending c) pending.0 logged pending.2

-- Where a client sends a WRITE, its pending call is a write.
pub sent_in_writes : PendingLaws → SentInWrites
sent_in_writes laws w h m moment is_due scenario n c d x new p write =
    front_writes laws w h m moment is_due scenario n c d x new p write
