-- The machine has drives' replies to the WRITEs that clients await, behind each whole move.
use Rattle.std.proofs.Common.{◌≡◌, ◌<◌, ◌^◌, ℕ, true, List, [], ◌∷◌, ◌++◌, nat_eq, length, take, Option, Some, None, Result, Ok, Err, refl, sym, ap, subst, ◌∙◌, inl, inr, arith}
use Rattle.std.proofs.lemmas.Bool.{and_parts, eqb-true, cases_eq}
use Rattle.std.proofs.lemmas.List.{append-nil}
use Rattle.osd_lists.specs.declared.node.Node.{Node}
use Rattle.osd_lists.specs.declared.node.Node.TheVariants as node
use Rattle.osd_commands.specs.declared.commands.Command.{Command}
use Rattle.osd_commands.specs.declared.commands.CommandErr.{CommandErr}
use Rattle.osd_commands.specs.declared.replies.Reply.{Reply}
use Rattle.osd_drive.specs.Table.{is_write as is_write_action}
use Rattle.scenario_text.specs.declared.line.Line.{Line}
use Rattle.scenario_text.specs.declared.names.TheConstants.{CLIENTS}
use Rattle.server_rules.specs.Laws.{In}
use Rattle.client_rules.specs.Calls.{file_of}
use Rattle.client_rules.specs.History.{step}
use Rattle.client_rules.specs.Io.{awaited_in}
use Rattle.client_rules.specs.Messages.{awaited_of}
use Rattle.world_history.specs.ClientNames.{Awaited, Call, Client}
use Rattle.world_history.specs.declared.messages.Body.{Body}
use Rattle.world_history.specs.declared.messages.Body.TheVariants.{Command as OfCommand, Reply as OfReply}
use Rattle.world_history.specs.declared.messages.Message.{Message}
use Rattle.world_history.specs.Drives.{command_in, judges}
use Rattle.world_history.specs.Guesses.{unguessed}
use Rattle.world_history.specs.Moves.{acts}
use Rattle.world_history.specs.ServerNames.{File}
use Rattle.world_history.specs.Sending.{Move, move}
use Rattle.world_history.specs.State.{World}
use Rattle.history_law.specs.Moments.{IsMoment, lines_in}
use Rattle.history_law.proofs.Coming.{clean_front}
use Rattle.exchange_law.specs.Sent.{message_of}
use Rattle.exchange_law.proofs.Awaited.{few_at}
use Rattle.exchange_law.proofs.Awaiting.{HasAnswer, IsAnswered, are_answered}
use Rattle.exchange_law.proofs.CommandRead.{nonce_read}
use Rattle.exchange_law.proofs.HeldWorlds.{next_moment}
use Rattle.exchange_law.proofs.Knowing.{lawful_at}
use Rattle.exchange_law.proofs.RefusalClients.{HasFew}
use Rattle.exchange_law.proofs.Turning.{sent_by}
use Rattle.fence_law.specs.Machine.{after, after_all}
use Rattle.fence_law.specs.State.{State, Event, WriteReply}
use Rattle.fence_law.specs.State.Event.{Performs}
use Rattle.fence_law.specs.Words.{In as InRun}
use Rattle.file_simulation.specs.Claim.{IsOfScenario}
use Rattle.file_simulation.specs.ClientEvents.{Going, going_in}
use Rattle.file_simulation.specs.Events.{joined, events_of}
use Rattle.file_simulation.specs.Relation.{client_of}
use Rattle.file_simulation.proofs.Fronts.{scenario_before}
use Rattle.relation_law.specs.Frames.{ByClient}
use Rattle.file_simulation.specs.Messages.{WasPerformed, is_scatter}
use Rattle.relation_law.specs.Steps.{FollowsWhole, owed, whole_behind}
use Rattle.relation_law.proofs.Followed.{all_taken}
use Rattle.relation_law.proofs.FramesFiles.{file_stays}
use Rattle.relation_law.proofs.FramesParties.{client_goes, client_before, client_behind, client_beside, clients_rest}
use Rattle.relation_law.proofs.ReadsDrive.{reply_nonce}
use Rattle.relation_law.proofs.ReadsMoves.{replied_before_or_now, by_action}
use Rattle.headline_law.specs.ClientTold.{AreTold, AwaitedWritesAreFound, ToldFollows}
use Rattle.headline_law.proofs.ClientAwaits.{NeverSent, one_of, op_stays, was_awaited, write_of}
use Rattle.headline_law.proofs.ClientDone.{reply_told}
use Rattle.headline_law.proofs.DriveLawful.{DriveLaws}

-- ---- the machine keeps its replies

one_more : (s : State) (e : Event) (r : WriteReply) → InRun r s.replies → InRun r (after s e).replies
one_more s (Performs m) r i = inr i
one_more s e r i = i

replies_stay : (s : State) (es : List Event) (r : WriteReply) → InRun r s.replies → InRun r (after_all s es).replies
replies_stay s [] r i = i
replies_stay s (e ∷ es) r i = replies_stay (after s e) es r (one_more s e r i)

-- ---- a reply to what the client never sent

message_is : (b : Message) (c d : ℕ) (x : Command) → b.from ≡ node.Client c → b.to ≡ node.Drive d → b.body ≡ OfCommand x →
    b ≡ message_of c d x
message_is b c d x from to body =
    ap (λ (z : Node). record { from = z; to = b.to; body = b.body }) from
    ∙ ap (λ (z : Node). record { from = node.Client c; to = z; body = b.body }) to
    ∙ ap (λ (z : Body). record { from = node.Client c; to = node.Drive d; body = z }) body

module _ (laws : DriveLaws) (w : World) (h : List Line) (k : IsMoment w h) (scenario : IsOfScenario h) (c : ℕ) (a : Awaited)
    (r : Reply) (p : WasPerformed w c a r) where
  has : HasAnswer w h c a.drive (OfReply r)
  has =
      (are_answered laws.known w h k (few_at w h k (omega (arith, scenario.few)))).replies
      (record { from = node.Drive a.drive; to = node.Client c; body = OfReply r }) p.told c a.drive refl refl

  abbrev answered : IsAnswered w h c a.drive has.reply
  answered = has.answered

  low : answered.command.nonce < 2 ^ 64
  low =
      ((laws.senders.places h (lawful_at w h k) scenario.text scenario.few w h [] (sym (append-nil h)) k).sent c a.drive
      answered.command
      (subst (λ (z : Message). In z (sent_by w))
      (message_is answered.replied.message.message c a.drive answered.command answered.replied.sender answered.replied.receiver
      answered.body) answered.asked)).nonce

  -- it was the command that the drive judged
  nonce_is : (o : Result Command CommandErr) → command_in (OfCommand answered.command) ≡ o →
      r ≡ (judges answered.replied.device o).reply → answered.command.nonce ≡ a.command.nonce
  unfolding judges
  nonce_is (Err why) read reply = absurd (cc (sym (ap (λ (q : Reply). q.verdict) reply) ∙ p.performed))
  nonce_is (Ok x) read reply =
      let both = and_parts (nat_eq a.command.nonce r.nonce) _ p.answers in
      let same : a.command.nonce ≡ x.nonce =
      eqb-true a.command.nonce r.nonce both.0 ∙ ap (λ (q : Reply). q.nonce) reply
      ∙ reply_nonce answered.replied.device.state answered.replied.device.clock x in
      omega (arith, same, nonce_read answered.command x read, low)

  unanswered : NeverSent w c a.command.nonce → ⊥
  unanswered never =
      never answered.command answered.replied.message.message answered.asked answered.replied.sender answered.body
      (nonce_is (command_in (OfCommand answered.command)) refl
      (is_reply has.is ∙ answered.replied.reply
      ∙ ap (λ (b : Body). (judges answered.replied.device (command_in b)).reply) answered.body))
    where
      is_reply : OfReply r ≡ OfReply has.reply → r ≡ has.reply
      is_reply e = cc e

-- ---- a move

module _ (laws : DriveLaws) (are_found : AwaitedWritesAreFound) (w : World) (h : List Line) (m : Move) (f g : File) (s : State)
    (k : FollowsWhole w h m f g s) (told : AreTold s w f) (c : ℕ) (low : c < CLIENTS) (call : Call)
    (is : (client_of (move w m).world c).call ≡ Some call) (here : file_of call.op ≡ f.kept.number)
    (scatter : is_scatter call.phase ≡ true) (a : Awaited) (r : Reply) (i : In a (awaited_in call.phase))
    (p : WasPerformed (move w m).world c a r) where
  abbrev v : World
  v = (move w m).world

  abbrev Goal : Type 0
  Goal = InRun (record { holder = c; nonce = a.command.nonce; at = a.ask.component }) (whole_behind k).replies

  abbrev moment : IsMoment w h
  moment = k.follows.moment

  next : IsMoment v (h ++ lines_in w m)
  next = next_moment w h moment m k.follows.is_due

  behind : IsOfScenario (h ++ lines_in w m)
  behind = subst (λ (ls : List Line). IsOfScenario (h ++ ls)) (all_taken (lines_in w m)) k.follows.calm.scenario

  before : IsOfScenario h
  before = scenario_before h (lines_in w m) behind

  clean : unguessed h ≡ true
  clean = clean_front h (take (length (lines_in w m)) (lines_in w m)) k.follows.calm.is_unguessed

  -- it is a WRITE
  kind : is_write_action a.command.action ≡ true
  kind = (one_of v (h ++ lines_in w m) next c call is a i).action ∙ scatter

  -- a call awaited it before
  awaited : (old : Call) → (client_of w c).call ≡ Some old → file_of old.op ≡ f.kept.number → In a (awaited_in old.phase) → Goal
  awaited old at on there = elim (replied_before_or_now w m a.drive c r p.told) [
    | inl told_before ↦
        replies_stay s (joined (events_of s w (owed k.follows.related) f m)) _
        (told c low old at on (sym (one_of w h moment c old at a there).action ∙ kind) a r there
        (record { told = told_before; answers = p.answers; performed = p.performed }))
    | inr now ↦
        reply_told laws are_found w h m f g s k before clean c low a r
        (record { call = old; is = at; here = on; awaits = there }) (write_of a.command.action kind) p.answers p.performed now
  ]

  -- another client's
  rests : client_of v c ≡ client_of w c → Goal
  rests same = awaited call (ap (λ (x : Client). x.call) (sym same) ∙ is) here i

  -- the client's own move
  module _ (j : Going) (goes : going_in w m.action ≡ Some j) (it : c ≡ j.client) where
    its : ByClient w m.action j (acts w m.chosen m.action)
    its = client_goes w h moment m k.follows.is_due j goes

    state_is : client_of w c ≡ j.state
    state_is = ap (λ (n : ℕ). client_of w n) it ∙ client_before w m.action j (acts w m.chosen m.action) its

    now_is : client_of v c ≡ (step j.state j.input).client
    now_is = ap (λ (n : ℕ). client_of v n) it ∙ client_behind w m j its

    of_old : (o : Option Call) → (client_of w c).call ≡ o → In a (awaited_of o) → Goal
    of_old None at there = absurd there
    of_old (Some old) at there =
        let same : call.op ≡ old.op =
        op_stays j.state j.input old call (ap (λ (x : Client). x.call) (sym state_is) ∙ at)
        (ap (λ (x : Client). x.call) (sym now_is) ∙ is) in
        awaited old at (ap file_of (sym same) ∙ here) there

    of_new : NeverSent w c a.command.nonce → Goal
    of_new never = elim (replied_before_or_now w m a.drive c r p.told) [
      | inl told_before ↦
          absurd (unanswered laws w h moment before c a r
          (record { told = told_before; answers = p.answers; performed = p.performed }) never)
      | inr now ↦
          absurd (cc (sym goes ∙ (by_action s w (owed k.follows.related) f m a.drive c r now m.action now.number).0))
    ]

    few : HasFew v
    few = few_at v (h ++ lines_in w m) next (omega (arith, behind.few))

    own : Goal
    own =
        let then_ : In a (awaited_of (client_of v c).call) = subst (λ (o : Option Call). In a (awaited_of o)) (sym is) i in
        elim (was_awaited laws.known w h m moment next few c a then_) [
          | inl old ↦ of_old (client_of w c).call refl old
          | inr never ↦ of_new never
        ]

  by_going : (o : Option Going) → going_in w m.action ≡ o → Goal
  by_going None none = rests (clients_rest w h moment m k.follows.is_due none c)
  by_going (Some j) goes = elim (cases_eq c j.client) [
    | inl it ↦ own j goes it
    | inr other ↦ rests (client_beside w m j (client_goes w h moment m k.follows.is_due j goes) c other)
  ]

-- where the awaited WRITEs that drives perform go to components that aren't missing
pub told_follows : DriveLaws → AwaitedWritesAreFound → ToldFollows
told_follows laws are_found w h m f g s k c low call is here scatter a r i p =
    by_going laws are_found w h m f g s k (λ n under. (k.follows.related.clients n under).told) c low call is (here ∙ number)
    scatter a r i p (going_in w m.action) refl
  where
    number : g.kept.number ≡ f.kept.number
    number =
        (file_stays w h k.follows.moment m k.follows.is_due f.kept.number f g k.follows.there k.follows.goes).same.number
