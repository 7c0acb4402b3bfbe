-- What a client awaits behind a move it awaited before it, or no drive has replied to it.
-- Towards `ReadsFollow` (`headline_law/specs/Parts.antt`).
use Rattle.std.proofs.Common.{◌≡◌, ◌⊎◌, ◌++◌, ◌<◌, ◌%◌, ◌^◌, ℕ, true, List, [], Option, Result, Ok, Err, refl, sym, ap, subst, ◌∙◌, inl, inr, arith}
use Rattle.std.specs.Prelude.{◌==◌}
use Rattle.std.proofs.lemmas.Bool.{cases_eq, and_parts, eqb-true}
use Rattle.std.proofs.lemmas.List.{append-nil}
use Rattle.osd_lists.specs.declared.node.Node.TheVariants as node
use Rattle.osd_commands.specs.declared.commands.Command.{Command}
use Rattle.osd_commands.specs.declared.commands.CommandErr.{CommandErr}
use Rattle.osd_commands.specs.declared.replies.Reply.{Reply}
use Rattle.scenario_text.specs.declared.line.Line.{Line}
use Rattle.server_rules.specs.Laws.{In}
use Rattle.client_rules.specs.declared.limits.TheConstants.{PERFORMED}
use Rattle.client_rules.specs.Messages.{awaited_of}
use Rattle.client_rules.specs.Replies.{answers}
use Rattle.client_rules.specs.History.{step as client_step}
use Rattle.world_history.specs.ClientNames.{Awaited, Client}
use Rattle.world_history.specs.declared.messages.Body.{Body}
use Rattle.world_history.specs.declared.messages.Body.TheVariants.{Command as OfCommand, Reply as OfReply}
use Rattle.world_history.specs.declared.messages.Message.{Message}
use Rattle.world_history.specs.Drives.{command_in, judges}
use Rattle.world_history.specs.Moves.{acts, Act}
use Rattle.world_history.specs.Sending.{Move, move}
use Rattle.world_history.specs.State.{World, ClientAt, at_number}
use Rattle.history_law.specs.Moments.{IsMoment, lines_in}
use Rattle.exchange_law.specs.InStep.{state_of}
use Rattle.exchange_law.specs.Sent.{HasSent}
use Rattle.exchange_law.proofs.Awaited.{few_at}
use Rattle.exchange_law.proofs.Awaiting.{HasAnswer, are_answered}
use Rattle.exchange_law.proofs.CommandRead.{nonce_read}
use Rattle.exchange_law.proofs.Knowing.{lawful_at}
use Rattle.exchange_law.proofs.RefusalClients.{HasFew, Known, clients_ran, client_awaits, fewer_before}
use Rattle.exchange_law.proofs.Turning.{sent_by, Becomes, Turn, ByServer, ByClient, ByDrive, Makes, Stops, Rests, ClientDoes}
use Rattle.exchange_law.proofs.Turns.{acts_turn}
use Rattle.cause_law.specs.Readable.{PlacesAreEnough}
use Rattle.file_simulation.specs.Claim.{IsOfScenario}
use Rattle.file_simulation.specs.Messages.{HasReplied}
use Rattle.file_simulation.specs.Relation.{client_of}
use Rattle.relation_law.proofs.Heard.{message_is}
use Rattle.relation_law.proofs.ReadsDrive.{reply_nonce}

-- no command of the client had this nonce
abbrev pub IsUnused : World → (client nonce : ℕ) → Type 0
IsUnused w c v =
    (z : Command) (n : Message) → In n (sent_by w) → n.from ≡ node.Client c → n.body ≡ OfCommand z → z.nonce ≡ v → ⊥

-- ---- what is awaited

module _ (q : Known) (w : World) (h : List Line) (m : Move) (k : IsMoment w h)
    (next : IsMoment (move w m).world (h ++ lines_in w m)) (few : HasFew (move w m).world) (c : ℕ) (x : Awaited) where
  abbrev v : World
  v = (move w m).world

  abbrev a : Act
  a = acts w m.chosen m.action

  -- it was awaited before, or is new
  Stays : Type 0
  Stays =
      In x (awaited_of (client_of (move w m).world c).call) →
      In x (awaited_of (client_of w c).call) ⊎ IsUnused w c x.command.nonce

  same_state : at_number v.clients c ≡ at_number w.clients c → Stays
  unfolding Stays
  same_state same i = inl (subst (λ (o : Option ClientAt). In x (awaited_of (state_of c o).call)) same i)

  others : (client : ℕ) (now : ClientAt) → Becomes w a.world client now →
      (c ≡ client → Stays) → Stays
  others client now becomes mine = elim (cases_eq c client) [
    | inl it ↦ mine it
    | inr other ↦ same_state (becomes.others c other)
  ]

  -- the client's state behind the move
  there : (client : ℕ) (now : ClientAt) → Becomes w a.world client now → c ≡ client → client_of v c ≡ now.state
  there client now becomes it =
      ap (state_of c) (ap (at_number v.clients) it ∙ becomes.there)

  by_client : (t : ClientDoes w a) → c ≡ t.client → Stays
  unfolding Stays
  by_client t it i =
      let state : client_of v c ≡ (client_step t.caller.state t.input).client =
      there t.client t.now t.becomes it ∙ t.state in
      let before : client_of w c ≡ t.caller.state = ap (state_of c) (ap (at_number w.clients) it ∙ t.found) in
      elim (client_awaits q w h m k next few (clients_ran q w h k (fewer_before w m few)) t x
      (subst (λ (y : Client). In x (awaited_of y.call)) state i)) [
        | inl old ↦ inl (subst (λ (y : Client). In x (awaited_of y.call)) (sym before) old)
        | inr new ↦ inr (λ z n j from body same. new z n j (from ∙ ap (λ (p : ℕ). node.Client p) it) body same)
      ]

  by_turn : Turn w m.action a → Stays
  unfolding Stays
  by_turn (ByServer t) = same_state (t.clients c)
  by_turn (ByClient t) = others t.client t.now t.becomes (by_client t)
  by_turn (ByDrive t) = same_state (t.clients c)
  by_turn (Makes t) =
      others t.client t.now t.becomes
      (λ it i. absurd (subst (λ (y : Client). In x (awaited_of y.call)) (there t.client t.now t.becomes it ∙ t.state) i))
  by_turn (Stops t) =
      others t.client t.now t.becomes
      (λ it i.
      let before : client_of w c ≡ t.caller.state = ap (state_of c) (ap (at_number w.clients) it ∙ t.found) in
      inl (subst (λ (y : Client). In x (awaited_of y.call)) (there t.client t.now t.becomes it ∙ t.state ∙ sym before) i))
  by_turn (Rests t) = same_state (t.clients c)

  pub stays_or_new : In x (awaited_of (client_of (move w m).world c).call) →
      In x (awaited_of (client_of w c).call) ⊎ IsUnused w c x.command.nonce
  unfolding Stays
  stays_or_new = by_turn (acts_turn w m.chosen m.action).turn

-- ---- what was replied to

module _ (q : Known) (places : PlacesAreEnough) (w : World) (h : List Line) (k : IsMoment w h) (scenario : IsOfScenario h)
    (d c : ℕ) (r : Reply) (told : HasReplied w d c r) (done : r.verdict ≡ PERFORMED) where
  has : HasAnswer w h c d (OfReply r)
  has =
      (are_answered q w h k (few_at w h k (omega (arith, scenario.few)))).replies
      (record { from = node.Drive d; to = node.Client c; body = OfReply r }) told c d refl refl

  -- the message to which the drive replied
  abbrev asked : Message
  asked = has.answered.replied.message.message

  sent : HasSent w c d has.answered.command
  sent =
      subst (λ (z : Message). In z (sent_by w))
      (message_is asked (node.Client c) (node.Drive d) (OfCommand has.answered.command) has.answered.replied.sender
      has.answered.replied.receiver has.answered.body) has.answered.asked

  low : has.answered.command.nonce < 2 ^ 64
  low =
      ((places h (lawful_at w h k) scenario.text scenario.few w h [] (sym (append-nil h)) k).sent c d has.answered.command
      sent).nonce

  same : r ≡ has.reply
  same = cc has.is

  by_reading : (o : Result Command CommandErr) → command_in (OfCommand has.answered.command) ≡ o →
      r ≡ (judges has.answered.replied.device o).reply → r.nonce ≡ has.answered.command.nonce
  unfolding judges
  by_reading (Err why) reads is = absurd (cc (sym (ap (λ (y : Reply). y.verdict) is) ∙ done))
  by_reading (Ok z) reads is =
      let nonce : r.nonce ≡ z.nonce =
      ap (λ (y : Reply). y.nonce) is
      ∙ reply_nonce has.answered.replied.device.state has.answered.replied.device.clock z in
      let read : z.nonce ≡ has.answered.command.nonce % 2 ^ 64 = nonce_read has.answered.command z reads in
      omega (arith, nonce, read, low)

  nonce_is : r.nonce ≡ has.answered.command.nonce
  nonce_is =
      by_reading (command_in (OfCommand has.answered.command)) refl
      (same ∙ has.answered.replied.reply
      ∙ ap (λ (b : Body). (judges has.answered.replied.device (command_in b)).reply) has.answered.body)

  -- it isn't one to a command with a nonce that wasn't used
  pub not_unused : (a : Awaited) → answers d r a ≡ true → IsUnused w c a.command.nonce → ⊥
  not_unused a ok unused =
      let both = and_parts (a.command.nonce == r.nonce) _ ok in
      unused has.answered.command asked has.answered.asked has.answered.replied.sender has.answered.body
      (sym nonce_is ∙ sym (eqb-true a.command.nonce r.nonce both.0))
