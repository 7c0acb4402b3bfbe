-- Each reply of a drive to a command that a client still awaits was given when the client awaited it.
use Rattle.std.proofs.Common.{◌≡◌, ◌⊎◌, ◌==◌, ◌||◌, ℕ, ◌/◌, ◌%◌, ◌≤◌, ◌<◌, ◌^◌, Bool, false, true≢false, List, [], ◌∷◌, ◌++◌, Option, Some, None, filter, length, refl, sym, ap, subst, ◌∙◌, arith, inl, inr}
use Rattle.std.proofs.lemmas.Bool.{cases_eq}
use Rattle.osd_lists.specs.declared.node.Node.TheVariants as node
use Rattle.osd_commands.specs.declared.commands.Command.{Command}
use Rattle.osd_commands.specs.declared.replies.Reply.{Reply}
use Rattle.client_rules.specs.declared.limits.TheConstants.{NONCES, PERFORMED}
use Rattle.client_rules.specs.Messages.{awaited_of}
use Rattle.client_rules.specs.History.{step as client_step}
use Rattle.history_law.specs.Said.{posted}
use Rattle.exchange_law.specs.ClientNonces.{grant_of}
use Rattle.exchange_law.proofs.Rising.{Each, IsAmong}
use Rattle.server_rules.specs.Laws.{In}
use Rattle.server_rules.specs.History.{step as server_step}
use Rattle.server_rules.proofs.Members.{in_either}
use Rattle.history_law.specs.State.{Client, Awaited, Outgoing, AnswersRecall, Asks, ToDrive}
use Rattle.scenario_text.specs.declared.line.Line.{Line}
use Rattle.world_history.specs.declared.messages.Body.{Body}
use Rattle.world_history.specs.declared.messages.Body.TheVariants.{Command as OfCommand, Reply as OfReply}
use Rattle.world_history.specs.declared.messages.Message.{Message}
use Rattle.world_history.specs.State.{ClientAt, World, at_number, empty_world}
use Rattle.world_history.specs.Drives.{judges, command_in}
use Rattle.world_history.specs.Handed.{Post, is_addressed, is_write_out, client_posts}
use Rattle.world_history.specs.Moves.{Act, acts}
use Rattle.world_history.specs.Sending.{Move, move}
use Rattle.history_law.specs.BookMoments.{IsMoment, lines_in}
use Rattle.exchange_law.proofs.Along.{at_moment}
use Rattle.exchange_law.proofs.Turning.{sent_by, body_in, AreSame, Turn, ByServer, ByClient, ByDrive, Makes, Stops, Rests, ClientDoes, DriveDoes}
use Rattle.exchange_law.proofs.Turns.{acts_turn, messages_behind}
use Rattle.exchange_law.proofs.Replied.{IsReplied, replied_on, drive_replied, addressed, from_server, from_client, none_posted}
use Rattle.exchange_law.proofs.CommandRead.{nonce_read, reply_carries}
use Rattle.exchange_law.proofs.RefusalGiven.{AreOrdered}
use Rattle.exchange_law.proofs.RefusalSending.{command_of}
use Rattle.exchange_law.proofs.Ran.{WasTaken, HasRun, still_sent}
use Rattle.exchange_law.proofs.RefusalClients.{HasFew, Known, clients_ran, few_sent, fewer_before, grants_few, client_awaits}

-- ---- nonces

pub each_at : (P : ℕ → Type 0) (xs : List ℕ) (x : ℕ) → Each P xs → IsAmong x xs → P x
each_at P [] x e i = absurd i
each_at P (y ∷ xs) x e (inl is) = subst P (sym is) e.0
each_at P (y ∷ xs) x e (inr i) = each_at P xs x e.1 i

-- the nonce of a command that was sent is not 0, and has 64 bits
record IsNonce (n : ℕ) : Type 0 where
  some : 1 ≤ n
  low : n < 2 ^ 64

of_grant : (n : ℕ) → 1 ≤ n / NONCES → n / NONCES < 4294967296 → IsNonce n
of_grant n some low = record { some = omega (arith, some); low = omega (arith, low) }

nonce_sent : (w : World) (c : ℕ) (x : Client) → AreOrdered w → w.server.next_grant < 2 ^ 32
    → length (sent_by w) < 2 ^ 31 → HasRun w c x → (m : Message) (y : Command) → In m (sent_by w)
    → m.from ≡ node.Client c → m.body ≡ OfCommand y → IsNonce y.nonce
nonce_sent w c x o grants few k m y i from body =
    let among = k.sent m i from y body in
    let kept = k.keeping (omega (arith, k.few, few)) in
    let grant : IsAmong (grant_of y.nonce) k.before =
    each_at (λ z. IsAmong (grant_of z) k.before) k.xs y.nonce kept.known among in
    let t : WasTaken w c x (grant_of y.nonce) = each_at (WasTaken w c x) k.before (grant_of y.nonce) k.taken grant in
    let some : 1 ≤ grant_of y.nonce = o.positive c t.sequence (grant_of y.nonce) (inr t.sent) in
    let less : grant_of y.nonce < w.server.next_grant = o.numbers c t.sequence (grant_of y.nonce) (inr t.sent) in
    of_grant y.nonce some (omega (arith, less, grants))

-- ---- what was awaited

-- the message was a command that the client awaited in that world, where it wasn't stopped
pub record WasAwaiting (w : World) (m : Message) (c d : ℕ) (x : Awaited) : Type 0 where
  pub caller : ClientAt
  pub there : at_number w.clients c ≡ Some caller
  pub alive : caller.stopped ≡ false
  pub awaits : In x (awaited_of caller.state.call)
  pub drive : x.drive ≡ d
  pub body : m.body ≡ OfCommand x.command

abbrev pub IsRefused : Reply → Type 0
IsRefused r = (r.verdict == PERFORMED) ≡ false

-- A reply, the command that was sent for it, and that this was awaited then, if it is still awaited.
pub record IsAnswered (w : World) (h : List Line) (c d : ℕ) (r : Reply) : Type 0 where
  pub replied : IsReplied h c d r
  pub asked : In replied.message.message (sent_by w)
  pub command : Command
  pub body : replied.message.message.body ≡ OfCommand command
  pub nonce : IsRefused r → (r.nonce % 2 ^ 64 ≡ command.nonce) ⊎ (r.nonce % 2 ^ 64 ≡ 0)
  pub awaited : (a : ClientAt) → at_number w.clients c ≡ Some a → a.stopped ≡ false → (x : Awaited)
      → In x (awaited_of a.state.call) → IsRefused r → x.command.nonce ≡ r.nonce % 2 ^ 64
      → WasAwaiting replied.world replied.message.message c d x

pub record HasAnswer (w : World) (h : List Line) (c d : ℕ) (body : Body) : Type 0 where
  pub reply : Reply
  pub is : body ≡ OfReply reply
  pub answered : IsAnswered w h c d reply

pub record AreAnswered (w : World) (h : List Line) : Type 0 where
  pub replies : (m : Message) → In m (sent_by w) → (c d : ℕ) → m.from ≡ node.Drive d → m.to ≡ node.Client c
      → HasAnswer w h c d m.body
  pub commands : (m : Message) → In m (sent_by w) → (c d : ℕ) → m.from ≡ node.Client c → m.to ≡ node.Drive d
      → (y : Command) × (m.body ≡ OfCommand y)

-- ---- a move

to_drives : (m : Message) (c d : ℕ) (wrote : Bool) (logged : ℕ) (os : List Outgoing)
    → In m (posted (client_posts c wrote logged os)) → m.to ≡ node.Drive d → (y : Command) × (m.body ≡ OfCommand y)
to_drives m c d wrote logged [] i to = absurd i
to_drives m c d wrote logged (ToDrive e y ∷ os) (inl is) to = (y, ap (λ (z : Message). z.body) is)
to_drives m c d wrote logged (Asks r ∷ os) (inl is) to = absurd (cc (sym to ∙ ap (λ (z : Message). z.to) is))
to_drives m c d wrote logged (AnswersRecall a ∷ os) (inl is) to =
    absurd (cc (sym to ∙ ap (λ (z : Message). z.to) is))
to_drives m c d wrote logged (o ∷ os) (inr i) to = to_drives m c d (wrote || is_write_out o) logged os i to

module _ (q : Known) (w : World) (h : List Line) (m : Move) (k : IsMoment w h)
    (next : IsMoment (move w m).world (h ++ lines_in w m)) (few : HasFew (move w m).world) (r : AreAnswered w h) where
  abbrev a : Act
  a = acts w m.chosen m.action

  abbrev v : World
  v = (move w m).world

  abbrev after : List Line
  after = h ++ lines_in w m

  -- what is still awaited then was awaited before, or has the nonce of no command that was sent
  abbrev StaysAwaited : ℕ → Type 0
  StaysAwaited c =
      (b : ClientAt) → at_number v.clients c ≡ Some b → b.stopped ≡ false → (x : Awaited)
      → In x (awaited_of b.state.call)
      → ((e : ClientAt) × (at_number w.clients c ≡ Some e) × (e.stopped ≡ false) × In x (awaited_of e.state.call))
      ⊎ (((z : Command) (n : Message) → In n (sent_by w) → n.from ≡ node.Client c → n.body ≡ OfCommand z
      → z.nonce ≡ x.command.nonce → ⊥) × IsNonce x.command.nonce)

  answered_on : (c d : ℕ) (y : Reply) → StaysAwaited c → IsAnswered w h c d y → IsAnswered v after c d y
  answered_on c d y stays k0 = record {
    replied = replied_on h (lines_in w m) c d y k0.replied;
    asked = still_sent w v _ (messages_behind w m) k0.replied.message.message k0.asked;
    command = k0.command;
    body = k0.body;
    nonce = k0.nonce;
    awaited =
        λ b found alive x i refused same. elim (stays b found alive x i) [
          | inl (e, there, awake, before) ↦ k0.awaited e there awake x before refused same
          | inr (fresh, some) ↦ elim (k0.nonce refused) [
            | inl is ↦
                absurd (fresh k0.command k0.replied.message.message k0.asked k0.replied.sender k0.body
                (sym is ∙ sym same))
            | inr none ↦ absurd (omega (arith, some.some, same, none))
          ]
        ];
  }

  all_on : ((c : ℕ) → StaysAwaited c)
      → ((x : Message) → In x (posted a.posts) → (c d : ℕ) → x.from ≡ node.Drive d → x.to ≡ node.Client c
      → HasAnswer v after c d x.body)
      → ((x : Message) → In x (posted a.posts) → (c d : ℕ) → x.from ≡ node.Client c → x.to ≡ node.Drive d
      → (y : Command) × (x.body ≡ OfCommand y)) → AreAnswered v after
  all_on stays new orders = record {
    replies =
        λ x i c d from to. elim (in_either x (sent_by w) (posted a.posts) (subst (In x) (messages_behind w m) i)) [
          | inl old ↦
              let b = r.replies x old c d from to in
              record { reply = b.reply; is = b.is; answered = answered_on c d b.reply (stays c) b.answered }
          | inr fresh ↦ new x fresh c d from to
        ];
    commands =
        λ x i c d from to. elim (in_either x (sent_by w) (posted a.posts) (subst (In x) (messages_behind w m) i)) [
          | inl old ↦ r.commands x old c d from to
          | inr fresh ↦ orders x fresh c d from to
        ];
  }

  same_clients : AreSame w a.world → (c : ℕ) → StaysAwaited c
  same_clients same c b found alive x i = inl (b, sym (same c) ∙ found, alive, i)

  -- ---- a client

  now_there : (x y : ClientAt) → Some x ≡ Some y → x ≡ y
  now_there x y e = cc e

  client_stays : (t : ClientDoes w a) → (c : ℕ) → StaysAwaited c
  client_stays t c b found alive x i = elim (cases_eq c t.client) [
    | inl it ↦
        let here : t.now ≡ b = now_there t.now b (sym t.becomes.there
        ∙ ap (λ (n : ℕ). at_number v.clients n) (sym it) ∙ found) in
        let state : b.state ≡ (client_step t.caller.state t.input).client =
        ap (λ (z : ClientAt). z.state) (sym here) ∙ t.state in
        let awake : t.caller.stopped ≡ false =
        sym t.stopped ∙ ap (λ (z : ClientAt). z.stopped) here ∙ alive in
        let awaits : In x (awaited_of (client_step t.caller.state t.input).client.call) =
        subst (λ (z : Client). In x (awaited_of z.call)) state i in
        let before = clients_ran q w h k (fewer_before w m few) in
        let then_ = clients_ran q v after next few in
        let there : at_number w.clients c ≡ Some t.caller = ap (at_number w.clients) it ∙ t.found in
        elim (client_awaits q w h m k next few before t x awaits) [
          | inl old ↦ inl (t.caller, there, awake, old)
          | inr fresh ↦ inr (
            λ z n sent from body same. fresh z n sent (from ∙ ap (λ (p : ℕ). node.Client p) it) body same,
            nonce_sent v c b.state then_.ordered (grants_few q v after next few) (few_sent v few)
                (then_.clients c b found) (command_of c x.drive x.command) x.command
                ((then_.clients c b found).awaited x i) refl refl,
          )
        ]
    | inr other ↦ inl (b, sym (t.becomes.others c other) ∙ found, alive, i)
  ]

  -- ---- a drive

  -- a client that sent a command is there
  sender_nonce : (p : Message) (y : Command) (c : ℕ) → In p (sent_by w) → p.from ≡ node.Client c → p.body ≡ OfCommand y
      → IsNonce y.nonce
  sender_nonce p y c i from body = by_client (at_number w.clients c) refl
    where
      by_client : (o : Option ClientAt) → at_number w.clients c ≡ o → IsNonce y.nonce
      by_client None gone = absurd ((clients_ran q w h k (fewer_before w m few)).absent c gone p i from)
      by_client (Some b) there =
          nonce_sent w c b.state (clients_ran q w h k (fewer_before w m few)).ordered
          (grants_few q w h k (fewer_before w m few)) (few_sent w (fewer_before w m few))
          ((clients_ran q w h k (fewer_before w m few)).clients c b there) p y i from body

  same_drive : (d e : ℕ) → node.Drive d ≡ node.Drive e → d ≡ e
  same_drive d e is = cc is

  drive_answers : (t : DriveDoes w m.action a) (c : ℕ) → t.message.message.from ≡ node.Client c
      → IsAnswered v after c t.drive (judges t.device (command_in t.message.message.body)).reply
  drive_answers t c from =
      let p : Message = t.message.message in
      let y : Reply = (judges t.device (command_in p.body)).reply in
      let there : In p (sent_by w) = body_in w.network.messages t.number t.message t.found in
      let of = r.commands p there c t.drive from t.receiver in
      let ran = clients_ran q w h k (fewer_before w m few) in
      let nonces : IsRefused y → (y.nonce % 2 ^ 64 ≡ of.0.nonce) ⊎ (y.nonce % 2 ^ 64 ≡ 0) =
      λ refused. elim (reply_carries t.device (command_in p.body) refused) [
        | inl (z, read, is) ↦
            let same : z.nonce ≡ of.0.nonce % 2 ^ 64 =
            nonce_read of.0 z (ap (λ (b : Body). command_in b) (sym of.1) ∙ read) in
            let low : IsNonce of.0.nonce = sender_nonce p of.0 c there from of.1 in
            inl (omega (arith, is, same, low.low))
        | inr none ↦ inr (omega (arith, none))
      ] in
      record {
        replied = drive_replied w h m k t c from;
        asked = still_sent w v _ (messages_behind w m) p there;
        command = of.0;
        body = of.1;
        nonce = nonces;
        awaited =
            λ b found alive x i refused same.
            let here : at_number w.clients c ≡ Some b = sym (t.clients c) ∙ found in
            let run = ran.clients c b here in
            let mine : Message = command_of c x.drive x.command in
            elim (nonces refused) [
              | inl is ↦
                  let it : p ≡ mine =
                  run.unique p mine there (run.awaited x i) from refl of.0 x.command of.1 refl (sym is ∙ sym same) in
                  record {
                    caller = b;
                    there = here;
                    alive = alive;
                    awaits = i;
                    drive = same_drive x.drive t.drive (sym (ap (λ (z : Message). z.to) it) ∙ t.receiver);
                    body = ap (λ (z : Message). z.body) it;
                  }
              | inr none ↦
                  let some : IsNonce x.command.nonce = sender_nonce mine x.command c (run.awaited x i) refl refl in
                  absurd (omega (arith, some.some, same, none))
            ];
      }

  -- ---- any

  none_answer : ((x : Message) → In x (posted a.posts) → (d : ℕ) → x.from ≡ node.Drive d → ⊥)
      → (x : Message) → In x (posted a.posts) → (c d : ℕ) → x.from ≡ node.Drive d → x.to ≡ node.Client c
      → HasAnswer v after c d x.body
  none_answer none x i c d from to = absurd (none x i d from)

  turn_answered : Turn w m.action a → AreAnswered v after
  turn_answered (ByServer t) =
      let server : (x : Message) → In x (posted a.posts) → x.from ≡ node.Server =
      λ x i. from_server x (server_step w.server t.chosen t.input).sends
      (subst (λ (l : List Post). In x (posted l)) t.posts i) in
      all_on (same_clients t.clients) (none_answer (λ x i d from. cc (sym from ∙ server x i)))
      (λ x i c d from to. absurd (cc (sym from ∙ server x i)))
  turn_answered (ByClient t) =
      let there : (x : Message) → In x (posted a.posts)
      → In x (posted (filter is_addressed (client_posts t.client t.wrote t.logged
      (client_step t.caller.state t.input).sends))) =
      λ x i. subst (λ (l : List Post). In x (posted l)) t.posts i in
      all_on (client_stays t)
      (none_answer (λ x i d from.
      let here : x.from ≡ node.Client t.client = from_client x t.client t.wrote t.logged
      (client_step t.caller.state t.input).sends (there x i) in
      cc (sym from ∙ here)))
      (λ x i c d from to.
      to_drives x t.client d t.wrote t.logged (client_step t.caller.state t.input).sends
      (addressed x (client_posts t.client t.wrote t.logged (client_step t.caller.state t.input).sends) (there x i)) to)
  turn_answered (ByDrive t) =
      all_on (same_clients t.clients)
      (λ x i c d from to. elim (subst (λ (l : List Post). In x (posted l)) t.posts i) [
        | inl e ↦
            let party : node.Drive d ≡ node.Drive t.drive = sym from ∙ ap (λ (z : Message). z.from) e in
            let drive : d ≡ t.drive = cc party in
            let sender : t.message.message.from ≡ node.Client c = sym (ap (λ (z : Message). z.to) e) ∙ to in
            let all : HasAnswer v after c t.drive x.body = record {
              reply = (judges t.device (command_in t.message.message.body)).reply;
              is = ap (λ (z : Message). z.body) e;
              answered = drive_answers t c sender;
            } in
            subst (λ (n : ℕ). HasAnswer v after c n x.body) (sym drive) all
        | inr none ↦ absurd none
      ])
      (λ x i c d from to. elim (subst (λ (l : List Post). In x (posted l)) t.posts i) [
        | inl e ↦
            let here : x.from ≡ node.Drive t.drive = ap (λ (z : Message). z.from) e in absurd (cc (sym from ∙ here))
        | inr none ↦ absurd none
      ])
  turn_answered (Makes t) =
      all_on (λ c b found alive x i. elim (cases_eq c t.client) [
        | inl it ↦
            let here : t.now ≡ b = now_there t.now b (sym t.becomes.there
            ∙ ap (λ (n : ℕ). at_number v.clients n) (sym it) ∙ found) in
            absurd (subst (λ (z : Client). In x (awaited_of z.call))
            (ap (λ (z : ClientAt). z.state) (sym here) ∙ t.state) i)
        | inr other ↦ inl (b, sym (t.becomes.others c other) ∙ found, alive, i)
      ]) (none_answer (λ x i d from. none_posted x a.posts t.posts i))
      (λ x i c d from to. absurd (none_posted x a.posts t.posts i))
  turn_answered (Stops t) =
      all_on (λ c b found alive x i. elim (cases_eq c t.client) [
        | inl it ↦
            let here : t.now ≡ b = now_there t.now b (sym t.becomes.there
            ∙ ap (λ (n : ℕ). at_number v.clients n) (sym it) ∙ found) in
            absurd (true≢false (sym t.stopped ∙ ap (λ (z : ClientAt). z.stopped) here ∙ alive))
        | inr other ↦ inl (b, sym (t.becomes.others c other) ∙ found, alive, i)
      ]) (none_answer (λ x i d from. none_posted x a.posts t.posts i))
      (λ x i c d from to. absurd (none_posted x a.posts t.posts i))
  turn_answered (Rests t) =
      all_on (same_clients t.clients) (none_answer (λ x i d from. none_posted x a.posts t.posts i))
      (λ x i c d from to. absurd (none_posted x a.posts t.posts i))

none_answered : AreAnswered empty_world []
none_answered = record {
  replies = λ m i c d from to. absurd i;
  commands = λ m i c d from to. absurd i;
}

abbrev AnsweredIfFew : World → List Line → Type 0
AnsweredIfFew w h = HasFew w → AreAnswered w h

pub are_answered : Known → (w : World) (h : List Line) → IsMoment w h → HasFew w → AreAnswered w h
are_answered q w h k =
    at_moment q.further AnsweredIfFew (record {
      starts = λ few. none_answered;
      moves = λ u g m l next may r few.
          turn_answered q u g m l next few (r (fewer_before u m few)) (acts_turn u m.chosen m.action).turn;
    }) w h k
