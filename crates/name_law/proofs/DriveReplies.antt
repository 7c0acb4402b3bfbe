-- At each moment of a history of a scenario's text each message is between parties that a line can name.
use Rattle.std.proofs.Common.{◌≡◌, ◌<◌, ℕ, true, List, Some, map, inl, inr, sym, ap, subst, ◌∙◌}
use Rattle.std.proofs.lemmas.Bool.{cases_eq, lt-ltb}
use Rattle.osd_lists.specs.declared.node.Node.TheVariants as node
use Rattle.scenario_text.specs.declared.names.TheConstants.{CLIENTS}
use Rattle.scenario_text.specs.declared.event.Event.TheVariants as event
use Rattle.scenario_text.specs.declared.line.Line.{Line}
use Rattle.server_rules.specs.Laws.{In}
use Rattle.server_rules.specs.History.{step as server_step}
use Rattle.server_rules.proofs.Members.{in_either}
use Rattle.client_rules.specs.History.{step as client_step}
use Rattle.world_history.specs.declared.messages.Message.{Message}
use Rattle.world_history.specs.State.{World, ClientAt, at_number}
use Rattle.world_history.specs.Names.{is_named}
use Rattle.world_history.specs.Handed.{Post, server_post, client_posts}
use Rattle.world_history.specs.Moves.{Act, Action, Opens, acts}
use Rattle.world_history.specs.Sending.{Move, move}
use Rattle.world_history.specs.History.{OneEventMore}
use Rattle.history_law.specs.Said.{posted}
use Rattle.history_law.specs.BookMoments.{IsMoment, with_event, lines_in}
use Rattle.exchange_law.specs.Text.{AreOfText}
use Rattle.exchange_law.proofs.CountGrowing.{text_front, text_behind}
use Rattle.exchange_law.proofs.Replied.{from_server, from_client, none_posted}
use Rattle.exchange_law.proofs.SlotMoments.{always}
use Rattle.exchange_law.proofs.Turning.{sent_by, body_in, AreSame, Becomes, Turn, ByServer, ByClient, ByDrive, Makes, Stops, Rests}
use Rattle.exchange_law.proofs.Turns.{acts_turn, messages_behind}
use Rattle.name_law.specs.DriveReplies.{IsBetweenNamed, MessagesAreNamed, DrivesReplyToNamed}
use Rattle.name_law.proofs.DriveWorlds.{addressed_named}

-- each client has a number that a line can name, and so have the parties of each message
record AllNamed (w : World) : Type 0 where
  clients : (c : ℕ) (a : ClientAt) → at_number w.clients c ≡ Some a → c < CLIENTS
  messages : (m : Message) → In m (sent_by w) → IsBetweenNamed m

client_named : (c : ℕ) → c < CLIENTS → is_named (node.Client c) ≡ true
client_named c low = lt-ltb c CLIENTS low

-- the event that makes a client names it
made_named : (action : Action) (ls : List Line) → AreOfText (with_event action ls) → (c : ℕ)
    → action ≡ Opens (event.Client c) → c < CLIENTS
made_named action ls text c is =
    let own = subst (λ (x : Action). AreOfText (with_event x ls)) is text in own.0.1.0

module _ (w : World) (m : Move) (text : AreOfText (with_event m.action (move w m).lines)) (all : AllNamed w) where
  abbrev a : Act
  a = acts w m.chosen m.action

  same_clients : AreSame w a.world → (c : ℕ) (x : ClientAt) → at_number a.world.clients c ≡ Some x → c < CLIENTS
  same_clients same c x found = all.clients c x (sym (same c) ∙ found)

  become_clients : (k : ℕ) (now : ClientAt) → Becomes w a.world k now → k < CLIENTS → (c : ℕ) (x : ClientAt)
      → at_number a.world.clients c ≡ Some x → c < CLIENTS
  become_clients k now b low c x found = elim (cases_eq c k) [
    | inl same ↦ subst (λ (n : ℕ). n < CLIENTS) (sym same) low
    | inr other ↦ all.clients c x (sym (b.others c other) ∙ found)
  ]

  clients_named : Turn w m.action a → (c : ℕ) (x : ClientAt) → at_number a.world.clients c ≡ Some x → c < CLIENTS
  clients_named (ByServer t) = same_clients t.clients
  clients_named (ByClient t) = become_clients t.client t.now t.becomes (all.clients t.client t.caller t.found)
  clients_named (ByDrive t) = same_clients t.clients
  clients_named (Makes t) =
      become_clients t.client t.now t.becomes (made_named m.action (move w m).lines text t.client t.opens)
  clients_named (Stops t) = become_clients t.client t.now t.becomes (all.clients t.client t.caller t.found)
  clients_named (Rests t) = same_clients t.clients

  new_named : Turn w m.action a → (x : Message) → In x (posted a.posts) → IsBetweenNamed x
  new_named (ByServer t) x i =
      let there = subst (λ (l : List Post). In x (posted l)) t.posts i in
      let sends = (server_step w.server t.chosen t.input).sends in
      record { from = ap is_named (from_server x sends there); to = addressed_named x (map server_post sends) there }
  new_named (ByClient t) x i =
      let there = subst (λ (l : List Post). In x (posted l)) t.posts i in
      let sends = (client_step t.caller.state t.input).sends in
      record {
        from = ap is_named (from_client x t.client t.wrote t.logged sends there)
            ∙ client_named t.client (all.clients t.client t.caller t.found);
        to = addressed_named x (client_posts t.client t.wrote t.logged sends) there;
      }
  new_named (ByDrive t) x i = elim (subst (λ (l : List Post). In x (posted l)) t.posts i) [
    | inl e ↦
        let there = all.messages t.message.message (body_in w.network.messages t.number t.message t.found) in
        record {
          from = ap (λ (y : Message). is_named y.from) e ∙ sym (ap is_named t.receiver) ∙ there.to;
          to = ap (λ (y : Message). is_named y.to) e ∙ there.from;
        }
    | inr none ↦ absurd none
  ]
  new_named (Makes t) x i = absurd (none_posted x a.posts t.posts i)
  new_named (Stops t) x i = absurd (none_posted x a.posts t.posts i)
  new_named (Rests t) x i = absurd (none_posted x a.posts t.posts i)

  move_named : AllNamed (move w m).world
  move_named = record {
    clients = clients_named (acts_turn w m.chosen m.action).turn;
    messages =
        λ x i. elim (in_either x (sent_by w) (posted a.posts) (subst (In x) (messages_behind w m) i)) [
          | inl old ↦ all.messages x old
          | inr new ↦ new_named (acts_turn w m.chosen m.action).turn x new
        ];
  }

all_named : OneEventMore → (w : World) (h : List Line) → IsMoment w h → AreOfText h → AllNamed w
all_named more w h k =
    always (λ w h. AreOfText h → AllNamed w) (record {
      starts = λ text. record { clients = λ c a e. absurd (cc e); messages = λ m i. absurd i };
      moves =
          λ v g j m due x text.
          move_named v m (text_behind g (lines_in v m) text) (x (text_front g (lines_in v m) text));
    }) more w h k

pub clients_named_at : OneEventMore → (w : World) (h : List Line) → IsMoment w h → AreOfText h → (c : ℕ) (a : ClientAt)
    → at_number w.clients c ≡ Some a → c < CLIENTS
clients_named_at more w h k text = (all_named more w h k text).clients

pub messages_named : OneEventMore → MessagesAreNamed
messages_named more w h k text n p found =
    (all_named more w h k text).messages p.message (body_in w.network.messages n p found)

pub replies_named : OneEventMore → DrivesReplyToNamed
replies_named more w h k text d m a p (inl e) =
    ap (λ (x : Post). is_named x.message.to) e
    ∙ (messages_named more w h k text m.number m.posted m.there).from
replies_named more w h k text d m a p (inr none) = absurd none
