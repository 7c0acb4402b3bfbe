-- Each message of a drive to a client is its reply to a message of the client that was delivered to it.
use Rattle.std.proofs.Common.{◌≡◌, ◌||◌, ℕ, Bool, true, false, List, [], ◌∷◌, ◌++◌, Some, None, map, filter, length, slice_get, refl, sym, ap, subst, ◌∙◌, append_assoc, inl, inr, if◌then◌else◌}
use Rattle.std.proofs.lemmas.List.{append-nil}
use Rattle.osd_lists.specs.declared.node.Node.TheVariants as node
use Rattle.osd_commands.specs.declared.replies.Reply.{Reply}
use Rattle.server_rules.specs.Laws.{In}
use Rattle.server_rules.specs.History.{step as server_step}
use Rattle.server_rules.proofs.Members.{in_either}
use Rattle.client_rules.specs.History.{step as client_step}
use Rattle.scenario_text.specs.declared.event.Event.{Event}
use Rattle.scenario_text.specs.declared.event.Event.TheVariants as event
use Rattle.scenario_text.specs.declared.line.Delivery.TheVariants.{Judged}
use Rattle.scenario_text.specs.declared.line.Line.{Line}
use Rattle.scenario_text.specs.declared.line.Line.TheVariants as line
use Rattle.world_history.specs.ServerNames as server_rules
use Rattle.world_history.specs.ClientNames as client_rules
use Rattle.world_history.specs.declared.messages.Body.{Body}
use Rattle.world_history.specs.declared.messages.Body.TheVariants.{Reply as OfReply}
use Rattle.world_history.specs.declared.messages.Message.{Message}
use Rattle.world_history.specs.declared.messages.Posted.{Posted}
use Rattle.world_history.specs.State.{DriveAt, World, at_number, empty_world}
use Rattle.world_history.specs.Drives.{judges, command_in, is_deaf}
use Rattle.world_history.specs.Handed.{Post, is_addressed, is_write_out, server_post, client_posts}
use Rattle.world_history.specs.Moves.{Act, Action, acts}
use Rattle.world_history.specs.Sending.{Move, move, sent_lines}
use Rattle.world_history.specs.Plans.{plan_of}
use Rattle.world_history.specs.Reading.{sent_in}
use Rattle.world_history.specs.Refusals.{refusal}
use Rattle.world_history.specs.Runs.{world_after, AreDue}
use Rattle.world_history.specs.History.{StandsFor, OneEventMore}
use Rattle.world_history.specs.Laws.{shown}
use Rattle.history_law.proofs.Histories.{stands, kept_part}
use Rattle.history_law.proofs.DriveEvents.{IsRead, kept}
use Rattle.history_law.proofs.DriveLines.{sent_read}
use Rattle.history_law.specs.BookMoments.{IsMoment, with_event, lines_so_far, lines_in}
use Rattle.history_law.proofs.Coming.{sent_behind}
use Rattle.history_law.specs.Said.{posted}
use Rattle.exchange_law.specs.Awaited.{IsBehind}
use Rattle.exchange_law.proofs.Along.{at_moment}
use Rattle.exchange_law.proofs.Turning.{sent_by, DriveDoes, Turn, ByServer, ByClient, ByDrive, Makes, Stops, Rests}
use Rattle.exchange_law.proofs.Turns.{acts_turn, messages_behind}

-- ---- what is read at a moment

read_moves : (v : World) (h : List Line) (e : Event) (ms : List Move) → StandsFor v h → refusal v e ≡ None
    → AreDue (plan_of v e) v ms → IsRead (world_after v ms) (h ++ lines_so_far v e ms)
read_moves v h e [] s allowed d = subst (IsRead v) (sym (append-nil h)) (stands IsRead kept v h s)
read_moves v h e (m ∷ ms) s allowed d = kept_part IsRead kept v h e m ms d allowed (stands IsRead kept v h s)

pub read_at : (w : World) (h : List Line) → IsMoment w h → IsRead w h
read_at w h k =
    subst (λ (v : World). IsRead v h) (sym k.world_is)
    (subst (IsRead (world_after k.before k.moves)) (sym k.lines_are)
    (read_moves k.before k.history k.event k.moves k.stands k.allowed k.are_due))

-- ---- a reply

-- A drive judged a message of the client at some moment, and replied so.
pub record IsReplied (h : List Line) (client drive : ℕ) (r : Reply) : Type 0 where
  pub world : World
  pub lines : List Line
  pub moment : IsMoment world lines
  pub number : ℕ
  pub message : Posted
  pub found : slice_get world.network.messages number ≡ Some message
  pub sender : message.message.from ≡ node.Client client
  pub receiver : message.message.to ≡ node.Drive drive
  pub device : DriveAt
  pub stands : at_number world.drives drive ≡ Some device
  pub hears : is_deaf device ≡ false
  pub reply : r ≡ (judges device (command_in message.message.body)).reply
  pub before : List Line
  pub behind : IsBehind before lines number
  pub after : List Line
  pub lines_are : h
      ≡ before ++ line.Delivered number (Judged (judges device (command_in message.message.body)).verdict) ∷ after

abbrev pub replied_on : (h more : List Line) (c d : ℕ) (r : Reply) → IsReplied h c d r → IsReplied (h ++ more) c d r
replied_on h more c d r k = record {
  world = k.world;
  lines = k.lines;
  moment = k.moment;
  number = k.number;
  message = k.message;
  found = k.found;
  sender = k.sender;
  receiver = k.receiver;
  device = k.device;
  stands = k.stands;
  hears = k.hears;
  reply = k.reply;
  before = k.before;
  behind = k.behind;
  after = k.after ++ more;
  lines_are = ap (λ (l : List Line). l ++ more) k.lines_are
      ∙ append_assoc k.before (line.Delivered k.number (Judged _) ∷ k.after) more;
}

-- the message is a reply of its drive
pub record HasReply (h : List Line) (client drive : ℕ) (body : Body) : Type 0 where
  pub reply : Reply
  pub is : body ≡ OfReply reply
  pub replied : IsReplied h client drive reply

-- so is each message of a drive to a client
pub record AreReplied (w : World) (h : List Line) : Type 0 where
  pub replies : (m : Message) → In m (sent_by w) → (c d : ℕ) → m.from ≡ node.Drive d → m.to ≡ node.Client c →
      HasReply h c d m.body

reply_on : (h more : List Line) (c d : ℕ) (body : Body) → HasReply h c d body → HasReply (h ++ more) c d body
reply_on h more c d body k =
    record { reply = k.reply; is = k.is; replied = replied_on h more c d k.reply k.replied }

-- ---- of which party a message is

-- those that go out are among those that are posted
pub addressed : (m : Message) (ps : List Post) → In m (posted (filter is_addressed ps)) → In m (posted ps)
addressed m [] i = i
addressed m (p ∷ ps) i = either (is_addressed p) (λ j. addressed m ps j) i
  where
    either : (b : Bool) → (In m (posted (filter is_addressed ps)) → In m (posted ps))
        → In m (posted (if b then p ∷ filter is_addressed ps else filter is_addressed ps)) → In m (posted (p ∷ ps))
    either true rest (inl e) = inl e
    either true rest (inr j) = inr (rest j)
    either false rest j = inr (rest j)

of_server : (m : Message) (os : List server_rules.Outgoing) → In m (posted (map server_post os))
    → m.from ≡ node.Server
of_server m [] i = absurd i
of_server m (o ∷ os) (inl e) = ap (λ (x : Message). x.from) e
of_server m (o ∷ os) (inr j) = of_server m os j

of_client : (m : Message) (c : ℕ) (wrote : Bool) (logged : ℕ) (os : List client_rules.Outgoing)
    → In m (posted (client_posts c wrote logged os)) → m.from ≡ node.Client c
of_client m c wrote logged [] i = absurd i
of_client m c wrote logged (o ∷ os) (inl e) = ap (λ (x : Message). x.from) e
of_client m c wrote logged (o ∷ os) (inr j) = of_client m c (wrote || is_write_out o) logged os j

pub from_server : (m : Message) (os : List server_rules.Outgoing)
    → In m (posted (filter is_addressed (map server_post os))) → m.from ≡ node.Server
from_server m os i = of_server m os (addressed m (map server_post os) i)

pub from_client : (m : Message) (c : ℕ) (wrote : Bool) (logged : ℕ) (os : List client_rules.Outgoing)
    → In m (posted (filter is_addressed (client_posts c wrote logged os))) → m.from ≡ node.Client c
from_client m c wrote logged os i = of_client m c wrote logged os (addressed m (client_posts c wrote logged os) i)

pub none_posted : (m : Message) (ps : List Post) → ps ≡ [] → In m (posted ps) → ⊥
none_posted m ps none i = subst (λ (l : List Post). In m (posted l)) none i

-- ---- all moves

module _ (w : World) (h : List Line) (m : Move) (k : IsMoment w h) where
  abbrev a : Act
  a = acts w m.chosen m.action

  -- the reply of a drive stands behind the line of what it judged
  abbrev pub drive_replied : (d : DriveDoes w m.action a) (c : ℕ) → d.message.message.from ≡ node.Client c
      → IsReplied (h ++ lines_in w m) c d.drive (judges d.device (command_in d.message.message.body)).reply
  drive_replied d c from =
      let verdict = (judges d.device (command_in d.message.message.body)).verdict in
      let sent : List Line = sent_lines (length a.world.network.messages) a.posts in
      let told : (move w m).lines ≡ line.Delivered d.number (Judged verdict) ∷ sent =
      ap (λ (l : List Line). l ++ sent) d.told in
      let here : (before : List Line) × IsBehind before h d.number
      × (h ++ lines_in w m ≡ before ++ line.Delivered d.number (Judged verdict) ∷ sent) =
      elim d.delivers [
        | inl e ↦ (
          h,
          inl refl,
          ap (λ (b : Action). h ++ with_event b (move w m).lines) e ∙ ap (λ (l : List Line). h ++ l) told,
        )
        | inr e ↦ (
          h ++ line.Event (event.Deliver d.number) ∷ [],
          inr refl,
          ap (λ (b : Action). h ++ with_event b (move w m).lines) e
              ∙ ap (λ (l : List Line). h ++ line.Event (event.Deliver d.number) ∷ l) told
              ∙ sym (append_assoc h (line.Event (event.Deliver d.number) ∷ []) _),
        )
      ] in
      record {
        world = w;
        lines = h;
        moment = k;
        number = d.number;
        message = d.message;
        found = d.found;
        sender = from;
        receiver = d.receiver;
        device = d.device;
        stands = d.stands;
        hears = d.hears;
        reply = refl;
        before = here.0;
        behind = here.1;
        after = sent;
        lines_are = here.2;
      }

  new_replied : (x : Message) (c n : ℕ) → x.from ≡ node.Drive n → x.to ≡ node.Client c → In x (posted a.posts)
      → Turn w m.action a → HasReply (h ++ lines_in w m) c n x.body
  new_replied x c n from to i (ByServer t) =
      let here : x.from ≡ node.Server = from_server x (server_step w.server t.chosen t.input).sends
      (subst (λ (l : List Post). In x (posted l)) t.posts i) in
      absurd (cc (sym from ∙ here))
  new_replied x c n from to i (ByClient t) =
      let here : x.from ≡ node.Client t.client = from_client x t.client t.wrote t.logged
      (client_step t.caller.state t.input).sends (subst (λ (l : List Post). In x (posted l)) t.posts i) in
      absurd (cc (sym from ∙ here))
  new_replied x c n from to i (ByDrive t) = elim (subst (λ (l : List Post). In x (posted l)) t.posts i) [
    | inl e ↦
        let party : node.Drive n ≡ node.Drive t.drive = sym from ∙ ap (λ (y : Message). y.from) e in
        let drive : n ≡ t.drive = cc party in
        let sender : t.message.message.from ≡ node.Client c = sym (ap (λ (y : Message). y.to) e) ∙ to in
        let all : HasReply (h ++ lines_in w m) c t.drive x.body = record {
          reply = (judges t.device (command_in t.message.message.body)).reply;
          is = ap (λ (y : Message). y.body) e;
          replied = drive_replied t c sender;
        } in
        subst (λ (d : ℕ). HasReply (h ++ lines_in w m) c d x.body) (sym drive) all
    | inr none ↦ absurd none
  ]
  new_replied x c n from to i (Makes t) = absurd (none_posted x a.posts t.posts i)
  new_replied x c n from to i (Stops t) = absurd (none_posted x a.posts t.posts i)
  new_replied x c n from to i (Rests t) = absurd (none_posted x a.posts t.posts i)

  replied_move : AreReplied w h → AreReplied (move w m).world (h ++ lines_in w m)
  replied_move r = record {
    replies =
        λ x i c d from to.
        elim (in_either x (sent_by w) (posted a.posts) (subst (In x) (messages_behind w m) i)) [
          | inl old ↦ reply_on h (lines_in w m) c d x.body (r.replies x old c d from to)
          | inr new ↦ new_replied x c d from to new (acts_turn w m.chosen m.action).turn
        ];
  }

none_replied : AreReplied empty_world []
none_replied = record { replies = λ m i c d from to. absurd i }

pub are_replied : OneEventMore → (w : World) (h : List Line) → IsMoment w h → AreReplied w h
are_replied further w h k =
    at_moment further AreReplied
    (record { starts = none_replied; moves = λ v g m l next may r. replied_move v g m l r }) w h k

-- ---- in the words of the lines

-- the messages before a delivery are those of the moment
pub sent_before : (w : World) (lines before : List Line) (n : ℕ) → IsMoment w lines → IsBehind before lines n
    → sent_in before ≡ map shown w.network.messages
sent_before w lines before n k (inl same) =
    let r = read_at w lines k in ap sent_in same ∙ sent_read w r.injected lines r.drives
sent_before w lines before n k (inr same) =
    let r = read_at w lines k in
    ap sent_in same ∙ sent_behind lines (line.Event (event.Deliver n)) ∙ sent_read w r.injected lines r.drives
