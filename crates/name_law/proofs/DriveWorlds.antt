-- At each moment of a history each message to a drive is for one that a line can name, and where the history is of a
-- scenario's text, the objects of each drive have tags of 32 bits.
use Rattle.std.proofs.Common.{◌≡◌, ◌<◌, ◌^◌, ◌||◌, ℕ, Bool, true, false, List, [], ◌∷◌, Some, Result, Ok, IsSome, map, filter, nat_lt, inl, inr, refl, sym, ap, subst, ◌∙◌, arith, if◌then◌else◌}
use Rattle.std.proofs.lemmas.Bool.{cases_eq}
use Rattle.std.proofs.lemmas.Bool.Decides.{nat_tests}
use Rattle.std.proofs.lemmas.Option.{same_Some}
use Rattle.osd_lists.specs.declared.node.Node.{Node}
use Rattle.osd_lists.specs.declared.node.Node.TheVariants as node
use Rattle.osd_commands.specs.declared.commands.Command.{Command}
use Rattle.osd_commands.specs.declared.commands.CommandErr.{CommandErr}
use Rattle.osd_commands.specs.Commands as commands
use Rattle.osd_objects.proofs.Entries.{lookup_inserted, lookup_beside, lookup_set, lookup_set_beside}
use Rattle.scenario_text.specs.declared.names.TheConstants.{DRIVES}
use Rattle.scenario_text.specs.declared.line.Line.{Line}
use Rattle.scenario_text.specs.declared.event.Event.TheVariants as event
use Rattle.server_rules.specs.Envelopes as server_bytes
use Rattle.client_rules.specs.Envelopes as client_bytes
use Rattle.server_rules.specs.Laws.{In}
use Rattle.server_rules.specs.History.{step as server_step}
use Rattle.server_rules.proofs.Members.{in_either}
use Rattle.client_rules.specs.History.{step as client_step}
use Rattle.world_history.specs.ServerNames as server_rules
use Rattle.world_history.specs.ServerNames.{Outgoing as ServerOutgoing}
use Rattle.world_history.specs.ClientNames as client_rules
use Rattle.world_history.specs.ClientNames.{Outgoing as ClientOutgoing}
use Rattle.world_history.specs.declared.messages.Body.{Body}
use Rattle.world_history.specs.declared.messages.Body.TheVariants.{Command as OfCommand, Reply as OfReply, Envelope as OfEnvelope}
use Rattle.world_history.specs.declared.messages.Message.{Message}
use Rattle.world_history.specs.State.{World, DriveAt, at_number, with_number, and_number}
use Rattle.world_history.specs.Names.{is_named}
use Rattle.world_history.specs.Drives.{judges, command_in, made_drive}
use Rattle.world_history.specs.Handed.{Post, is_addressed, is_write_out, server_body, client_body, server_post, client_posts}
use Rattle.world_history.specs.Moves.{Act, Action, Opens, acts}
use Rattle.world_history.specs.Sending.{Move, move}
use Rattle.world_history.specs.History.{OneEventMore}
use Rattle.history_law.specs.Moves.{Turns, Raised, Timed, Falls, Crashed, Reopened}
use Rattle.history_law.specs.Said.{posted}
use Rattle.history_law.proofs.Moves.{each_act}
use Rattle.history_law.specs.BookMoments.{IsMoment, with_event, lines_in}
use Rattle.exchange_law.specs.Text.{AreOfText}
use Rattle.exchange_law.proofs.CountGrowing.{text_front, text_behind}
use Rattle.exchange_law.proofs.Replied.{addressed, from_server, from_client, none_posted}
use Rattle.exchange_law.proofs.SlotMoments.{always}
use Rattle.exchange_law.proofs.Turning.{sent_by, body_in, Turn, ByServer, ByClient, ByDrive, Makes, Stops, Rests}
use Rattle.exchange_law.proofs.Turns.{acts_turn, messages_behind}
use Rattle.name_law.proofs.DriveTags.{TagsAreLow, bytes_low, spelled_low, after_low}

-- ---- messages to drives

abbrev IsNoDrive : Node → Type 0
IsNoDrive (node.Drive d) = ⊥
IsNoDrive n = Unit {0}

abbrev IsCommand : Body → Type 0
IsCommand (OfCommand c) = Unit {0}
IsCommand body = ⊥

-- a line can name the drive, no drive sent the message, and it is a command
pub record IsToDrive (m : Message) (drive : ℕ) : Type 0 where
  pub named : drive < DRIVES
  pub from : IsNoDrive m.from
  pub command : IsCommand m.body

abbrev ToDriveIs : Message → Type 0
ToDriveIs m = (d : ℕ) → m.to ≡ node.Drive d → IsToDrive m d

abbrev AllAre : List Message → Type 0
AllAre ms = (m : Message) → In m ms → ToDriveIs m

-- what goes out is for a party that a line can name
pub addressed_named : (m : Message) (ps : List Post) → In m (posted (filter is_addressed ps)) → is_named m.to ≡ true
addressed_named m [] i = absurd i
addressed_named m (p ∷ ps) i = by (is_addressed p) refl i (λ j. addressed_named m ps j)
  where
    by : (b : Bool) → is_addressed p ≡ b → In m (posted (if b then p ∷ filter is_addressed ps else filter is_addressed ps))
        → (In m (posted (filter is_addressed ps)) → is_named m.to ≡ true) → is_named m.to ≡ true
    by true is (inl e) rest = ap (λ (x : Message). is_named x.to) e ∙ is
    by true is (inr j) rest = rest j
    by false is j rest = rest j

named_drive : (n : Node) (d : ℕ) → is_named n ≡ true → n ≡ node.Drive d → d < DRIVES
named_drive n d named is = low d (sym (ap is_named is) ∙ named)
  where
    low : (k : ℕ) → nat_lt k DRIVES ≡ true → k < DRIVES
    low k e = grind (arith, e, nat_tests)

-- what the server or a client sends to a drive is a command
server_command : (m : Message) (os : List ServerOutgoing) → In m (posted (map server_post os)) → (d : ℕ)
    → m.to ≡ node.Drive d → IsCommand m.body
server_command m [] i d to = absurd i
server_command m (o ∷ os) (inr j) d to = server_command m os j d to
server_command m (o ∷ os) (inl e) d to =
    subst IsCommand (sym (ap (λ (x : Message). x.body) e)) (sent o (sym (ap (λ (x : Message). x.to) e) ∙ to))
  where
    sent : (x : ServerOutgoing) → server_bytes.receiver x ≡ node.Drive d → IsCommand (server_body x)
    sent (server_rules.ToDrive k c) is = tt
    sent (server_rules.Recalls r) is = absurd (cc is)
    sent (server_rules.Answers r) is = absurd (cc is)
    sent (server_rules.AnswersOrder r) is = absurd (cc is)

client_command : (m : Message) (c : ℕ) (wrote : Bool) (logged : ℕ) (os : List ClientOutgoing)
    → In m (posted (client_posts c wrote logged os)) → (d : ℕ) → m.to ≡ node.Drive d → IsCommand m.body
client_command m c wrote logged [] i d to = absurd i
client_command m c wrote logged (o ∷ os) (inr j) d to = client_command m c (wrote || is_write_out o) logged os j d to
client_command m c wrote logged (o ∷ os) (inl e) d to =
    subst IsCommand (sym (ap (λ (x : Message). x.body) e)) (sent o (sym (ap (λ (x : Message). x.to) e) ∙ to))
  where
    sent : (x : ClientOutgoing) → client_bytes.receiver x ≡ node.Drive d → IsCommand (client_body x)
    sent (client_rules.ToDrive k c) is = tt
    sent (client_rules.AnswersRecall r) is = absurd (cc is)
    sent (client_rules.Asks r) is = absurd (cc is)

module _ (w : World) (m : Move) (all : AllAre (sent_by w)) where
  abbrev a : Act
  a = acts w m.chosen m.action

  new_are : Turn w m.action a → AllAre (posted a.posts)
  new_are (ByServer t) x i d to =
      let there = subst (λ (l : List Post). In x (posted l)) t.posts i in
      let named = addressed_named x (map server_post (server_step w.server t.chosen t.input).sends) there in
      let from = from_server x (server_step w.server t.chosen t.input).sends there in
      record {
        named = named_drive x.to d named to;
        from = subst IsNoDrive (sym from) tt;
        command =
            server_command x (server_step w.server t.chosen t.input).sends
            (addressed x (map server_post (server_step w.server t.chosen t.input).sends) there) d to;
      }
  new_are (ByClient t) x i d to =
      let sends = (client_step t.caller.state t.input).sends in
      let there = subst (λ (l : List Post). In x (posted l)) t.posts i in
      let named = addressed_named x (client_posts t.client t.wrote t.logged sends) there in
      let from = from_client x t.client t.wrote t.logged sends there in
      record {
        named = named_drive x.to d named to;
        from = subst IsNoDrive (sym from) tt;
        command =
            client_command x t.client t.wrote t.logged sends
            (addressed x (client_posts t.client t.wrote t.logged sends) there) d to;
      }
  new_are (ByDrive t) x i d to = elim (subst (λ (l : List Post). In x (posted l)) t.posts i) [
    | inl e ↦
        let sender : t.message.message.from ≡ node.Drive d = sym (ap (λ (y : Message). y.to) e) ∙ to in
        let there = all t.message.message (body_in w.network.messages t.number t.message t.found) t.drive t.receiver in
        absurd (subst IsNoDrive sender there.from)
    | inr none ↦ absurd none
  ]
  new_are (Makes t) x i d to = absurd (none_posted x a.posts t.posts i)
  new_are (Stops t) x i d to = absurd (none_posted x a.posts t.posts i)
  new_are (Rests t) x i d to = absurd (none_posted x a.posts t.posts i)

  move_are : AllAre (sent_by (move w m).world)
  move_are x i = elim (in_either x (sent_by w) (posted a.posts) (subst (In x) (messages_behind w m) i)) [
    | inl old ↦ all x old
    | inr new ↦ new_are (acts_turn w m.chosen m.action).turn x new
  ]

-- at each moment
pub to_drives : OneEventMore → (w : World) (h : List Line) → IsMoment w h → (m : Message) → In m (sent_by w) → (d : ℕ)
    → m.to ≡ node.Drive d → IsToDrive m d
to_drives more w h k =
    always (λ w h. AllAre (sent_by w)) (record {
      starts = λ m i. absurd i;
      moves = λ v g j m d x. move_are v m x;
    }) more w h k

-- ---- tags

abbrev pub IsLow : DriveAt → Type 0
IsLow a = TagsAreLow a.state.store

abbrev AllLow : List (ℕ × DriveAt) → Type 0
AllLow xs = (d : ℕ) (a : DriveAt) → at_number xs d ≡ Some a → IsLow a

put_low : (xs : List (ℕ × DriveAt)) (k : ℕ) (a b : DriveAt) → at_number xs k ≡ Some a → AllLow xs → IsLow b
    → AllLow (with_number xs k b)
put_low xs k a b there all low d x e = elim (cases_eq d k) [
  | inl same ↦
      let it : b ≡ x =
      same_Some b x
      (sym (lookup_set xs k b (subst IsSome (sym there) refl))
      ∙ ap (λ (n : ℕ). at_number (with_number xs k b) n) (sym same) ∙ e) in
      subst IsLow it low
  | inr other ↦ all d x (sym (lookup_set_beside xs k d b other) ∙ e)
]

more_low : (xs : List (ℕ × DriveAt)) (k : ℕ) (b : DriveAt) → AllLow xs → IsLow b → AllLow (and_number xs k b)
more_low xs k b all low d x e = elim (cases_eq d k) [
  | inl same ↦
      let it : b ≡ x =
      same_Some b x
      (sym (lookup_inserted xs k b) ∙ ap (λ (n : ℕ). at_number (and_number xs k b) n) (sym same) ∙ e) in
      subst IsLow it low
  | inr other ↦ all d x (sym (lookup_beside xs k d b other) ∙ e)
]

judged_low : (a : DriveAt) (r : Result Command CommandErr) → ((c : Command) → r ≡ Ok c → c.capability.tag < 2 ^ 32)
    → IsLow a → IsLow (judges a r).drive
unfolding judges
judged_low a r read low = after_low a.state a.clock r read low

-- a message to a drive is a command
sent_low : (body : Body) → IsCommand body → (c : Command) → command_in body ≡ Ok c → c.capability.tag < 2 ^ 32
sent_low (OfCommand x) is c e = spelled_low x c e
sent_low (OfReply x) is c e = absurd is
sent_low (OfEnvelope x) is c e = absurd is

-- what is injected is bytes
injected_low : (action : Action) (ls : List Line) → AreOfText (with_event action ls) → (d : ℕ) (bytes : List ℕ)
    → action ≡ Opens (event.Inject d bytes) → (c : Command) → commands.reading bytes ≡ Ok c → c.capability.tag < 2 ^ 32
injected_low action ls text d bytes is c e =
    let own = subst (λ (x : Action). AreOfText (with_event x ls)) is text in
    bytes_low bytes own.0.1.1.0 c e

turned_low : (a b : DriveAt) → Turns a b → IsLow a → IsLow b
turned_low a b (Raised format is) low = subst IsLow (sym is) low
turned_low a b (Timed time is) low = subst IsLow (sym is) low
turned_low a b (Falls is) low = subst IsLow (sym is) (λ q x e. absurd (cc e))
turned_low a b (Crashed is) low = subst IsLow (sym is) low
turned_low a b (Reopened is) low = subst IsLow (sym is) low

move_low : OneEventMore → (w : World) (h : List Line) → IsMoment w h → (m : Move) (ls : List Line)
    → AreOfText (with_event m.action ls) → AllLow w.drives → AllLow (acts w m.chosen m.action).world.drives
move_low more w h k m ls text all = each_act w m.chosen (λ (a : Act). AllLow a.world.drives) m.action (record {
  rests = λ ms said told quiet. all;
  refused = λ c a found op is e why. all;
  clock = λ time. all;
  serves = λ ms said i is. all;
  goes = λ ms said c a found i is. all;
  comes = λ c is. all;
  stops = λ c a found. all;
  judged = λ ms said d a found hears n number.
      let there = to_drives more w h k n.posted.message (body_in w.network.messages n.number n.posted n.there) d n.receiver in
      put_low w.drives d a (judges a (command_in n.posted.message.body)).drive found all
      (judged_low a (command_in n.posted.message.body) (sent_low n.posted.message.body there.command) (all d a found));
  injected = λ d bytes is a found.
      put_low w.drives d a (judges a (commands.reading bytes)).drive found all
      (judged_low a (commands.reading bytes) (injected_low m.action ls text d bytes is) (all d a found));
  turns = λ d a b found t. put_low w.drives d a b found all (turned_low a b t (all d a found));
  known = λ d key capacity stored is knows.
      more_low w.drives d (made_drive d key capacity stored) all (λ q x e. absurd (cc e));
  adds = λ d key capacity stored is knows.
      more_low w.drives d (made_drive d key capacity stored) all (λ q x e. absurd (cc e));
})

-- at each moment of a history of a scenario's text
pub tags_low : OneEventMore → (w : World) (h : List Line) → IsMoment w h → AreOfText h → (d : ℕ) (a : DriveAt)
    → at_number w.drives d ≡ Some a → IsLow a
tags_low more w h k =
    always (λ w h. AreOfText h → AllLow w.drives) (record {
      starts = λ text d a e. absurd (cc e);
      moves = λ v g j m due x text.
          move_low more v g j m (move v m).lines (text_behind g (lines_in v m) text) (x (text_front g (lines_in v m) text));
    }) more w h k
