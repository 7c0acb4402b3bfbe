-- The lines of a move of a drive, or of nobody, leave the entries of the log, unless a client sends its messages again.
-- Towards `CutsShowEntries` (`specs/Parts.antt`).
use Rattle.std.proofs.Common.{◌≡◌, ◌++◌, ◌⊎◌, inl, inr, ℕ, zero, suc, Bool, true, false, List, [], ◌∷◌, length, take, is_some, slice_get, Option, Some, None, refl, sym, ap, subst, ◌∙◌, if◌then◌else◌}
use Rattle.std.specs.List.{fold}
use Rattle.std.proofs.lemmas.Bool.{cases_eq}
use Rattle.osd_objects.proofs.Entries.{lookup_inserted, lookup_beside}
use Rattle.scenario_text.specs.declared.event.Call.{Call}
use Rattle.scenario_text.specs.declared.event.Event.{Event as Told}
use Rattle.scenario_text.specs.declared.event.Event.TheVariants as scenario
use Rattle.scenario_text.specs.declared.line.Line.{Line}
use Rattle.scenario_text.specs.declared.line.Line.TheVariants as line
use Rattle.scenario_text.specs.declared.event.Sender.TheVariants as sender
use Rattle.scenario_text.specs.declared.event.Machine.TheVariants as machine
use Rattle.scenario_text.specs.declared.event.Sender.{Sender}
use Rattle.scenario_text.specs.declared.line.Delivery.{Delivery}
use Rattle.scenario_text.specs.declared.line.Delivery.TheVariants as delivery
use Rattle.scenario_text.specs.declared.line.Ending.TheVariants as ending
use Rattle.scenario_text.specs.declared.line.MapFault.TheVariants as map_fault
use Rattle.scenario_text.specs.declared.line.Note.TheVariants as note
use Rattle.scenario_text.specs.declared.line.Outcome.TheVariants as outcome
use Rattle.scenario_text.specs.declared.line.Refusal.TheVariants as refusal
use Rattle.osd_lists.specs.declared.node.Node.{Node}
use Rattle.osd_lists.specs.declared.node.Node.TheVariants as node
use Rattle.client_rules.specs.History.{Calls, TimesOut, Leaves as Leaves_}
use Rattle.client_rules.specs.Steps.{calls}
use Rattle.data_map.specs.declared.check.RawMap.{RawMap}
use Rattle.server_rules.specs.History.{Makes, Adds}
use Rattle.server_rules.specs.Making.{create_file}
use Rattle.client_rules.specs.Messages.{Message as ClientMessage}
use Rattle.server_rules.specs.Messages.{Message as ServerMessage}
use Rattle.world_history.specs.ClientNames.{CallOp}
use Rattle.world_history.specs.Calm.{moment_of, sent_taken}
use Rattle.world_history.specs.Drives.{Judged, command_in, judges, is_deaf, made_drive}
use Rattle.world_history.specs.Told.{kind_of}
use Rattle.world_history.specs.Book.{made_of}
use Rattle.world_history.specs.Handed.{plain, quiet, for_server, for_client, pending_op, server_takes, drive_replies, drive_hears, client_takes, client_hears, client_goes, handed_to}
use Rattle.world_history.specs.Moves as world
use Rattle.world_history.specs.Moves.{Act, Action, Opens, Delivers, Pends, acts, op_of, raw_of, knows_drive}
use Rattle.world_history.specs.ReadLog.{Log, Logged, Pending, log_after, called_beside, entry_in}
use Rattle.world_history.specs.Sending.{Move, move, sent_line, sent_lines}
use Rattle.world_history.specs.ServerNames.{File}
use Rattle.world_history.specs.State.{World, ClientAt, DriveAt, at_number, and_number, and_drive}
use Rattle.world_history.specs.declared.messages.Body.TheVariants.{Reply as OfReply}
use Rattle.world_history.specs.declared.messages.Posted.{Posted}
use Rattle.history_law.specs.Moments.{with_event, lines_in}
use Rattle.history_law.specs.Doing.{input_in, heard_of, brought, brought_to}
use Rattle.fence_law.specs.State.{State}
use Rattle.file_simulation.proofs.Fronts.{move_begun}
use Rattle.file_simulation.specs.ClientEvents.{Going, going_in, delivered, hearing, hearing_at, going, leaving}
use Rattle.file_simulation.specs.Showing.{Pairs, ArePaired}
use Rattle.file_simulation.specs.Tied.{AreTied}
use Rattle.headline_law.specs.Parts.{CutShown, lines_to}
use Rattle.headline_law.proofs.EntriesOthers.{OthersLeaveEntries}
use Rattle.headline_law.proofs.EntriesRead.{NoneTaken, begun_untold}
use Rattle.headline_law.proofs.EntriesShown.{ReadingLaws}

-- ---- lines

-- it leaves the entries, and is no answer of the server
pub record Leaves (y : Line) : Type 0 where
  pub entries : (q : Log) → (log_after q y).entries ≡ q.entries
  pub untaken : sent_taken y ≡ false
  -- and the entries of pending calls
  pub calls : (q : Log) (c : ℕ) → entry_in (at_number (log_after q y).pending c) ≡ entry_in (at_number q.pending c)

abbrev pub AllLeave : List Line → Type 0
AllLeave [] = Unit {0}
AllLeave (y ∷ ys) = Leaves y × AllLeave ys

pub front_leaves : (n : ℕ) (ys : List Line) → AllLeave ys → AllLeave (take n ys)
front_leaves zero ys all = tt
front_leaves (suc n) [] all = tt
front_leaves (suc n) (y ∷ ys) all = (all.0, front_leaves n ys all.1)

pub leaves_all : (ys : List Line) → AllLeave ys → (q : Log) → (fold log_after q ys).entries ≡ q.entries
leaves_all [] all q = refl
leaves_all (y ∷ ys) all q = leaves_all ys all.1 (log_after q y) ∙ all.0.entries q

pub leaves_none : (ys : List Line) → AllLeave ys → NoneTaken ys
leaves_none [] all = tt
leaves_none (y ∷ ys) all = (all.0.untaken, leaves_none ys all.1)

both_leave : (xs ys : List Line) → AllLeave xs → AllLeave ys → AllLeave (xs ++ ys)
both_leave [] ys a b = b
both_leave (x ∷ xs) ys a b = (a.0, both_leave xs ys a.1 b)

pub event_leaves : (e : Told) → Leaves (line.Event e)
event_leaves e = record { entries = by e; untaken = refl; calls = pends e }
  where
    called_pends : (q : Log) (c : ℕ) (x : Call) (o : Option Pending) → at_number q.pending c ≡ o → (d : ℕ) →
        entry_in (at_number (called_beside q c x o).pending d) ≡ entry_in (at_number q.pending d)
    called_pends q c x (Some p) is d = refl
    called_pends q c x None is d = elim (cases_eq d c) [
      | inl same ↦
          ap (λ (n : ℕ). entry_in (at_number (and_number q.pending c (record { call = x; entry = None })) n)) same
          ∙ ap entry_in (lookup_inserted q.pending c (record { call = x; entry = None }))
          ∙ sym (ap (λ (n : ℕ). entry_in (at_number q.pending n)) same ∙ ap entry_in is)
      | inr other ↦ ap entry_in (lookup_beside q.pending c d (record { call = x; entry = None }) other)
    ]

    pends : (e : Told) (q : Log) (d : ℕ) →
        entry_in (at_number (log_after q (line.Event e)).pending d) ≡ entry_in (at_number q.pending d)
    pends (scenario.Do c x) q d = called_pends q c x (at_number q.pending c) refl d
    pends (scenario.Call c x) q d = called_pends q c x (at_number q.pending c) refl d
    pends e q d = refl

    called_so : (q : Log) (c : ℕ) (x : Call) (o : Option Pending) → (called_beside q c x o).entries ≡ q.entries
    called_so q c x None = refl
    called_so q c x (Some p) = refl

    by : (e : Told) (q : Log) → (log_after q (line.Event e)).entries ≡ q.entries
    by (scenario.Do c x) q = called_so q c x (at_number q.pending c)
    by (scenario.Call c x) q = called_so q c x (at_number q.pending c)
    by e q = refl

-- ---- acts

-- all that an act tells and sends leaves them
abbrev ActLeaves : Act → Type 0
ActLeaves a = AllLeave a.told × ((n : ℕ) → AllLeave (sent_lines n a.posts))

none_posted : (n : ℕ) → AllLeave (sent_lines n [])
unfolding sent_lines
none_posted n = tt

one_told : (y : Line) → Leaves y → (v : World) → ActLeaves (world.tells v y)
one_told y k v = ((k, tt), none_posted)

plainly : (y : Line) → ((q : Log) → log_after q y ≡ q) → sent_taken y ≡ false → Leaves y
plainly y e n = record {
  entries = λ q. ap (λ (l : Log). l.entries) (e q);
  untaken = n;
  calls = λ q c. ap (λ (l : Log). entry_in (at_number l.pending c)) (e q);
}

module _ (w : World) (chosen : List ℕ) where
  -- ---- a message comes

  module _ (n : ℕ) (p : Posted) where
    abbrev v : World
    v = world.marked w n p

    deaf : (r : Delivery) → ActLeaves (world.told_delivered n (quiet v r))
    deaf r = ((plainly (line.Delivered n r) (λ q. refl) refl, tt), none_posted)

    server_leaves : (b : Bool) (o : Option ServerMessage) → (if b then None else heard_of w.clock p.message.from o) ≡ None →
        ActLeaves (world.told_delivered n
        (if b then quiet v delivery.Deaf else server_takes v chosen p.message.from o))
    server_leaves true o e = deaf delivery.Deaf
    server_leaves false None e = deaf delivery.Taken
    server_leaves false (Some m) e = absurd (cc e)

    drive_answers : (d : ℕ) (j : Judged) → ActLeaves (world.told_delivered n (drive_replies v d p.message.from j))
    unfolding sent_lines
    drive_answers d j = (
      (plainly (line.Delivered n (delivery.Judged j.verdict)) (λ q. refl) refl, tt),
      λ k. (plainly (sent_line k (plain (node.Drive d) p.message.from (OfReply j.reply)).message) (λ q. refl) refl, tt),
    )

    drive_leaves : (d : ℕ) (o : Option DriveAt) → ActLeaves (world.told_delivered n (drive_hears v d p.message o))
    drive_leaves d None = deaf delivery.Deaf
    drive_leaves d (Some a) = by (is_deaf a)
      where
        by : (b : Bool) → ActLeaves (world.told_delivered n (if b then quiet v delivery.Deaf
            else drive_replies v d p.message.from (judges a (command_in p.message.body))))
        by true = deaf delivery.Deaf
        by false = drive_answers d (judges a (command_in p.message.body))

    client_leaves : (c : ℕ) (o : Option ClientAt) → hearing c p.message.from (for_client p.message) o ≡ None →
        ActLeaves (world.told_delivered n (client_hears v c p.message o))
    client_leaves c None e = deaf delivery.Deaf
    client_leaves c (Some a) e = by a.stopped (for_client p.message) e
      where
        by : (b : Bool) (m : Option ClientMessage) → hearing c p.message.from m (Some (record a { stopped = b })) ≡ None →
            ActLeaves (world.told_delivered n (if b then quiet v delivery.Deaf else client_takes v c a p.message.from m))
        by true m e = deaf delivery.Deaf
        by false None e = deaf delivery.Taken
        by false (Some m) e = absurd (cc e)

    handed_on : (to : Node) → hearing_at w p.message to ≡ None → brought_to w p.message to ≡ None →
        ActLeaves (world.told_delivered n (handed_to v chosen p.message to))
    handed_on node.Server going_ brings = server_leaves w.down (for_server p.message) brings
    handed_on (node.Drive d) going_ brings = drive_leaves d (at_number w.drives d)
    handed_on (node.Client c) going_ brings = client_leaves c (at_number w.clients c) going_

  comes : (n : ℕ) (o : Option Posted) → delivered w o ≡ None → brought w o ≡ None →
      ActLeaves (world.delivers_found w chosen n o)
  comes n None going_ brings = (tt, none_posted)
  comes n (Some p) going_ brings = handed_on n p p.message.to going_ brings

  delivers_so : (n : ℕ) → delivered w (slice_get w.network.messages n) ≡ None → brought w
      (slice_get w.network.messages n) ≡ None →
      ActLeaves (world.delivers w chosen n)
  unfolding world.delivers
  delivers_so n going_ brings = comes n (slice_get w.network.messages n) going_ brings

  -- ---- a client that isn't there, or is busy

  calls_so : (c : ℕ) (op : CallOp) → going c (Calls op) (at_number w.clients c) ≡ None → ActLeaves (world.calls_at w c op)
  unfolding world.calls_at
  calls_so c op e = by (at_number w.clients c) e
    where
      by : (o : Option ClientAt) → going c (Calls op) o ≡ None →
          ActLeaves (world.by_client w (λ a. world.called w c a op (calls a.state op)) o)
      by None e = (tt, none_posted)
      by (Some a) e = absurd (cc e)

  times_so : (c j : ℕ) → going c (TimesOut j) (at_number w.clients c) ≡ None → ActLeaves (world.times_out w c j)
  unfolding world.times_out
  times_so c j e = by (at_number w.clients c) e
    where
      by : (o : Option ClientAt) → going c (TimesOut j) o ≡ None →
          ActLeaves (world.by_client w (λ a. world.behind (line.TimedOut c j) (client_goes w c a (TimesOut j))) o)
      by None e = (tt, none_posted)
      by (Some a) e = absurd (cc e)

  abbrev gone : (c : ℕ) → ClientAt → Going
  gone c a = record { client = c; state = a.state; input = Leaves_ }

  leaves_so : (c : ℕ) → leaving c (at_number w.clients c) ≡ None → ActLeaves (world.leaves w c)
  unfolding world.leaves
  leaves_so c e = by (at_number w.clients c) e
    where
      busy : (a : ClientAt) (b : Bool) → (if b then None else Some (gone c a)) ≡ None →
          ActLeaves (if b then world.tells w (line.Refused c refusal.Busy) else world.acted (client_goes w c a Leaves_))
      busy a true e = one_told (line.Refused c refusal.Busy) (plainly (line.Refused c refusal.Busy) (λ q. refl) refl) w
      busy a false e = absurd (cc e)

      by : (o : Option ClientAt) → leaving c o ≡ None →
          ActLeaves (world.by_client w (λ a. if is_some a.state.call then world.tells w (line.Refused c refusal.Busy)
          else world.acted (client_goes w c a Leaves_)) o)
      by None e = (tt, none_posted)
      by (Some a) e = busy a (is_some a.state.call) e

  pends_so : (c : ℕ) → ActLeaves (world.pends w c)
  unfolding world.pends
  pends_so c = by (at_number w.clients c)
    where
      as_ : (o : Option CallOp) → ActLeaves (world.pends_as w c o)
      as_ None = (tt, none_posted)
      as_ (Some op) =
          one_told (line.Ended c (outcome.Failed (kind_of op) ending.Pending))
          (plainly (line.Ended c (outcome.Failed (kind_of op) ending.Pending)) (λ q. refl) refl) w

      by : (o : Option ClientAt) → ActLeaves (world.by_client w (λ a. world.pends_as w c (pending_op a.state)) o)
      by None = (tt, none_posted)
      by (Some a) = as_ (pending_op a.state)

  injects_so : (d : ℕ) (bytes : List ℕ) → ActLeaves (world.injects w d bytes)
  unfolding world.injects
  injects_so d bytes = by (at_number w.drives d)
    where
      by : (o : Option DriveAt) → ActLeaves (world.injects_at w d bytes o)
      by None = (tt, none_posted)
      by (Some a) = ((plainly (line.Judged d _) (λ q. refl) refl, tt), none_posted)

  makes_so : (f : ℕ) (m : RawMap) (tag : ℕ) (zoned : Bool) → made_of f m tag zoned ≡ None →
      ActLeaves (world.makes w chosen f m tag zoned)
  unfolding world.makes
  makes_so f m tag zoned e = by (world.has_algorithm m) e
    where
      by : (b : Bool) → (if b then Some (Makes f m tag zoned) else None) ≡ None →
          ActLeaves (if b then world.made_file w f (create_file w.server f m tag zoned chosen)
          else world.tells w (line.Note f (note.BadMap map_fault.Width)))
      by true e = absurd (cc e)
      by false e =
          one_told (line.Note f (note.BadMap map_fault.Width))
          (plainly (line.Note f (note.BadMap map_fault.Width)) (λ q. refl) refl) w

  adds_so : (d : ℕ) (key : List ℕ) (capacity : ℕ) (stored : Bool) →
      (if knows_drive w.server d then None else Some (Adds (world.known_drive d key capacity))) ≡ None →
      ActLeaves (world.adds_drive w d key capacity stored)
  adds_so d key capacity stored e = by (knows_drive w.server d) e
    where
      by : (b : Bool) → (if b then None else Some (Adds (world.known_drive d key capacity))) ≡ None →
          ActLeaves (if b then world.changed (and_drive w d (made_drive d key capacity stored))
          else world.gives (and_drive w d (made_drive d key capacity stored)) [] (Adds (world.known_drive d key capacity)))
      by true e = (tt, none_posted)
      by false e = absurd (cc e)

  -- ---- any

  opens_so : (e : Told) → going_in w (Opens e) ≡ None → input_in w (Opens e) ≡ None →
      ((c : ℕ) → e ≡ scenario.Resend (sender.Client c) → ⊥) → (e ≡ scenario.Resend sender.Server → ⊥) →
      ActLeaves (world.begins w chosen e)
  unfolding world.begins
  opens_so (scenario.Drive d key capacity) goes input other server = adds_so d key capacity false input
  opens_so (scenario.Disk d key capacity) goes input other server = adds_so d key capacity true input
  opens_so (scenario.File f m tag) goes input other server = makes_so f (raw_of m) tag false input
  opens_so (scenario.ZonedFile f m tag) goes input other server = makes_so f (raw_of m) tag true input
  opens_so (scenario.Do c x) goes input other server = calls_so c (op_of x) goes
  opens_so (scenario.Call c x) goes input other server = calls_so c (op_of x) goes
  opens_so (scenario.Deliver n) goes input other server = delivers_so n goes input
  opens_so (scenario.Resend (sender.Client c)) goes input other server = absurd (other c refl)
  opens_so (scenario.Resend sender.Server) goes input other server = absurd (server refl)
  opens_so (scenario.Timeout c k) goes input other server = times_so c k goes
  opens_so (scenario.Leave c) goes input other server = leaves_so c goes
  opens_so (scenario.Inject d bytes) goes input other server = injects_so d bytes
  opens_so (scenario.Zone d zone) goes input other server = absurd (cc input)
  opens_so (scenario.Format format) goes input other server = absurd (cc input)
  opens_so (scenario.Recall f) goes input other server = absurd (cc input)
  opens_so (scenario.Revoke f) goes input other server = absurd (cc input)
  opens_so (scenario.Rebuild f) goes input other server = absurd (cc input)
  opens_so (scenario.Audit f) goes input other server = absurd (cc input)
  opens_so (scenario.Declare d) goes input other server = absurd (cc input)
  opens_so (scenario.Crash machine.Server) goes input other server = absurd (cc input)
  opens_so (scenario.Reopen machine.Server) goes input other server = absurd (cc input)
  opens_so (scenario.Clock (machine.Drive d) time) goes input other server = (tt, none_posted)
  opens_so (scenario.Clock machine.Server time) goes input other server = (tt, none_posted)
  opens_so e goes input other server = (tt, none_posted)

  action_so : (a : Action) → going_in w a ≡ None → input_in w a ≡ None →
      ((c : ℕ) → a ≡ Opens (scenario.Resend (sender.Client c)) → ⊥) → (a ≡ Opens (scenario.Resend sender.Server) → ⊥) →
      ActLeaves (acts w chosen a)
  action_so (Opens e) goes input other server =
      opens_so e goes input (λ c q. other c (ap Opens q)) (λ q. server (ap Opens q))
  action_so (Delivers n) goes input other server = delivers_so n goes input
  action_so (world.TimesOut c k) goes input other server = times_so c k goes
  action_so (Pends c) goes input other server = pends_so c

-- ---- a move

-- Where messages are sent again, the entries of the log are paired as they were.
abbrev pub ResendsLeaveEntries : Type 0
ResendsLeaveEntries =
    (w : World) (h : List Line) (m : Move) (count : ℕ) (f g : File) (s : State) (pairs : Pairs) →
    CutShown w h m count f g s pairs → AreTied w h s f.kept.number pairs → (from : Sender) →
    m.action ≡ Opens (scenario.Resend from) → ArePaired s f.kept.number (moment_of (lines_to w h m count)).log.entries pairs

pub with_leaves : (a : Action) (ys : List Line) → AllLeave ys → AllLeave (with_event a ys)
with_leaves (Opens e) ys all = (event_leaves e, all)
with_leaves (Delivers n) ys all = all
with_leaves (world.TimesOut c k) ys all = all
with_leaves (Pends c) ys all = all

pub sends_again : (a : Action) → ((from : Sender) × (a ≡ Opens (scenario.Resend from)))
    ⊎ ((from : Sender) → a ≡ Opens (scenario.Resend from) → ⊥)
sends_again (Opens (scenario.Resend from)) = inl (from, refl)
sends_again (Opens e) = inr (λ from q. cc q)
sends_again a = inr (λ from q. cc q)

-- each line of a move in which nothing is sent again
pub all_leave : (w : World) (m : Move) → going_in w m.action ≡ None → input_in w m.action ≡ None →
    ((from : Sender) → m.action ≡ Opens (scenario.Resend from) → ⊥) → AllLeave (lines_in w m)
all_leave w m goes input none =
    let a : Act = acts w m.chosen m.action in
    let so : ActLeaves a = action_so w m.chosen m.action goes input (λ c. none (sender.Client c)) (none sender.Server) in
    with_leaves m.action (move w m).lines
    (both_leave a.told (sent_lines (length a.world.network.messages) a.posts) so.0
    (so.1 (length a.world.network.messages)))

pub others_leave_entries : ReadingLaws → ResendsLeaveEntries → OthersLeaveEntries
others_leave_entries laws again w h m count f g s pairs k tied goes input = elim (sends_again m.action) [
  | inl z ↦ again w h m count f g s pairs k tied z.0 z.1
  | inr none ↦
      let all : AllLeave (take count (lines_in w m)) =
      front_leaves count (lines_in w m) (all_leave w m goes input none) in
      subst (λ (es : List Logged). ArePaired s f.kept.number es pairs) (sym
      (ap (λ (l : Log). l.entries)
      (begun_untold laws.moments laws.pending h (take count (lines_in w m)) (move_begun w m count)
      (leaves_none (take count (lines_in w m)) all))
      ∙ leaves_all (take count (lines_in w m)) all (moment_of h).log)) k.shown.shown.paired
]
