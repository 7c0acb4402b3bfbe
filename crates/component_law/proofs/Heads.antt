-- What a move does to the messages, and what the first line that it tells says.
use Rattle.std.proofs.Common.{◌≡◌, ℕ, ◌+◌, ◌≤◌, ◌∷◌, ◌&&◌, [], List, Bool, true, false, nat_lt, Option, Some, None, Result, Ok, Err, is_some, slice_get, slice_set, refl, sym, ap, ◌∙◌, arith, if◌then◌else◌}
use Rattle.std.specs.List.{filter_map, cons_option}
use Rattle.std.proofs.lemmas.Bool.Decides.{nat_tests}
use Rattle.osd_lists.specs.declared.node.Node.{Node}
use Rattle.osd_lists.specs.declared.node.Node.TheVariants as node
use Rattle.osd_commands.specs.declared.actions.Action.{Action as CommandAction}
use Rattle.osd_commands.specs.declared.actions.Action.TheVariants.{Write}
use Rattle.osd_commands.specs.declared.commands.Command.{Command}
use Rattle.osd_commands.specs.declared.commands.CommandErr.{CommandErr}
use Rattle.osd_commands.specs.Commands.{reading}
use Rattle.osd_drive.specs.declared.limits.TheConstants.{MAX_END}
use Rattle.osd_drive.specs.declared.verdict.Verdict.{Verdict as Fault}
use Rattle.osd_drive.specs.declared.verdict.Verdict.TheVariants as fault
use Rattle.osd_drive.specs.State.{view_of}
use Rattle.osd_drive.specs.Table.{first_fault, has_range, is_write}
use Rattle.osd_drive.proofs.Clear.{clear_early, clear_late}
use Rattle.server_rules.specs.Files.{Step as ServerStep}
use Rattle.server_rules.specs.Making.{create_file}
use Rattle.server_rules.specs.Messages.{Message as ServerMessage}
use Rattle.server_rules.specs.History.{step as server_step}
use Rattle.server_rules.specs.History as server_input
use Rattle.client_rules.specs.Messages.{Message as ClientMessage, Step as ClientStep}
use Rattle.client_rules.specs.Steps.{calls}
use Rattle.client_rules.specs.History as client_input
use Rattle.scenario_text.specs.declared.event.Event.{Event}
use Rattle.scenario_text.specs.declared.event.Event.TheVariants as event
use Rattle.scenario_text.specs.declared.event.Sender.TheVariants as sender
use Rattle.scenario_text.specs.declared.event.Machine.TheVariants as machine
use Rattle.scenario_text.specs.declared.names.TheConstants.{FILES}
use Rattle.scenario_text.specs.declared.line.Delivery.{Delivery}
use Rattle.scenario_text.specs.declared.line.Delivery.TheVariants as delivery
use Rattle.scenario_text.specs.declared.line.Outcome.{Outcome}
use Rattle.scenario_text.specs.declared.line.Verdict.{Verdict}
use Rattle.scenario_text.specs.declared.line.Verdict.TheVariants as verdict
use Rattle.scenario_text.specs.declared.line.Line.{Line}
use Rattle.scenario_text.specs.declared.line.Line.TheVariants as line
use Rattle.world_history.specs.ServerNames as server_rules
use Rattle.world_history.specs.ClientNames as client_rules
use Rattle.world_history.specs.declared.messages.Message.{Message}
use Rattle.world_history.specs.declared.messages.Posted.{Posted}
use Rattle.world_history.specs.State.{Network, DriveAt, ClientAt, World, at_number, with_down}
use Rattle.world_history.specs.Spelled.{spelled}
use Rattle.world_history.specs.Told.{kind_of, told_verdict}
use Rattle.world_history.specs.Names.{where_known, known_outcome, is_tellable_note, note_line, known_note_line}
use Rattle.world_history.specs.Drives.{verdict_on, command_in, judges, raised, at_time, fallen, crashed, reopened, is_deaf}
use Rattle.world_history.specs.Handed.{Handed, quiet, drive_hears, drive_replies, server_takes, client_hears, client_takes, client_goes, for_client, for_server, handed, handed_to, op_in, pending_op, end_line, ended_by}
use Rattle.world_history.specs.Moves.{Act, Action, Opens, Delivers, TimesOut, Pends, marked, delivers_found, delivers, drops_found, by_client, called, calls_at, op_of, times_out, leaves, resends, pends_as, pends, raw_of, made_file, makes, gives, has_algorithm, by_drive, at_drive, injects_at, injects, known_drive, knows_drive, adds_drive, stops, begins, acts}
use Rattle.component_law.specs.Bounds.{IsWithin}
use Rattle.component_law.proofs.Standing.{Stay, stay_same, stay_on, stay_set}

-- ---- a WRITE that a drive performs

-- it tells that it performs where it finds no fault
told_clear : (v : Fault) → told_verdict v ≡ verdict.Perform → v ≡ fault.Perform
told_clear fault.Perform e = refl
told_clear v e = absurd (cc e)

write_ranges : (a : CommandAction) → is_write a ≡ true → has_range a ≡ true
write_ranges Write e = refl
write_ranges a e = absurd (cc e)

clear_within : (c : Command) → is_write c.action ≡ true
    → (has_range c.action && nat_lt MAX_END (c.offset + c.length)) ≡ false → c.offset ≤ MAX_END
clear_within c write range =
    let past : nat_lt MAX_END (c.offset + c.length) ≡ false = rw (write_ranges c.action write) at range in
    grind (arith, nat_tests, past)

performed_within : (a : DriveAt) (bytes : List ℕ) → verdict_on a.state a.clock (reading bytes) ≡ verdict.Perform
    → IsWithin (Some bytes)
performed_within a bytes e b c is read write =
    let same : bytes ≡ b = cc in
    let reads : reading bytes ≡ Ok c = ap reading same ∙ read in
    let clear : first_fault a.state a.clock c ≡ fault.Perform =
    told_clear (first_fault a.state a.clock c)
    (sym (ap (λ (r : Result Command CommandErr). verdict_on a.state a.clock r) reads) ∙ e) in
    clear_within c write
    (clear_late (view_of a.state.store c) c (clear_early a.state a.clock c clear).0).range

-- ---- a line

-- a message that was sent is delivered
pub record WasDelivered (w : World) (n : ℕ) (d : Delivery) : Type 0 where
  pub posted : Posted
  pub found : slice_get w.network.messages n ≡ Some posted
  pub within : d ≡ delivery.Judged verdict.Perform → IsWithin (Some (spelled posted.message.body))

-- bytes are injected
pub record WasInjected (action : Action) (d : ℕ) (v : Verdict) : Type 0 where
  pub bytes : List ℕ
  pub action_is : action ≡ Opens (event.Inject d bytes)
  pub within : v ≡ verdict.Perform → IsWithin (Some bytes)

abbrev pub LineSo : World → Action → Line → Type 0
LineSo w action (line.Delivered n d) = WasDelivered w n d
LineSo w action (line.Judged d v) = WasInjected action d v
LineSo w action l = Unit {0}

abbrev pub HeadSo : World → Action → List Line → Type 0
HeadSo w action [] = Unit {0}
HeadSo w action (l ∷ ls) = LineSo w action l

-- the messages stay, and the first line that is told is so
pub record ActSo (w : World) (action : Action) (a : Act) : Type 0 where
  pub stay : Stay w.network.messages a.world.network.messages
  pub head : HeadSo w action a.told

-- ---- a message comes to its receiver

record HandSo (w : World) (h : Handed) (m : Message) : Type 0 where
  network : h.world.network ≡ w.network
  within : h.receipt ≡ delivery.Judged verdict.Perform → IsWithin (Some (spelled m.body))

deaf_so : (w : World) (m : Message) → HandSo w (quiet w delivery.Deaf) m
deaf_so w m = record { network = refl; within = λ e. absurd (cc e) }

taken_so : (w : World) (m : Message) → HandSo w (quiet w delivery.Taken) m
taken_so w m = record { network = refl; within = λ e. absurd (cc e) }

either_hand : (w : World) (m : Message) (b : Bool) (x y : Handed) → HandSo w x m → HandSo w y m
    → HandSo w (if b then x else y) m
either_hand w m true x y p q = p
either_hand w m false x y p q = q

judged_so : (w : World) (d : ℕ) (m : Message) (a : DriveAt)
    → HandSo w (drive_replies w d m.from (judges a (command_in m.body))) m
unfolding judges
judged_so w d m a = record {
  network = refl;
  within = λ e. performed_within a (spelled m.body) (cc e);
}

drive_hand : (w : World) (d : ℕ) (m : Message) (a : Option DriveAt) → HandSo w (drive_hears w d m a) m
drive_hand w d m None = deaf_so w m
drive_hand w d m (Some a) = either_hand w m (is_deaf a) _ _ (deaf_so w m) (judged_so w d m a)

server_hand : (w : World) (chosen : List ℕ) (m : Message) (o : Option ServerMessage)
    → HandSo w (server_takes w chosen m.from o) m
server_hand w chosen m None = taken_so w m
server_hand w chosen m (Some x) = record { network = refl; within = λ e. absurd (cc e) }

client_hand : (w : World) (c : ℕ) (a : ClientAt) (m : Message) (o : Option ClientMessage)
    → HandSo w (client_takes w c a m.from o) m
client_hand w c a m None = taken_so w m
client_hand w c a m (Some x) = record { network = refl; within = λ e. absurd (cc e) }

client_heard : (w : World) (c : ℕ) (m : Message) (a : Option ClientAt) → HandSo w (client_hears w c m a) m
client_heard w c m None = deaf_so w m
client_heard w c m (Some a) =
    either_hand w m a.stopped _ _ (deaf_so w m) (client_hand w c a m (for_client m))

hand_so : (w : World) (chosen : List ℕ) (m : Message) (to : Node) → HandSo w (handed_to w chosen m to) m
hand_so w chosen m node.Server = either_hand w m w.down _ _ (deaf_so w m) (server_hand w chosen m (for_server m))
hand_so w chosen m (node.Drive d) = drive_hand w d m (at_number w.drives d)
hand_so w chosen m (node.Client c) = client_heard w c m (at_number w.clients c)

-- ---- an act

module _ (w : World) (action : Action) where
  same_so : (a : Act) → a.world.network ≡ w.network → HeadSo w action a.told → ActSo w action a
  same_so a e h = record {
    stay = stay_same w.network.messages a.world.network.messages (ap (λ (n : Network). n.messages) e);
    head = h;
  }

  either_so : (b : Bool) (x y : Act) → ActSo w action x → ActSo w action y → ActSo w action (if b then x else y)
  either_so true x y p q = p
  either_so false x y p q = q

  -- ---- notes and ends

  note_so : (known : Bool) (n : server_rules.Note) (ls : List Line) → HeadSo w action ls
      → HeadSo w action (cons_option (where_known known (note_line n)) ls)
  note_so true n ls h = tt
  note_so false n ls h = h

  notes_so : (ns : List server_rules.Note) → HeadSo w action (filter_map known_note_line ns)
  notes_so [] = tt
  notes_so (n ∷ ns) =
      note_so (nat_lt n.file FILES && is_tellable_note n.kind) n (filter_map known_note_line ns) (notes_so ns)

  end_so : (c : ℕ) (o : Option Outcome) → HeadSo w action (end_line c o)
  end_so c None = tt
  end_so c (Some o) = tt

  ended_so : (c : ℕ) (op : Option client_rules.CallOp) (o : Option client_rules.Outcome)
      → HeadSo w action (ended_by c op o)
  ended_so c None o = tt
  ended_so c (Some op) None = tt
  ended_so c (Some op) (Some o) = end_so c (known_outcome (kind_of op) o)

  goes_so : (c : ℕ) (a : ClientAt) (i : client_input.Input) → HeadSo w action (client_goes w c a i).told
  goes_so c a i = ended_so c (op_in a.state i) (client_input.step a.state i).outcome

  -- ---- a client

  client_so : (does : ClientAt → Act) (a : Option ClientAt) → ((x : ClientAt) → ActSo w action (does x))
      → ActSo w action (by_client w does a)
  client_so does None h = same_so _ refl tt
  client_so does (Some a) h = h a

  called_so : (c : ℕ) (a : ClientAt) (op : client_rules.CallOp) (r : Result ClientStep client_rules.CallErr)
      → ActSo w action (called w c a op r)
  called_so c a op (Ok s) = same_so _ refl (ended_so c (Some op) s.outcome)
  called_so c a op (Err e) = same_so _ refl tt

  call_so : (c : ℕ) (op : client_rules.CallOp) → ActSo w action (calls_at w c op)
  unfolding calls_at
  call_so c op = client_so _ (at_number w.clients c) (λ a. called_so c a op (calls a.state op))

  timeout_so : (c k : ℕ) → ActSo w action (times_out w c k)
  unfolding times_out
  timeout_so c k = client_so _ (at_number w.clients c) (λ a. same_so _ refl tt)

  leave_so : (c : ℕ) → ActSo w action (leaves w c)
  unfolding leaves
  leave_so c = client_so _ (at_number w.clients c) (λ a.
      either_so (is_some a.state.call) _ _ (same_so _ refl tt) (same_so _ refl (goes_so c a client_input.Leaves)))

  resend_so : (c : ℕ) → ActSo w action (resends w c)
  unfolding resends
  resend_so c = client_so _ (at_number w.clients c) (λ a. same_so _ refl (goes_so c a client_input.Resends))

  pends_as_so : (c : ℕ) (op : Option client_rules.CallOp) → ActSo w action (pends_as w c op)
  pends_as_so c None = same_so _ refl tt
  pends_as_so c (Some op) = same_so _ refl tt

  pending_so : (c : ℕ) → ActSo w action (pends w c)
  unfolding pends
  pending_so c = client_so _ (at_number w.clients c) (λ a. pends_as_so c (pending_op a.state))

  -- ---- the server

  gives_so : (down : Bool) (chosen : List ℕ) (i : server_input.Input)
      → ActSo w action (gives (with_down w down) chosen i)
  unfolding gives
  gives_so down chosen i = same_so _ refl (notes_so (server_step w.server chosen i).notes)

  made_so : (f : ℕ) (r : Result ServerStep server_rules.Refusal) → ActSo w action (made_file w f r)
  made_so f (Ok s) = same_so _ refl (notes_so s.notes)
  made_so f (Err e) = same_so _ refl tt

  makes_so : (chosen : List ℕ) (f : ℕ) (m : server_rules.RawMap) (tag : ℕ) (zoned : Bool)
      → ActSo w action (makes w chosen f m tag zoned)
  unfolding makes
  makes_so chosen f m tag zoned =
      either_so (has_algorithm m) _ _ (made_so f (create_file w.server f m tag zoned chosen)) (same_so _ refl tt)

  adds_so : (d : ℕ) (key : List ℕ) (capacity : ℕ) (stored : Bool)
      → ActSo w action (adds_drive w d key capacity stored)
  unfolding gives
  adds_so d key capacity stored = either_so (knows_drive w.server d) _ _ (same_so _ refl tt) (same_so _ refl
      (notes_so (server_step w.server [] (server_input.Adds (known_drive d key capacity))).notes))

  -- ---- drives and messages

  drive_network : (d : ℕ) (becomes : DriveAt → DriveAt) (a : Option DriveAt)
      → (by_drive w d becomes a).network ≡ w.network
  drive_network d becomes None = refl
  drive_network d becomes (Some a) = refl

  drive_so : (d : ℕ) (becomes : DriveAt → DriveAt)
      → ActSo w action (record { world = at_drive w d becomes; told = []; posts = [] })
  drive_so d becomes = same_so _ (drive_network d becomes (at_number w.drives d)) tt

  stops_network : (c : ℕ) (a : Option ClientAt) → (stops w c a).network ≡ w.network
  stops_network c None = refl
  stops_network c (Some a) = refl

  drops_so : (n : ℕ) (p : Option Posted) → slice_get w.network.messages n ≡ p
      → Stay w.network.messages (drops_found w n p).network.messages
  drops_so n None e = stay_same _ _ refl
  drops_so n (Some p) e = stay_set w.network.messages n p (record p { dropped = true }) e refl

  -- ---- a delivery

  found_so : (chosen : List ℕ) (n : ℕ) (p : Option Posted) → slice_get w.network.messages n ≡ p
      → ActSo w action (delivers_found w chosen n p)
  found_so chosen n None e = same_so _ refl tt
  found_so chosen n (Some p) e =
      let h : HandSo (marked w n p) (handed (marked w n p) chosen p.message) p.message =
      hand_so (marked w n p) chosen p.message p.message.to in
      record {
        stay =
            stay_on w.network.messages (slice_set w.network.messages n (record p { delivered = true }))
            (handed (marked w n p) chosen p.message).world.network.messages
            (stay_set w.network.messages n p (record p { delivered = true }) e refl)
            (ap (λ (x : Network). x.messages) h.network);
        head = record { posted = p; found = e; within = h.within };
      }

  delivers_so : (chosen : List ℕ) (n : ℕ) → ActSo w action (delivers w chosen n)
  unfolding delivers
  delivers_so chosen n = found_so chosen n (slice_get w.network.messages n) refl

injects_so : (w : World) (d : ℕ) (bytes : List ℕ) (a : Option DriveAt)
    → ActSo w (Opens (event.Inject d bytes)) (injects_at w d bytes a)
unfolding judges
injects_so w d bytes None = same_so w _ _ refl tt
injects_so w d bytes (Some a) = same_so w _ _ refl (record {
  bytes = bytes;
  action_is = refl;
  within = λ e. performed_within a bytes e;
})

inject_so : (w : World) (d : ℕ) (bytes : List ℕ) → ActSo w (Opens (event.Inject d bytes)) (injects w d bytes)
unfolding injects
inject_so w d bytes = injects_so w d bytes (at_number w.drives d)

-- ---- each kind of action

begins_so : (w : World) (chosen : List ℕ) (e : Event) → ActSo w (Opens e) (begins w chosen e)
unfolding begins
begins_so w chosen (event.Drive d key capacity) = adds_so w _ d key capacity false
begins_so w chosen (event.Disk d key capacity) = adds_so w _ d key capacity true
begins_so w chosen (event.File f m tag) = makes_so w _ chosen f (raw_of m) tag false
begins_so w chosen (event.ZonedFile f m tag) = makes_so w _ chosen f (raw_of m) tag true
begins_so w chosen (event.Zone d zone) = gives_so w _ w.down chosen (server_input.Zones d zone)
begins_so w chosen (event.Least d format) = drive_so w _ d (λ a. raised a format)
begins_so w chosen (event.Format format) = gives_so w _ w.down chosen (server_input.Formats format)
begins_so w chosen (event.Do c x) = call_so w _ c (op_of x)
begins_so w chosen (event.Call c x) = call_so w _ c (op_of x)
begins_so w chosen (event.Deliver number) = delivers_so w _ chosen number
begins_so w chosen (event.DropMessage number) = record {
  stay = drops_so w (Opens (event.DropMessage number)) number (slice_get w.network.messages number) refl;
  head = tt;
}
begins_so w chosen (event.Resend (sender.Client c)) = resend_so w _ c
begins_so w chosen (event.Resend sender.Server) = gives_so w _ w.down chosen server_input.Resends
begins_so w chosen (event.Timeout c component) = timeout_so w _ c component
begins_so w chosen (event.Leave c) = leave_so w _ c
begins_so w chosen (event.Inject d bytes) = inject_so w d bytes
begins_so w chosen (event.Clock (machine.Drive d) time) = drive_so w _ d (λ a. at_time a time)
begins_so w chosen (event.Clock machine.Server time) = same_so w _ _ refl tt
begins_so w chosen (event.Recall f) = gives_so w _ w.down chosen (server_input.Obeys server_rules.ToRecall f)
begins_so w chosen (event.Revoke f) = gives_so w _ w.down chosen (server_input.Obeys server_rules.ToRevoke f)
begins_so w chosen (event.Rebuild f) = gives_so w _ w.down chosen (server_input.Obeys server_rules.ToRebuild f)
begins_so w chosen (event.Audit f) = gives_so w _ w.down chosen (server_input.Obeys server_rules.ToAudit f)
begins_so w chosen (event.Declare d) = gives_so w _ w.down chosen (server_input.Obeys server_rules.ToDeclare d)
begins_so w chosen (event.Stop c) =
    same_so w _ _ (stops_network w (Opens (event.Stop c)) c (at_number w.clients c)) tt
begins_so w chosen (event.Fail d) = drive_so w _ d fallen
begins_so w chosen (event.Crash (machine.Drive d)) = drive_so w _ d crashed
begins_so w chosen (event.Crash machine.Server) = gives_so w _ true chosen server_input.Crashes
begins_so w chosen (event.Reopen (machine.Drive d)) = drive_so w _ d reopened
begins_so w chosen (event.Reopen machine.Server) = gives_so w _ false chosen server_input.Opens
begins_so w chosen e = same_so w _ _ refl tt

pub acts_so : (w : World) (chosen : List ℕ) (a : Action) → ActSo w a (acts w chosen a)
acts_so w chosen (Opens e) = begins_so w chosen e
acts_so w chosen (Delivers number) = delivers_so w _ chosen number
acts_so w chosen (TimesOut c k) = timeout_so w _ c k
acts_so w chosen (Pends c) = pending_so w _ c
