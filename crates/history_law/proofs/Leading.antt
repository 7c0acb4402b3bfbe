-- What a move tells: a line with which a step begins comes first, if at all.
use Rattle.std.specs.List.{cons_option, filter_map}
use Rattle.std.proofs.Common.{◌≡◌, ℕ, ◌∷◌, [], List, Bool, true, false, nat_lt, ◌&&◌, Option, Some, None, Result, Ok, Err, is_some, slice_get, refl, ap, ◌∙◌, ◌⊎◌, inl, inr, if◌then◌else◌}
use Rattle.osd_lists.specs.declared.node.Node.{Node}
use Rattle.osd_lists.specs.declared.node.Node.TheVariants as node
use Rattle.data_map.specs.declared.check.RawMap.{RawMap}
use Rattle.server_rules.specs.Files.{Step as ServerStep}
use Rattle.server_rules.specs.Making.{create_file}
use Rattle.server_rules.specs.Messages.{Message as ServerMessage}
use Rattle.server_rules.specs.Envelopes.{message_in}
use Rattle.server_rules.specs.History.{Input, Hears, Adds, step}
use Rattle.client_rules.specs.Messages.{Message as ClientMessage, Step as ClientStep}
use Rattle.client_rules.specs.Steps.{calls}
use Rattle.client_rules.specs.History as client_input
use Rattle.scenario_text.specs.declared.names.TheConstants.{FILES}
use Rattle.scenario_text.specs.declared.event.Event.{Event}
use Rattle.scenario_text.specs.declared.event.Event.TheVariants as event
use Rattle.scenario_text.specs.declared.event.Sender.TheVariants as sender
use Rattle.scenario_text.specs.declared.event.Machine.TheVariants as machine
use Rattle.scenario_text.specs.declared.line.CallKind.{CallKind}
use Rattle.scenario_text.specs.declared.line.Delivery.{Delivery}
use Rattle.scenario_text.specs.declared.line.Delivery.TheVariants as delivery
use Rattle.scenario_text.specs.declared.line.Ending.TheVariants as ending
use Rattle.scenario_text.specs.declared.line.Outcome.{Outcome}
use Rattle.scenario_text.specs.declared.line.Outcome.TheVariants as outcome
use Rattle.scenario_text.specs.declared.line.Party.{Party}
use Rattle.scenario_text.specs.declared.line.Line.{Line}
use Rattle.scenario_text.specs.declared.line.Line.TheVariants as line
use Rattle.world_history.specs.ServerNames as server_rules
use Rattle.world_history.specs.ServerNames.{Refusal}
use Rattle.world_history.specs.ClientNames as client_rules
use Rattle.world_history.specs.declared.messages.Message.{Message}
use Rattle.world_history.specs.declared.messages.Posted.{Posted}
use Rattle.world_history.specs.State.{DriveAt, ClientAt, World, at_number, and_drive, with_down}
use Rattle.world_history.specs.Spelled.{spelled, party_of, node_of}
use Rattle.world_history.specs.Told.{kind_of}
use Rattle.world_history.specs.Names.{where_known, note_line, is_tellable_note, known_note_line, known_outcome}
use Rattle.world_history.specs.Drives.{judges, command_in, made_drive, is_deaf}
use Rattle.world_history.specs.Handed.{Handed, end_line, ended_by, quiet, drive_hears, drive_replies, server_hears, server_takes, client_hears, client_takes, client_goes, for_client, for_server, handed_to, op_in, pending_op}
use Rattle.world_history.specs.Moves.{Act, marked, delivers_found, delivers, by_client, called, calls_at, times_out, leaves, resends, pends_as, pends, made_file, makes, gives, has_algorithm, injects_at, injects, adds_drive, changed, known_drive, knows_drive, op_of, raw_of, begins}
use Rattle.world_history.specs.Reading.{is_head}
use Rattle.world_history.specs.Book.{created_in, heard_from, heard_for, heard, input_at, clock_after}
use Rattle.world_history.specs.Laws.{shown}
use Rattle.history_law.proofs.DriveLines.{shown_get}
use Rattle.history_law.specs.Doing.{heard_of, brought_to, brought}
use Rattle.history_law.specs.Read.{server_of, leads}

-- ---- lines that begin no step

-- these begin none, and tell of no CREATE
abbrev pub AreFlat : List Line → Type 0
AreFlat [] = Unit {0}
AreFlat (l ∷ ls) = (is_head l ≡ false) × (created_in l ≡ []) × AreFlat ls

flat_note : (known : Bool) (n : server_rules.Note) (ls : List Line) → AreFlat ls
    → AreFlat (cons_option (where_known known (note_line n)) ls)
flat_note true n ls q = (refl, refl, q)
flat_note false n ls q = q

flat_notes : (ns : List server_rules.Note) → AreFlat (filter_map known_note_line ns)
flat_notes [] = tt
flat_notes (n ∷ ns) =
    flat_note (nat_lt n.file FILES && is_tellable_note n.kind) n (filter_map known_note_line ns) (flat_notes ns)

flat_end : (c : ℕ) (o : Option Outcome) → AreFlat (end_line c o)
flat_end c None = tt
flat_end c (Some o) = (refl, refl, tt)

pub flat_ended : (c : ℕ) (op : Option client_rules.CallOp) (o : Option client_rules.Outcome) → AreFlat (ended_by c op o)
flat_ended c None o = tt
flat_ended c (Some op) None = tt
flat_ended c (Some op) (Some o) = flat_end c (known_outcome (kind_of op) o)

either_hand : (b : Bool) (x y : Handed) → AreFlat x.told → AreFlat y.told → AreFlat (if b then x else y).told
either_hand true x y p q = p
either_hand false x y p q = q

either_act : (b : Bool) (x y : Act) → AreFlat x.told → AreFlat y.told → AreFlat (if b then x else y).told
either_act true x y p q = p
either_act false x y p q = q

server_flat : (w : World) (chosen : List ℕ) (from : Node) (m : Option ServerMessage)
    → AreFlat (server_takes w chosen from m).told
server_flat w chosen from None = tt
server_flat w chosen from (Some m) = flat_notes (step w.server chosen (Hears w.clock from m)).notes

heard_by_server : (w : World) (chosen : List ℕ) (m : Message) → AreFlat (server_hears w chosen m).told
heard_by_server w chosen m =
    either_hand w.down (quiet w delivery.Deaf) (server_takes w chosen m.from (for_server m)) tt
    (server_flat w chosen m.from (for_server m))

drive_flat : (w : World) (d : ℕ) (m : Message) (o : Option DriveAt) → AreFlat (drive_hears w d m o).told
drive_flat w d m None = tt
drive_flat w d m (Some a) =
    either_hand (is_deaf a) (quiet w delivery.Deaf) (drive_replies w d m.from (judges a (command_in m.body))) tt tt

client_flat : (w : World) (c : ℕ) (a : ClientAt) (from : Node) (m : Option ClientMessage)
    → AreFlat (client_takes w c a from m).told
client_flat w c a from None = tt
client_flat w c a from (Some m) = flat_ended c (op_in a.state (client_input.Hears from m)) _

heard_flat : (w : World) (c : ℕ) (m : Message) (o : Option ClientAt) → AreFlat (client_hears w c m o).told
heard_flat w c m None = tt
heard_flat w c m (Some a) =
    either_hand a.stopped (quiet w delivery.Deaf) (client_takes w c a m.from (for_client m)) tt
    (client_flat w c a m.from (for_client m))

pub handed_flat : (w : World) (chosen : List ℕ) (m : Message) (to : Node) → AreFlat (handed_to w chosen m to).told
handed_flat w chosen m node.Server = heard_by_server w chosen m
handed_flat w chosen m (node.Drive d) = drive_flat w d m (at_number w.drives d)
handed_flat w chosen m (node.Client c) = heard_flat w c m (at_number w.clients c)

-- ---- what comes to the server with a delivery

from_party : (now : ℕ) (from : Party) (o : Option ServerMessage) → heard_from now from o ≡ heard_of now (node_of from) o
from_party now from None = refl
from_party now from (Some m) = refl

named_again : (n : Node) → node_of (party_of n) ≡ n
named_again node.Server = refl
named_again (node.Drive d) = refl
named_again (node.Client c) = refl

-- what is delivered to the server, heard or not
server_takes_it : (w : World) (chosen : List ℕ) (from : Node) (m : Option ServerMessage)
    → (server_takes w chosen from m).receipt ≡ delivery.Taken
server_takes_it w chosen from None = refl
server_takes_it w chosen from (Some m) = refl

server_input : (w v : World) (n : ℕ) (chosen : List ℕ) (p : Posted) (b : Bool)
    → heard w.clock (slice_get (server_of w).sent n) ≡ heard_of w.clock p.message.from (for_server p.message)
    → input_at (server_of w) (line.Delivered n
    (if b then quiet v delivery.Deaf else server_takes v chosen p.message.from (for_server p.message)).receipt)
    ≡ (if b then None else heard_of w.clock p.message.from (for_server p.message))
server_input w v n chosen p true comes = refl
server_input w v n chosen p false comes =
    ap (λ (d : Delivery). input_at (server_of w) (line.Delivered n d))
    (server_takes_it v chosen p.message.from (for_server p.message)) ∙ comes

-- what isn't for the server brings it nothing
no_input : (w : World) (n : ℕ) (d : Delivery) → heard w.clock (slice_get (server_of w).sent n) ≡ None
    → input_at (server_of w) (line.Delivered n d) ≡ None
no_input w n delivery.Deaf comes = refl
no_input w n delivery.Taken comes = comes
no_input w n (delivery.Judged v) comes = comes

handed_input : (w : World) (chosen : List ℕ) (n : ℕ) (p : Posted) (to : Node)
    → heard w.clock (slice_get (server_of w).sent n) ≡ heard_for w.clock (shown p) (party_of to)
    → input_at (server_of w) (line.Delivered n (handed_to (marked w n p) chosen p.message to).receipt)
    ≡ brought_to w p.message to
handed_input w chosen n p node.Server comes =
    server_input w (marked w n p) n chosen p w.down
    (comes ∙ from_party w.clock (party_of p.message.from) _
    ∙ ap (λ (x : Node). heard_of w.clock x (message_in x (spelled p.message.body))) (named_again p.message.from))
handed_input w chosen n p (node.Drive d) comes = no_input w n _ comes
handed_input w chosen n p (node.Client c) comes = no_input w n _ comes

delivered_input : (w : World) (chosen : List ℕ) (n : ℕ) (p : Posted) → slice_get w.network.messages n ≡ Some p
    → input_at (server_of w) (line.Delivered n (handed_to (marked w n p) chosen p.message p.message.to).receipt)
    ≡ brought_to w p.message p.message.to
delivered_input w chosen n p found =
    handed_input w chosen n p p.message.to (ap (heard w.clock) (shown_get w.network.messages n (Some p) found))

-- ---- an action that leads a step of its own

-- Its first line begins a step for what comes to the server, and the lines behind it begin none; or it tells and sends
-- nothing.
pub data Leads (w : World) (i : Option Input) (a : Act) : Type 0 where
  Silent : a.told ≡ [] → a.posts ≡ [] → i ≡ None → Leads w i a
  Heads : (l : Line) (rest : List Line) → a.told ≡ l ∷ rest → is_head l ≡ true → clock_after w.clock l ≡ w.clock
      → input_at (server_of w) l ≡ i → AreFlat rest → Leads w i a

found_leads : (w : World) (chosen : List ℕ) (n : ℕ) (o : Option Posted) → slice_get w.network.messages n ≡ o
    → Leads w (brought w o) (delivers_found w chosen n o)
found_leads w chosen n None found = Silent refl refl refl
found_leads w chosen n (Some p) found =
    let h = handed_to (marked w n p) chosen p.message p.message.to in
    Heads (line.Delivered n h.receipt) h.told refl refl refl (delivered_input w chosen n p found)
    (handed_flat (marked w n p) chosen p.message p.message.to)

pub delivers_lead : (w : World) (chosen : List ℕ) (n : ℕ)
    → Leads w (brought w (slice_get w.network.messages n)) (delivers w chosen n)
unfolding delivers
delivers_lead w chosen n = found_leads w chosen n (slice_get w.network.messages n) refl

timeout_at : (w : World) (c k : ℕ) (o : Option ClientAt) → at_number w.clients c ≡ o → Leads w None (times_out w c k)
unfolding times_out
timeout_at w c k None found =
    Silent (ap (λ (o : Option ClientAt). (by_client w does o).told) found)
    (ap (λ (o : Option ClientAt). (by_client w does o).posts) found) refl
  where
    does : ClientAt → Act
    does a = record {
      world = (client_goes w c a (client_input.TimesOut k)).world;
      told = line.TimedOut c k ∷ (client_goes w c a (client_input.TimesOut k)).told;
      posts = (client_goes w c a (client_input.TimesOut k)).posts;
    }
timeout_at w c k (Some a) found =
    Heads (line.TimedOut c k) (client_goes w c a (client_input.TimesOut k)).told
    (ap (λ (o : Option ClientAt). (by_client w does o).told) found) refl refl refl
    (flat_ended c (op_in a.state (client_input.TimesOut k)) _)
  where
    does : ClientAt → Act
    does b = record {
      world = (client_goes w c b (client_input.TimesOut k)).world;
      told = line.TimedOut c k ∷ (client_goes w c b (client_input.TimesOut k)).told;
      posts = (client_goes w c b (client_input.TimesOut k)).posts;
    }

pub timeout_leads : (w : World) (c k : ℕ) → Leads w None (times_out w c k)
timeout_leads w c k = timeout_at w c k (at_number w.clients c) refl

injected_leads : (w : World) (d : ℕ) (bytes : List ℕ) (o : Option DriveAt) → Leads w None (injects_at w d bytes o)
injected_leads w d bytes None = Silent refl refl refl
injected_leads w d bytes (Some a) = Heads _ [] refl refl refl refl tt

pub injects_lead : (w : World) (d : ℕ) (bytes : List ℕ) → Leads w None (injects w d bytes)
unfolding injects
injects_lead w d bytes = injected_leads w d bytes (at_number w.drives d)

-- ---- a call that is left pending

-- the line of such a call, or none, and nothing is sent
abbrev pub IsPending : Act → Type 0
IsPending a = (a.posts ≡ []) × ((a.told ≡ []) ⊎ ((c : ℕ) × (k : CallKind)
    × (a.told ≡ line.Ended c (outcome.Failed k ending.Pending) ∷ [])))

pending_as : (w : World) (c : ℕ) (o : Option client_rules.CallOp) → IsPending (pends_as w c o)
pending_as w c None = (refl, inl refl)
pending_as w c (Some op) = (refl, inr (c, kind_of op, refl))

pending_at : (w : World) (c : ℕ) (o : Option ClientAt)
    → IsPending (by_client w (λ a. pends_as w c (pending_op a.state)) o)
pending_at w c None = (refl, inl refl)
pending_at w c (Some a) = pending_as w c (pending_op a.state)

pub pends_pending : (w : World) (c : ℕ) → IsPending (pends w c)
unfolding pends
pends_pending w c = pending_at w c (at_number w.clients c)

-- ---- what any other event begins with begins no step

client_at : (w : World) (does : ClientAt → Act) (o : Option ClientAt) → ((a : ClientAt) → AreFlat (does a).told)
    → AreFlat (by_client w does o).told
client_at w does None each = tt
client_at w does (Some a) each = each a

called_flat : (w : World) (c : ℕ) (a : ClientAt) (op : client_rules.CallOp) (r : Result ClientStep client_rules.CallErr)
    → AreFlat (called w c a op r).told
called_flat w c a op (Ok s) = flat_ended c (op_in a.state (client_input.Calls op)) s.outcome
called_flat w c a op (Err e) = (refl, refl, tt)

calls_flat : (w : World) (c : ℕ) (op : client_rules.CallOp) → AreFlat (calls_at w c op).told
unfolding calls_at
calls_flat w c op = client_at w _ (at_number w.clients c) (λ a. called_flat w c a op (calls a.state op))

leaves_flat : (w : World) (c : ℕ) → AreFlat (leaves w c).told
unfolding leaves
leaves_flat w c =
    client_at w _ (at_number w.clients c)
    (λ a. either_act (is_some a.state.call) _ _ (refl, refl, tt) (flat_ended c (op_in a.state client_input.Leaves) _))

resends_flat : (w : World) (c : ℕ) → AreFlat (resends w c).told
unfolding resends
resends_flat w c = client_at w _ (at_number w.clients c) (λ a. flat_ended c (op_in a.state client_input.Resends) _)

gives_flat : (w : World) (chosen : List ℕ) (i : Input) → AreFlat (gives w chosen i).told
unfolding gives
gives_flat w chosen i = flat_notes (step w.server chosen i).notes

made_flat : (w : World) (f : ℕ) (r : Result ServerStep Refusal) → AreFlat (made_file w f r).told
made_flat w f (Ok s) = flat_notes s.notes
made_flat w f (Err e) = (refl, refl, tt)

makes_flat : (w : World) (chosen : List ℕ) (f : ℕ) (m : RawMap) (tag : ℕ) (zoned : Bool)
    → AreFlat (makes w chosen f m tag zoned).told
unfolding makes
makes_flat w chosen f m tag zoned =
    either_act (has_algorithm m) (made_file w f (create_file w.server f m tag zoned chosen)) _
    (made_flat w f (create_file w.server f m tag zoned chosen)) (refl, refl, tt)

added_flat : (w : World) (d : ℕ) (key : List ℕ) (capacity : ℕ) (stored : Bool)
    → AreFlat (adds_drive w d key capacity stored).told
added_flat w d key capacity stored =
    either_act (knows_drive w.server d) (changed (and_drive w d (made_drive d key capacity stored))) _ tt
    (gives_flat (and_drive w d (made_drive d key capacity stored)) [] (Adds (known_drive d key capacity)))

pub begins_flat : (w : World) (chosen : List ℕ) (e : Event) → leads e ≡ false → AreFlat (begins w chosen e).told
unfolding begins
begins_flat w chosen (event.Drive d key capacity) p = added_flat w d key capacity false
begins_flat w chosen (event.Disk d key capacity) p = added_flat w d key capacity true
begins_flat w chosen (event.File f m tag) p = makes_flat w chosen f (raw_of m) tag false
begins_flat w chosen (event.ZonedFile f m tag) p = makes_flat w chosen f (raw_of m) tag true
begins_flat w chosen (event.Zone d zone) p = gives_flat w chosen _
begins_flat w chosen (event.Format format) p = gives_flat w chosen _
begins_flat w chosen (event.Do c x) p = calls_flat w c (op_of x)
begins_flat w chosen (event.Call c x) p = calls_flat w c (op_of x)
begins_flat w chosen (event.Deliver number) p = absurd (cc p)
begins_flat w chosen (event.Resend (sender.Client c)) p = resends_flat w c
begins_flat w chosen (event.Resend sender.Server) p = gives_flat w chosen _
begins_flat w chosen (event.Timeout c component) p = absurd (cc p)
begins_flat w chosen (event.Leave c) p = leaves_flat w c
begins_flat w chosen (event.Inject d bytes) p = absurd (cc p)
begins_flat w chosen (event.Clock (machine.Drive d) time) p = tt
begins_flat w chosen (event.Clock machine.Server time) p = tt
begins_flat w chosen (event.Recall f) p = gives_flat w chosen _
begins_flat w chosen (event.Revoke f) p = gives_flat w chosen _
begins_flat w chosen (event.Rebuild f) p = gives_flat w chosen _
begins_flat w chosen (event.Audit f) p = gives_flat w chosen _
begins_flat w chosen (event.Declare d) p = gives_flat w chosen _
begins_flat w chosen (event.Crash (machine.Drive d)) p = tt
begins_flat w chosen (event.Crash machine.Server) p = gives_flat (with_down w true) chosen _
begins_flat w chosen (event.Reopen (machine.Drive d)) p = tt
begins_flat w chosen (event.Reopen machine.Server) p = gives_flat (with_down w false) chosen _
begins_flat w chosen e p = tt
