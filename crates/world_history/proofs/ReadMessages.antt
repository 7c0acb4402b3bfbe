-- The messages that are read off a history are those of the world that stands for it.
use Rattle.std.specs.List.{cons_option, filter_map}
use Rattle.std.proofs.Common.{nat_lt, ◌&&◌, ◌≡◌, ℕ, zero, suc, ◌+◌, ◌++◌, ◌∷◌, [], List, Bool, true, false, Option, Some, None, is_some, Result, Ok, Err, length, map, fold, slice_get, slice_set, refl, sym, ap, ◌∙◌, append_assoc, if◌then◌else◌}
use Rattle.std.proofs.lemmas.List.{append-nil}
use Rattle.std.proofs.lemmas.List.Sums.{fold-append}
use Rattle.osd_lists.specs.declared.node.Node.{Node}
use Rattle.osd_lists.specs.declared.node.Node.TheVariants as node
use Rattle.server_rules.specs.Files.{Step as ServerStep}
use Rattle.server_rules.specs.Messages.{Message as ServerMessage}
use Rattle.server_rules.specs.History.{Hears as ServerHears, step as server_step}
use Rattle.server_rules.specs.History as server_input
use Rattle.client_rules.specs.History as client_input
use Rattle.client_rules.specs.Messages.{Message as ClientMessage, Step as ClientStep}
use Rattle.client_rules.specs.History.{step as client_step}
use Rattle.client_rules.specs.Steps.{calls, awaits}
use Rattle.server_rules.specs.Making.{create_file}
use Rattle.scenario_text.specs.declared.event.Event.{Event}
use Rattle.scenario_text.specs.declared.event.Event.TheVariants as event
use Rattle.scenario_text.specs.declared.event.Sender.TheVariants as sender
use Rattle.scenario_text.specs.declared.event.Machine.TheVariants as machine
use Rattle.scenario_text.specs.declared.line.Line.{Line}
use Rattle.scenario_text.specs.declared.line.Line.TheVariants as line
use Rattle.world_history.specs.ServerNames as server_rules
use Rattle.world_history.specs.ClientNames as client_rules
use Rattle.world_history.specs.State.{Message, Posted, DriveAt, ClientAt, Network, World, at_number, and_drive, Sent, with_down}
use Rattle.world_history.specs.Handed.{Post, Handed, end_line, ended_by, server_hears, server_takes, drive_hears, client_hears, client_takes, for_client, for_server, handed_to, handed, client_goes, op_in, pending_op}
use Rattle.world_history.specs.Moves.{Act, Action, Opens, Delivers, TimesOut, Pends, by_client, by_drive, at_drive, called, pends_as, made_file, injects_at, delivers_found, delivers, drops_found, marked, op_of, raw_of, calls_at, times_out, leaves, resends, pends, makes, gives, injects, stops, begins, acts, known_drive, has_algorithm, knows_drive, adds_drive}
use Rattle.world_history.specs.Sending.{move, fresh, sent_lines, sends_all}
use Rattle.world_history.specs.Plans.{Rule, Alone, Prompt, when_quiet, quiet_at, due_pending, next_pending, due_by}
use Rattle.scenario_text.specs.declared.line.Outcome.{Outcome}
use Rattle.scenario_text.specs.declared.names.TheConstants.{FILES}
use Rattle.world_history.specs.Told.{kind_of}
use Rattle.world_history.specs.Names.{where_known, note_line, is_tellable_note, known_note_line, known_outcome}
use Rattle.world_history.specs.Drives.{made_drive, raised, at_time, fallen, crashed, reopened, is_deaf}
use Rattle.world_history.specs.Reading.{arrived, left_out, changed_by, changed_at, sent_after, sent_in}
use Rattle.world_history.specs.Laws.{shown, MessagesAreRead}
use Rattle.world_history.proofs.Always.{opening, IsKept, always}

-- ---- lists

map_more : (xs : List Posted) (ys : List Posted) → map shown (xs ++ ys) ≡ map shown xs ++ map shown ys
map_more [] ys = refl
map_more (x ∷ xs) ys = ap (λ (l : List Sent). shown x ∷ l) (map_more xs ys)

pub shown_set : (ps : List Posted) (n : ℕ) (p : Posted)
    → map shown (slice_set ps n p) ≡ slice_set (map shown ps) n (shown p)
shown_set [] n p = refl
shown_set (x ∷ ps) zero p = refl
shown_set (x ∷ ps) (suc n) p = ap (λ (l : List Sent). shown x ∷ l) (shown_set ps n p)

pub shown_get : (ps : List Posted) (n : ℕ) (p : Posted) → slice_get ps n ≡ Some p
    → slice_get (map shown ps) n ≡ Some (shown p)
shown_get [] n p e = absurd (cc e)
shown_get (x ∷ ps) zero p e = let same : x ≡ p = cc in ap (λ (y : Posted). Some (shown y)) same
shown_get (x ∷ ps) (suc n) p e = shown_get ps n p e

shown_none : (ps : List Posted) (n : ℕ) → slice_get ps n ≡ None → slice_get (map shown ps) n ≡ None
shown_none [] n e = refl
shown_none (x ∷ ps) zero e = absurd (cc e)
shown_none (x ∷ ps) (suc n) e = shown_none ps n e

-- ---- lines of messages that are sent

sent_more : (ss : List Sent) (n : ℕ) (ps : List Post)
    → fold sent_after ss (sent_lines n ps) ≡ ss ++ map shown (map fresh ps)
unfolding sent_lines
sent_more ss n [] = sym (append-nil ss)
sent_more ss n (p ∷ ps) = sent_more (ss ++ shown (fresh p) ∷ []) (n + 1) ps
    ∙ append_assoc ss (shown (fresh p) ∷ []) (map shown (map fresh ps))

-- ---- lines that tell nothing of messages

abbrev Quiet : List Line → Type 0
Quiet ls = (ss : List Sent) → fold sent_after ss ls ≡ ss

-- a note in front of quiet lines, where a line can tell it
quiet_note : (known : Bool) (n : server_rules.Note) (ls : List Line) → Quiet ls
    → Quiet (cons_option (where_known known (note_line n)) ls)
quiet_note true n ls q ss = q ss
quiet_note false n ls q ss = q ss

quiet_notes : (ns : List server_rules.Note) → Quiet (filter_map known_note_line ns)
quiet_notes [] ss = refl
quiet_notes (n ∷ ns) ss =
    quiet_note (nat_lt n.file FILES && is_tellable_note n.kind) n (filter_map known_note_line ns) (quiet_notes ns) ss

quiet_end : (c : ℕ) (o : Option Outcome) → Quiet (end_line c o)
quiet_end c None ss = refl
quiet_end c (Some o) ss = refl

quiet_ended : (c : ℕ) (op : Option client_rules.CallOp) (o : Option client_rules.Outcome) → Quiet (ended_by c op o)
quiet_ended c None o ss = refl
quiet_ended c (Some op) None ss = refl
quiet_ended c (Some op) (Some o) ss = quiet_end c (known_outcome (kind_of op) o) ss

-- ---- what a party does

record IsQuietHand (w : World) (h : Handed) : Type 0 where
  network : h.world.network ≡ w.network
  told : Quiet h.told

either_hand : (w : World) (b : Bool) (x y : Handed) → IsQuietHand w x → IsQuietHand w y
    → IsQuietHand w (if b then x else y)
either_hand w true x y p q = p
either_hand w false x y p q = q

drive_hand : (w : World) (d : ℕ) (m : Message) (a : Option DriveAt) → IsQuietHand w (drive_hears w d m a)
drive_hand w d m None = record { network = refl; told = λ ss. refl }
drive_hand w d m (Some a) = either_hand w (is_deaf a) _ _ (record {
  network = refl;
  told =
      λ ss. refl;
}) (record { network = refl; told = λ ss. refl })

server_hand : (w : World) (chosen : List ℕ) (from : Node) (m : Option ServerMessage)
    → IsQuietHand w (server_takes w chosen from m)
server_hand w chosen from None = record { network = refl; told = λ ss. refl }
server_hand w chosen from (Some m) = record {
  network = refl;
  told =
      quiet_notes (server_step w.server chosen (ServerHears w.clock from m)).notes;
}

server_heard : (w : World) (chosen : List ℕ) (m : Message) → IsQuietHand w (server_hears w chosen m)
server_heard w chosen m =
    either_hand w w.down _ _ (record { network = refl; told = λ ss. refl }) (server_hand w chosen m.from (for_server m))

client_hand : (w : World) (c : ℕ) (a : ClientAt) (from : Node) (m : Option ClientMessage)
    → IsQuietHand w (client_takes w c a from m)
client_hand w c a from None = record { network = refl; told = λ ss. refl }
client_hand w c a from (Some m) =
    record { network = refl; told = quiet_ended c (pending_op a.state) (client_step a.state (client_input.Hears from m)).outcome }

client_heard : (w : World) (c : ℕ) (m : Message) (a : Option ClientAt) → IsQuietHand w (client_hears w c m a)
client_heard w c m None = record { network = refl; told = λ ss. refl }
client_heard w c m (Some a) = either_hand w a.stopped _ _ (record {
  network = refl;
  told =
      λ ss. refl;
}) (client_hand w c a m.from (for_client m))

hand_to : (w : World) (chosen : List ℕ) (m : Message) (to : Node) → IsQuietHand w (handed_to w chosen m to)
hand_to w chosen m node.Server = server_heard w chosen m
hand_to w chosen m (node.Drive d) = drive_hand w d m (at_number w.drives d)
hand_to w chosen m (node.Client c) = client_heard w c m (at_number w.clients c)

-- ---- an action

abbrev pub view : World → List Sent
view w = map shown w.network.messages

-- what is told of messages leads from one world to the other
abbrev Reads : World → Act → Type 0
Reads w a = fold sent_after (view w) a.told ≡ view a.world

marked_view : (w : World) (n : ℕ) (p : Posted) → slice_get w.network.messages n ≡ Some p
    → changed_at (view w) n arrived ≡ view (marked w n p)
marked_view w n p e =
    ap (λ (o : Option Sent). changed_by (view w) n arrived o) (shown_get w.network.messages n p e)
    ∙ sym (shown_set w.network.messages n (record p { delivered = true }))

pub drops_view : (w : World) (n : ℕ) (p : Option Posted) → slice_get w.network.messages n ≡ p
    → changed_at (view w) n left_out ≡ view (drops_found w n p)
drops_view w n None e = ap (λ (o : Option Sent). changed_by (view w) n left_out o) (shown_none w.network.messages n e)
drops_view w n (Some p) e =
    ap (λ (o : Option Sent). changed_by (view w) n left_out o) (shown_get w.network.messages n p e)
    ∙ sym (shown_set w.network.messages n (record p { dropped = true }))

found_reads : (w : World) (chosen : List ℕ) (n : ℕ) (p : Option Posted) → slice_get w.network.messages n ≡ p
    → Reads w (delivers_found w chosen n p)
found_reads w chosen n None e = refl
found_reads w chosen n (Some p) e =
    let q : IsQuietHand (marked w n p) (handed (marked w n p) chosen p.message) =
    hand_to (marked w n p) chosen p.message p.message.to in
    q.told (changed_at (view w) n arrived) ∙ marked_view w n p e
    ∙ sym (ap (λ (t : Network). map shown t.messages) q.network)

delivers_reads : (w : World) (chosen : List ℕ) (n : ℕ) → Reads w (delivers w chosen n)
unfolding delivers
delivers_reads w chosen n = found_reads w chosen n (slice_get w.network.messages n) refl

client_reads : (w : World) (does : ClientAt → Act) (a : Option ClientAt) → ((x : ClientAt) → Reads w (does x))
    → Reads w (by_client w does a)
client_reads w does None h = refl
client_reads w does (Some a) h = h a

either_reads : (w : World) (b : Bool) (x y : Act) → Reads w x → Reads w y → Reads w (if b then x else y)
either_reads w true x y p q = p
either_reads w false x y p q = q

goes_read : (w : World) (c : ℕ) (a : ClientAt) (i : client_input.Input)
    → fold sent_after (view w) (client_goes w c a i).told ≡ view w
goes_read w c a i = quiet_ended c (op_in a.state i) (client_step a.state i).outcome (view w)

called_reads : (w : World) (c : ℕ) (a : ClientAt) (op : client_rules.CallOp)
    (r : Result ClientStep client_rules.CallErr) → Reads w (called w c a op r)
called_reads w c a op (Ok s) = quiet_ended c (Some op) s.outcome (view w)
called_reads w c a op (Err e) = refl

made_reads : (w : World) (f : ℕ) (r : Result ServerStep server_rules.Refusal) → Reads w (made_file w f r)
made_reads w f (Ok s) = quiet_notes s.notes (view w)
made_reads w f (Err e) = refl

injects_reads : (w : World) (d : ℕ) (bytes : List ℕ) (a : Option DriveAt) → Reads w (injects_at w d bytes a)
injects_reads w d bytes None = refl
injects_reads w d bytes (Some a) = refl

pends_reads : (w : World) (c : ℕ) (op : Option client_rules.CallOp) → Reads w (pends_as w c op)
pends_reads w c None = refl
pends_reads w c (Some op) = refl

pub drive_view : (w : World) (d : ℕ) (becomes : DriveAt → DriveAt) (a : Option DriveAt)
    → (by_drive w d becomes a).network ≡ w.network
drive_view w d becomes None = refl
drive_view w d becomes (Some a) = refl

pub stops_view : (w : World) (c : ℕ) (a : Option ClientAt) → (stops w c a).network ≡ w.network
stops_view w c None = refl
stops_view w c (Some a) = refl

-- ---- what an event begins with

calls_read : (w : World) (c : ℕ) (op : client_rules.CallOp) → Reads w (calls_at w c op)
unfolding calls_at
calls_read w c op = client_reads w _ (at_number w.clients c) (λ a. called_reads w c a op (calls a.state op))

timeout_reads : (w : World) (c k : ℕ) → Reads w (times_out w c k)
unfolding times_out
timeout_reads w c k = client_reads w _ (at_number w.clients c) (λ a. goes_read w c a (client_input.TimesOut k))

leaves_read : (w : World) (c : ℕ) → Reads w (leaves w c)
unfolding leaves
leaves_read w c =
    client_reads w _ (at_number w.clients c) (λ a. either_reads w (is_some a.state.call) _ _ refl
    (goes_read w c a client_input.Leaves))

resends_read : (w : World) (c : ℕ) → Reads w (resends w c)
unfolding resends
resends_read w c = client_reads w _ (at_number w.clients c) (λ a. goes_read w c a client_input.Resends)

pending_reads : (w : World) (c : ℕ) → Reads w (pends w c)
unfolding pends
pending_reads w c = client_reads w _ (at_number w.clients c) (λ a. pends_reads w c (pending_op a.state))

gives_read : (w : World) (chosen : List ℕ) (i : server_input.Input) → Reads w (gives w chosen i)
unfolding gives
gives_read w chosen i = quiet_notes (server_step w.server chosen i).notes (view w)

makes_read : (w : World) (chosen : List ℕ) (f : ℕ) (m : server_rules.RawMap) (tag : ℕ) (zoned : Bool)
    → Reads w (makes w chosen f m tag zoned)
unfolding makes
makes_read w chosen f m tag zoned =
    either_reads w (has_algorithm m) _ _ (made_reads w f (create_file w.server f m tag zoned chosen)) refl

adds_read : (w : World) (d : ℕ) (key : List ℕ) (capacity : ℕ) (stored : Bool)
    → Reads w (adds_drive w d key capacity stored)
adds_read w d key capacity stored =
    either_reads w (knows_drive w.server d) _ _ refl
    (gives_read (and_drive w d (made_drive d key capacity stored)) [] (server_input.Adds (known_drive d key capacity)))

inject_reads : (w : World) (d : ℕ) (bytes : List ℕ) → Reads w (injects w d bytes)
unfolding injects
inject_reads w d bytes = injects_reads w d bytes (at_number w.drives d)

-- nothing is told, and the network is the same
same_network : (w v : World) → v.network ≡ w.network → view w ≡ view v
same_network w v e = sym (ap (λ (t : Network). map shown t.messages) e)

begins_reads : (w : World) (chosen : List ℕ) (e : Event)
    → fold sent_after (sent_after (view w) (line.Event e)) (begins w chosen e).told ≡ view (begins w chosen e).world
unfolding begins
begins_reads w chosen (event.Drive d key capacity) = adds_read w d key capacity false
begins_reads w chosen (event.Disk d key capacity) = adds_read w d key capacity true
begins_reads w chosen (event.Client c) = refl
begins_reads w chosen (event.File f m tag) = makes_read w chosen f (raw_of m) tag false
begins_reads w chosen (event.ZonedFile f m tag) = makes_read w chosen f (raw_of m) tag true
begins_reads w chosen (event.Zone d zone) = gives_read w chosen (server_input.Zones d zone)
begins_reads w chosen (event.Least d format) =
    same_network w (at_drive w d (λ a. raised a format)) (drive_view w d (λ a. raised a format)
    (at_number w.drives d))
begins_reads w chosen (event.Format format) = gives_read w chosen (server_input.Formats format)
begins_reads w chosen (event.Do c x) = calls_read w c (op_of x)
begins_reads w chosen (event.Call c x) = calls_read w c (op_of x)
begins_reads w chosen (event.Deliver number) = delivers_reads w chosen number
begins_reads w chosen (event.DropMessage number) = drops_view w number (slice_get w.network.messages number) refl
begins_reads w chosen event.Settle = refl
begins_reads w chosen (event.Resend (sender.Client c)) = resends_read w c
begins_reads w chosen (event.Resend sender.Server) = gives_read w chosen server_input.Resends
begins_reads w chosen (event.Timeout c component) = timeout_reads w c component
begins_reads w chosen (event.Leave c) = leaves_read w c
begins_reads w chosen (event.Inject d bytes) = inject_reads w d bytes
begins_reads w chosen (event.Clock (machine.Drive d) time) =
    same_network w (at_drive w d (λ a. at_time a time)) (drive_view w d (λ a. at_time a time) (at_number w.drives d))
begins_reads w chosen (event.Clock machine.Server time) = refl
begins_reads w chosen (event.Recall f) = gives_read w chosen (server_input.Obeys server_rules.ToRecall f)
begins_reads w chosen (event.Revoke f) = gives_read w chosen (server_input.Obeys server_rules.ToRevoke f)
begins_reads w chosen (event.Rebuild f) = gives_read w chosen (server_input.Obeys server_rules.ToRebuild f)
begins_reads w chosen (event.Audit f) = gives_read w chosen (server_input.Obeys server_rules.ToAudit f)
begins_reads w chosen (event.Declare d) = gives_read w chosen (server_input.Obeys server_rules.ToDeclare d)
begins_reads w chosen (event.Stop c) =
    same_network w (stops w c (at_number w.clients c)) (stops_view w c (at_number w.clients c))
begins_reads w chosen (event.Fail d) =
    same_network w (at_drive w d fallen) (drive_view w d fallen (at_number w.drives d))
begins_reads w chosen (event.Crash (machine.Drive d)) =
    same_network w (at_drive w d crashed) (drive_view w d crashed (at_number w.drives d))
begins_reads w chosen (event.Crash machine.Server) = gives_read (with_down w true) chosen server_input.Crashes
begins_reads w chosen (event.Reopen (machine.Drive d)) =
    same_network w (at_drive w d reopened) (drive_view w d reopened (at_number w.drives d))
begins_reads w chosen (event.Reopen machine.Server) = gives_read (with_down w false) chosen server_input.Opens

-- ---- moves

-- no event begins behind another's first move
pub left_pending : (c : ℕ) (e : Event) (b : Bool) → (if b then Some (Pends c) else None) ≡ Some (Opens e) → ⊥
left_pending c e true s = cc s
left_pending c e false s = cc s

pub quiet_opens : (c : ℕ) (a : client_rules.Client) (e : Event) (x : client_rules.Awaits)
    → when_quiet c a x ≡ Some (Opens e) → ⊥
quiet_opens c a e (client_rules.ADrive k) s = cc s
quiet_opens c a e client_rules.TheServer s = left_pending c e (is_some a.call) s
quiet_opens c a e client_rules.Nothing s = left_pending c e (is_some a.call) s

pub quiet_at_opens : (c : ℕ) (e : Event) (a : Option ClientAt) → quiet_at c a ≡ Some (Opens e) → ⊥
quiet_at_opens c e None s = cc s
quiet_at_opens c e (Some a) s = quiet_opens c a.state e (awaits a.state) s

pub pending_opens : (w : World) (c : Option ℕ) (e : Event) (n : Option ℕ) → due_pending w c n ≡ Some (Opens e) → ⊥
pending_opens w c e (Some n) s = cc s
pending_opens w None e None s = cc s
pending_opens w (Some c) e None s = quiet_at_opens c e (at_number w.clients c) s

pub never_opens : (w : World) (r : Rule) (e : Event) → due_by w r ≡ Some (Opens e) → ⊥
never_opens w Alone e s = cc s
never_opens w (Prompt first c) e s = pending_opens w c e (next_pending w first) s

acts_read : (w : World) (chosen : List ℕ) (r : Rule) (action : Action) → due_by w r ≡ Some action
    → Reads w (acts w chosen action)
acts_read w chosen r (Delivers number) e = delivers_reads w chosen number
acts_read w chosen r (TimesOut c k) e = timeout_reads w c k
acts_read w chosen r (Pends c) e = pending_reads w c
acts_read w chosen r (Opens event) e = absurd (never_opens w r event e)

-- what is told and then what is sent
all_read : (ss : List Sent) (a : Act) → fold sent_after ss a.told ≡ view a.world
    → fold sent_after ss (sends_all a).lines ≡ view (sends_all a).world
all_read ss a e =
    fold-append sent_after ss a.told (sent_lines (length a.world.network.messages) a.posts)
    ∙ ap (λ (x : List Sent). fold sent_after x (sent_lines (length a.world.network.messages) a.posts)) e
    ∙ sent_more (view a.world) (length a.world.network.messages) a.posts
    ∙ sym (map_more a.world.network.messages (map fresh a.posts))

kept : IsKept (λ w h. sent_in h ≡ view w)
unfolding sent_in
kept = record {
  starts = refl;
  opens = λ w h e chosen x a. fold-append sent_after [] h (line.Event e ∷ (move w (opening e chosen)).lines)
      ∙ ap (λ (ss : List Sent). fold sent_after (sent_after ss (line.Event e)) (move w (opening e chosen)).lines) x
      ∙ all_read (sent_after (view w) (line.Event e)) (begins w chosen e) (begins_reads w chosen e);
  moves = λ w h r m x d. fold-append sent_after [] h (move w m).lines
      ∙ ap (λ (ss : List Sent). fold sent_after ss (move w m).lines) x
      ∙ all_read (view w) (acts w m.chosen m.action) (acts_read w m.chosen r m.action d);
}

pub messages_are_read : MessagesAreRead
messages_are_read w h s = always (λ v g. sent_in g ≡ view v) kept w h s
