-- Only where a call is left pending a line tells so.
use Rattle.std.proofs.Common.{ℕ, ◌+◌, ◌&&◌, Bool, true, false, nat_lt, List, [], ◌∷◌, ◌++◌, length, Option, Some, None, Result, Ok, Err, is_some, slice_get, sym, subst, inl, inr, if◌then◌else◌}
use Rattle.std.specs.List.{cons_option, filter_map}
use Rattle.osd_lists.specs.declared.node.Node.{Node}
use Rattle.osd_lists.specs.declared.node.Node.TheVariants as node
use Rattle.server_rules.specs.Laws.{In}
use Rattle.server_rules.specs.Files.{Step as ServerStep}
use Rattle.server_rules.specs.Messages.{Message as ServerMessage}
use Rattle.server_rules.specs.History as server
use Rattle.server_rules.specs.Making.{create_file}
use Rattle.client_rules.specs.Messages.{Message as ClientMessage, Step as ClientStep}
use Rattle.client_rules.specs.Steps.{calls}
use Rattle.client_rules.specs.History as client
use Rattle.scenario_text.specs.declared.names.TheConstants.{FILES}
use Rattle.scenario_text.specs.declared.event.Event.{Event}
use Rattle.scenario_text.specs.declared.event.Event.TheVariants as event
use Rattle.scenario_text.specs.declared.event.Sender.TheVariants as sender
use Rattle.scenario_text.specs.declared.event.Machine.TheVariants as machine
use Rattle.scenario_text.specs.declared.line.CallKind.{CallKind}
use Rattle.scenario_text.specs.declared.line.Ending.TheVariants as ending
use Rattle.scenario_text.specs.declared.line.Outcome.TheVariants as outcome
use Rattle.scenario_text.specs.declared.line.Line.{Line}
use Rattle.scenario_text.specs.declared.line.Line.TheVariants as line
use Rattle.world_history.specs.ServerNames as server_rules
use Rattle.world_history.specs.ClientNames.{CallOp, CallErr, Outcome, WriteOk, ReadOk, NoFile, HeldBy, Fencing, Degraded, Spent, Status, Refused, Silent, Lost, BadLayout}
use Rattle.world_history.specs.declared.messages.Message.{Message}
use Rattle.world_history.specs.declared.messages.Posted.{Posted}
use Rattle.world_history.specs.State.{World, DriveAt, ClientAt, at_number, and_drive}
use Rattle.world_history.specs.Told.{kind_of, told_outcome}
use Rattle.world_history.specs.Names.{where_known, note_line, is_tellable, is_tellable_note, known_note_line}
use Rattle.world_history.specs.Drives.{is_deaf, made_drive}
use Rattle.world_history.specs.Handed.{Post, Handed, end_line, ended_by, op_in, drive_hears, server_takes, client_takes, client_hears, for_server, for_client, handed_to}
use Rattle.world_history.specs.Moves.{Act, Action, Opens, Delivers, TimesOut, Pends, marked, delivers_found, delivers, by_client, called, calls_at, times_out, leaves, resends, op_of, raw_of, has_algorithm, made_file, makes, gives, injects_at, injects, known_drive, knows_drive, adds_drive, begins, acts}
use Rattle.world_history.specs.Sending.{Move, move, sent_lines}
use Rattle.history_law.specs.Moments.{with_event, lines_in}
use Rattle.cause_law.specs.Pending.{pending_line}

-- ---- lines

-- a line tells nothing of the kind
abbrev pub IsNone : Line → Type 0
IsNone (line.Ended c (outcome.Failed kind ending.Pending)) = ⊥
IsNone l = Unit {0}

abbrev pub TellNone : List Line → Type 0
TellNone [] = Unit {0}
TellNone (l ∷ ls) = IsNone l × TellNone ls

pub none_in : (ls : List Line) → TellNone ls → (c : ℕ) (kind : CallKind) → In (pending_line c kind) ls → ⊥
none_in [] n c kind i = i
none_in (l ∷ ls) n c kind (inl e) = subst IsNone (sym e) n.0
none_in (l ∷ ls) n c kind (inr i) = none_in ls n.1 c kind i

none_sent : (n : ℕ) (ps : List Post) → TellNone (sent_lines n ps)
unfolding sent_lines
none_sent n [] = tt
none_sent n (p ∷ ps) = (tt, none_sent (n + 1) ps)

none_both : (xs ys : List Line) → TellNone xs → TellNone ys → TellNone (xs ++ ys)
none_both [] ys p q = q
none_both (x ∷ xs) ys p q = (p.0, none_both xs ys p.1 q)

note_none : (known : Bool) (n : server_rules.Note) (ls : List Line) → TellNone ls
    → TellNone (cons_option (where_known known (note_line n)) ls)
note_none true n ls q = (tt, q)
note_none false n ls q = q

notes_none : (ns : List server_rules.Note) → TellNone (filter_map known_note_line ns)
notes_none [] = tt
notes_none (n ∷ ns) = note_none (nat_lt n.file FILES && is_tellable_note n.kind) n (filter_map known_note_line ns) (notes_none ns)

-- how a call ends tells no pending one
own_none : (c : ℕ) (kind : CallKind) (o : Outcome) → IsNone (line.Ended c (told_outcome kind o))
own_none c kind (WriteOk n) = tt
own_none c kind (ReadOk bytes) = tt
own_none c kind NoFile = tt
own_none c kind (HeldBy k) = tt
own_none c kind (Fencing n) = tt
own_none c kind (Degraded n) = tt
own_none c kind Spent = tt
own_none c kind (Status s d) = tt
own_none c kind (Refused d v n) = tt
own_none c kind (Silent n) = tt
own_none c kind (Lost ps) = tt
own_none c kind (BadLayout why) = tt

ended_none : (c : ℕ) (op : Option CallOp) (o : Option Outcome) → TellNone (ended_by c op o)
ended_none c None o = tt
ended_none c (Some op) None = tt
ended_none c (Some op) (Some o) = by (is_tellable o)
  where
    by : (b : Bool) → TellNone (end_line c (where_known b (told_outcome (kind_of op) o)))
    by true = (own_none c (kind_of op) o, tt)
    by false = tt

-- ---- acts

either_hand : (b : Bool) (x y : Handed) → TellNone x.told → TellNone y.told → TellNone (if b then x else y).told
either_hand true x y p q = p
either_hand false x y p q = q

either_act : (b : Bool) (x y : Act) → TellNone x.told → TellNone y.told → TellNone (if b then x else y).told
either_act true x y p q = p
either_act false x y p q = q

drive_none : (w : World) (d : ℕ) (m : Message) (a : Option DriveAt) → TellNone (drive_hears w d m a).told
drive_none w d m None = tt
drive_none w d m (Some a) = either_hand (is_deaf a) _ _ tt tt

takes_none : (w : World) (chosen : List ℕ) (from : Node) (m : Option ServerMessage) → TellNone (server_takes w chosen from m).told
takes_none w chosen from None = tt
takes_none w chosen from (Some m) = notes_none (server.step w.server chosen (server.Hears w.clock from m)).notes

heard_none : (w : World) (c : ℕ) (a : ClientAt) (from : Node) (m : Option ClientMessage)
    → TellNone (client_takes w c a from m).told
heard_none w c a from None = tt
heard_none w c a from (Some m) = ended_none c (op_in a.state (client.Hears from m)) _

client_none : (w : World) (c : ℕ) (m : Message) (a : Option ClientAt) → TellNone (client_hears w c m a).told
client_none w c m None = tt
client_none w c m (Some a) = either_hand a.stopped _ _ tt (heard_none w c a m.from (for_client m))

hand_none : (w : World) (chosen : List ℕ) (m : Message) (to : Node) → TellNone (handed_to w chosen m to).told
hand_none w chosen m node.Server = either_hand w.down _ _ tt (takes_none w chosen m.from (for_server m))
hand_none w chosen m (node.Drive d) = drive_none w d m (at_number w.drives d)
hand_none w chosen m (node.Client c) = client_none w c m (at_number w.clients c)

found_none : (w : World) (chosen : List ℕ) (n : ℕ) (p : Option Posted) → TellNone (delivers_found w chosen n p).told
found_none w chosen n None = tt
found_none w chosen n (Some p) = (tt, hand_none (marked w n p) chosen p.message p.message.to)

delivers_none : (w : World) (chosen : List ℕ) (n : ℕ) → TellNone (delivers w chosen n).told
unfolding delivers
delivers_none w chosen n = found_none w chosen n (slice_get w.network.messages n)

client_by : (w : World) (does : ClientAt → Act) (a : Option ClientAt) → ((x : ClientAt) → TellNone (does x).told)
    → TellNone (by_client w does a).told
client_by w does None h = tt
client_by w does (Some a) h = h a

times_none : (w : World) (c k : ℕ) → TellNone (times_out w c k).told
unfolding times_out
times_none w c k =
    client_by w _ (at_number w.clients c) (λ a. (tt, ended_none c (op_in a.state (client.TimesOut k)) _))

called_none : (w : World) (c : ℕ) (a : ClientAt) (op : CallOp) (r : Result ClientStep CallErr) → TellNone (called w c a op r).told
called_none w c a op (Err e) = (tt, tt)
called_none w c a op (Ok s) = ended_none c (op_in a.state (client.Calls op)) s.outcome

calls_none : (w : World) (c : ℕ) (op : CallOp) → TellNone (calls_at w c op).told
unfolding calls_at
calls_none w c op = client_by w _ (at_number w.clients c) (λ a. called_none w c a op (calls a.state op))

gives_none : (w : World) (chosen : List ℕ) (i : server.Input) → TellNone (gives w chosen i).told
unfolding gives
gives_none w chosen i = notes_none (server.step w.server chosen i).notes

made_none : (w : World) (f : ℕ) (t : Result ServerStep server_rules.Refusal) → TellNone (made_file w f t).told
made_none w f (Ok s) = notes_none s.notes
made_none w f (Err e) = (tt, tt)

makes_none : (w : World) (chosen : List ℕ) (f : ℕ) (m : server_rules.RawMap) (tag : ℕ) (zoned : Bool)
    → TellNone (makes w chosen f m tag zoned).told
unfolding makes
makes_none w chosen f m tag zoned =
    either_act (has_algorithm m) _ _ (made_none w f (create_file w.server f m tag zoned chosen)) (tt, tt)

adds_none : (w : World) (d : ℕ) (key : List ℕ) (capacity : ℕ) (stored : Bool) → TellNone (adds_drive w d key capacity stored).told
adds_none w d key capacity stored =
    either_act (knows_drive w.server d) _ _ tt
    (gives_none (and_drive w d (made_drive d key capacity stored)) [] (server.Adds (known_drive d key capacity)))

inject_none : (w : World) (d : ℕ) (bytes : List ℕ) (a : Option DriveAt) → TellNone (injects_at w d bytes a).told
inject_none w d bytes None = tt
inject_none w d bytes (Some a) = (tt, tt)

begins_none : (w : World) (chosen : List ℕ) (e : Event) → TellNone (begins w chosen e).told
unfolding begins leaves resends injects
begins_none w chosen (event.Drive d key capacity) = adds_none w d key capacity false
begins_none w chosen (event.Disk d key capacity) = adds_none w d key capacity true
begins_none w chosen (event.Client c) = tt
begins_none w chosen (event.File f m tag) = makes_none w chosen f (raw_of m) tag false
begins_none w chosen (event.ZonedFile f m tag) = makes_none w chosen f (raw_of m) tag true
begins_none w chosen (event.Zone d zone) = gives_none w chosen (server.Zones d zone)
begins_none w chosen (event.Least d format) = tt
begins_none w chosen (event.Format format) = gives_none w chosen (server.Formats format)
begins_none w chosen (event.Do c x) = calls_none w c (op_of x)
begins_none w chosen (event.Call c x) = calls_none w c (op_of x)
begins_none w chosen (event.Deliver number) = delivers_none w chosen number
begins_none w chosen (event.DropMessage number) = tt
begins_none w chosen event.Settle = tt
begins_none w chosen (event.Resend (sender.Client c)) =
    client_by w _ (at_number w.clients c) (λ a. ended_none c (op_in a.state client.Resends) _)
begins_none w chosen (event.Resend sender.Server) = gives_none w chosen server.Resends
begins_none w chosen (event.Timeout c component) = times_none w c component
begins_none w chosen (event.Leave c) =
    client_by w _ (at_number w.clients c) (λ a.
    either_act (is_some a.state.call) _ _ (tt, tt) (ended_none c (op_in a.state client.Leaves) _))
begins_none w chosen (event.Inject d bytes) = inject_none w d bytes (at_number w.drives d)
begins_none w chosen (event.Clock (machine.Drive d) time) = tt
begins_none w chosen (event.Clock machine.Server time) = tt
begins_none w chosen (event.Recall f) = gives_none w chosen (server.Obeys server_rules.ToRecall f)
begins_none w chosen (event.Revoke f) = gives_none w chosen (server.Obeys server_rules.ToRevoke f)
begins_none w chosen (event.Rebuild f) = gives_none w chosen (server.Obeys server_rules.ToRebuild f)
begins_none w chosen (event.Audit f) = gives_none w chosen (server.Obeys server_rules.ToAudit f)
begins_none w chosen (event.Declare d) = gives_none w chosen (server.Obeys server_rules.ToDeclare d)
begins_none w chosen (event.Stop c) = tt
begins_none w chosen (event.Fail d) = tt
begins_none w chosen (event.Crash (machine.Drive d)) = tt
begins_none w chosen (event.Crash machine.Server) = gives_none _ chosen server.Crashes
begins_none w chosen (event.Reopen (machine.Drive d)) = tt
begins_none w chosen (event.Reopen machine.Server) = gives_none _ chosen server.Opens

-- ---- moves

-- another action than to leave a call pending
abbrev pub IsOther : Action → Type 0
IsOther (Pends c) = ⊥
IsOther action = Unit {0}

act_none : (w : World) (chosen : List ℕ) (action : Action) → IsOther action → TellNone (acts w chosen action).told
act_none w chosen (Opens e) o = begins_none w chosen e
act_none w chosen (Delivers n) o = delivers_none w chosen n
act_none w chosen (TimesOut c k) o = times_none w c k
act_none w chosen (Pends c) o = absurd o

in_event : (action : Action) (ls : List Line) → TellNone ls → TellNone (with_event action ls)
in_event (Opens e) ls n = (tt, n)
in_event (Delivers number) ls n = n
in_event (TimesOut c k) ls n = n
in_event (Pends c) ls n = n

pub others_none : (w : World) (m : Move) → IsOther m.action → TellNone (lines_in w m)
others_none w m o =
    let a : Act = acts w m.chosen m.action in
    in_event m.action (move w m).lines
    (none_both a.told (sent_lines (length a.world.network.messages) a.posts) (act_none w m.chosen m.action o)
    (none_sent (length a.world.network.messages) a.posts))
