-- The lines of an event tell of the messages that the world has behind each move, each with the next number.
use Rattle.std.proofs.Common.{◌≡◌, ℕ, zero, suc, ◌+◌, ◌++◌, ◌∷◌, ◌&&◌, [], List, Bool, true, false, Option, Some, None, is_some, Result, Ok, Err, length, map, fold, slice_get, slice_set, nat_lt, refl, sym, ap, ◌∙◌, append_assoc, arith, if◌then◌else◌}
use Rattle.std.specs.Prelude.{nat_eq}
use Rattle.std.specs.List.{cons_option, filter_map}
use Rattle.std.proofs.lemmas.Bool.Decides.{nat_tests}
use Rattle.std.proofs.lemmas.List.{append-nil, length-append}
use Rattle.std.proofs.lemmas.List.Sums.{fold-append}
use Rattle.osd_lists.specs.declared.node.Node.{Node}
use Rattle.osd_lists.specs.declared.node.Node.TheVariants as node
use Rattle.server_rules.specs.Files.{Step as ServerStep}
use Rattle.server_rules.specs.Messages.{Message as ServerMessage}
use Rattle.server_rules.specs.History.{Hears as ServerHears, step as server_step}
use Rattle.server_rules.specs.History as server_input
use Rattle.server_rules.specs.Making.{create_file}
use Rattle.client_rules.specs.History as client_input
use Rattle.client_rules.specs.Messages.{Message as ClientMessage, Step as ClientStep}
use Rattle.client_rules.specs.History.{step as client_step}
use Rattle.client_rules.specs.Steps.{calls}
use Rattle.scenario_text.specs.declared.names.TheConstants.{FILES}
use Rattle.scenario_text.specs.declared.event.Event.{Event}
use Rattle.scenario_text.specs.declared.event.Event.TheVariants as event
use Rattle.scenario_text.specs.declared.event.Sender.TheVariants as sender
use Rattle.scenario_text.specs.declared.event.Machine.TheVariants as machine
use Rattle.scenario_text.specs.declared.line.Outcome.{Outcome}
use Rattle.scenario_text.specs.declared.line.Line.{Line}
use Rattle.scenario_text.specs.declared.line.Line.TheVariants as line
use Rattle.world_history.specs.ServerNames as server_rules
use Rattle.world_history.specs.ClientNames as client_rules
use Rattle.world_history.specs.Told.{kind_of}
use Rattle.world_history.specs.Names.{where_known, note_line, is_tellable_note, known_note_line, known_outcome}
use Rattle.world_history.specs.Spelled.{spelled, party_of}
use Rattle.world_history.specs.declared.messages.Sent.{Sent}
use Rattle.world_history.specs.declared.messages.Message.{Message}
use Rattle.world_history.specs.declared.messages.Posted.{Posted}
use Rattle.world_history.specs.State.{DriveAt, ClientAt, Network, World, empty_world, at_number, with_down}
use Rattle.world_history.specs.Handed.{Post, Handed, end_line, ended_by, server_takes, drive_hears, client_hears, client_takes, for_client, for_server, handed_to, handed, client_goes, op_in, pending_op}
use Rattle.world_history.specs.Moves.{Act, Action, Opens, Delivers, TimesOut, Pends, by_client, called, pends_as, made_file, injects_at, delivers_found, delivers, drops_found, marked, op_of, raw_of, calls_at, times_out, leaves, resends, pends, makes, gives, injects, begins, acts, known_drive, has_algorithm, knows_drive, adds_drive}
use Rattle.world_history.specs.Sending.{Move, move, fresh, sent_lines, sends_all}
use Rattle.world_history.specs.Drives.{raised, at_time, fallen, crashed, reopened, is_deaf}
use Rattle.world_history.specs.Runs.{world_after, lines_of, Carries}
use Rattle.world_history.specs.History.{Step, AreCarried, end_of, lines_of_steps, StandsFor}
use Rattle.world_history.specs.Laws.{shown}
use Rattle.world_history.proofs.ReadMessages.{drive_view, stops_view}
use Rattle.world_watch.specs.Laws.{Letter, letter, letters_on, letters_in, EventsTell}

-- ---- the messages of a world

abbrev letter_of : Posted → Letter
letter_of p = record { to = party_of p.message.to; bytes = spelled p.message.body }

abbrev written : World → List Letter
written w = map letter_of w.network.messages

written_set : (ps : List Posted) (n : ℕ) (p q : Posted) → slice_get ps n ≡ Some p → letter_of q ≡ letter_of p
    → map letter_of (slice_set ps n q) ≡ map letter_of ps
written_set [] n p q e s = refl
written_set (x ∷ ps) zero p q e s =
    let same : x ≡ p = cc in
    ap (λ (a : Letter). a ∷ map letter_of ps) (s ∙ sym (ap (λ (z : Posted). letter_of z) same))
written_set (x ∷ ps) (suc n) p q e s = ap (λ (l : List Letter). letter_of x ∷ l) (written_set ps n p q e s)

written_more : (ps qs : List Posted) → map letter_of (ps ++ qs) ≡ map letter_of ps ++ map letter_of qs
written_more [] qs = refl
written_more (x ∷ ps) qs = ap (λ (l : List Letter). letter_of x ∷ l) (written_more ps qs)

written_length : (ps : List Posted) → length (map letter_of ps) ≡ length ps
written_length [] = refl
written_length (x ∷ ps) = ap (λ (n : ℕ). suc n) (written_length ps)

written_shown : (ps : List Posted) → map letter (map shown ps) ≡ map letter_of ps
written_shown [] = refl
written_shown (x ∷ ps) = ap (λ (l : List Letter). letter_of x ∷ l) (written_shown ps)

same_written : (w v : World) → v.network ≡ w.network → written v ≡ written w
same_written w v e = ap (λ (t : Network). map letter_of t.messages) e

-- ---- messages that are sent

next_number : (n : ℕ) (x : List Letter) (l : Letter) → n ≡ length x
    → (if nat_eq n (length x) then Some (x ++ l ∷ []) else None) ≡ Some (x ++ l ∷ [])
next_number n x l e =
    let test : nat_eq n (length x) ≡ true = grind (arith, nat_tests, e) in
    rw test refl

sent_told : (x : List Letter) (n : ℕ) (ps : List Post) → n ≡ length x
    → fold letters_on (Some x) (sent_lines n ps) ≡ Some (x ++ map letter_of (map fresh ps))
unfolding sent_lines
sent_told x n [] e = ap (λ (l : List Letter). Some l) (sym (append-nil x))
sent_told x n (p ∷ ps) e =
    let l : Letter = letter_of (fresh p) in
    let longer : n + 1 ≡ length (x ++ l ∷ []) = omega (arith, e, length-append x (l ∷ [])) in
    ap (λ (o : Option (List Letter)). fold letters_on o (sent_lines (n + 1) ps)) (next_number n x l e)
    ∙ sent_told (x ++ l ∷ []) (n + 1) ps longer
    ∙ ap (λ (ls : List Letter). Some ls) (append_assoc x (l ∷ []) (map letter_of (map fresh ps)))

-- ---- lines that tell of no message

abbrev Silent : List Line → Type 0
Silent ls = (x : List Letter) → fold letters_on (Some x) ls ≡ Some x

silent_note : (known : Bool) (n : server_rules.Note) (ls : List Line) → Silent ls
    → Silent (cons_option (where_known known (note_line n)) ls)
silent_note true n ls q x = q x
silent_note false n ls q x = q x

silent_notes : (ns : List server_rules.Note) → Silent (filter_map known_note_line ns)
silent_notes [] x = refl
silent_notes (n ∷ ns) x =
    silent_note (nat_lt n.file FILES && is_tellable_note n.kind) n (filter_map known_note_line ns) (silent_notes ns) x

silent_end : (c : ℕ) (o : Option Outcome) → Silent (end_line c o)
silent_end c None x = refl
silent_end c (Some o) x = refl

silent_ended : (c : ℕ) (op : Option client_rules.CallOp) (o : Option client_rules.Outcome) → Silent (ended_by c op o)
silent_ended c None o x = refl
silent_ended c (Some op) None x = refl
silent_ended c (Some op) (Some o) x = silent_end c (known_outcome (kind_of op) o) x

-- ---- what a party does

-- a client's step
goes_silent : (w : World) (c : ℕ) (a : ClientAt) (i : client_input.Input) → Silent (client_goes w c a i).told
goes_silent w c a i = silent_ended c (op_in a.state i) (client_step a.state i).outcome

record IsSilentHand (w : World) (h : Handed) : Type 0 where
  network : h.world.network ≡ w.network
  told : Silent h.told

either_hand : (w : World) (b : Bool) (x y : Handed) → IsSilentHand w x → IsSilentHand w y
    → IsSilentHand w (if b then x else y)
either_hand w true x y p q = p
either_hand w false x y p q = q

drive_hand : (w : World) (d : ℕ) (m : Message) (a : Option DriveAt) → IsSilentHand w (drive_hears w d m a)
drive_hand w d m None = record { network = refl; told = λ x. refl }
drive_hand w d m (Some a) =
    either_hand w (is_deaf a) _ _ (record { network = refl; told = λ x. refl }) (record { network = refl; told = λ x. refl })

server_hand : (w : World) (chosen : List ℕ) (from : Node) (m : Option ServerMessage)
    → IsSilentHand w (server_takes w chosen from m)
server_hand w chosen from None = record { network = refl; told = λ x. refl }
server_hand w chosen from (Some m) = record {
  network = refl;
  told = silent_notes (server_step w.server chosen (ServerHears w.clock from m)).notes;
}

client_hand : (w : World) (c : ℕ) (a : ClientAt) (from : Node) (m : Option ClientMessage)
    → IsSilentHand w (client_takes w c a from m)
client_hand w c a from None = record { network = refl; told = λ x. refl }
client_hand w c a from (Some m) = record { network = refl; told = goes_silent w c a (client_input.Hears from m) }

client_heard : (w : World) (c : ℕ) (m : Message) (a : Option ClientAt) → IsSilentHand w (client_hears w c m a)
client_heard w c m None = record { network = refl; told = λ x. refl }
client_heard w c m (Some a) =
    either_hand w a.stopped _ _ (record { network = refl; told = λ x. refl }) (client_hand w c a m.from (for_client m))

hand_to : (w : World) (chosen : List ℕ) (m : Message) (to : Node) → IsSilentHand w (handed_to w chosen m to)
hand_to w chosen m node.Server =
    either_hand w w.down _ _ (record { network = refl; told = λ x. refl }) (server_hand w chosen m.from (for_server m))
hand_to w chosen m (node.Drive d) = drive_hand w d m (at_number w.drives d)
hand_to w chosen m (node.Client c) = client_heard w c m (at_number w.clients c)

-- ---- an action

-- it tells of no message, and those of the world stay, but for what becomes of them
record IsSilent (w : World) (a : Act) : Type 0 where
  letters : written a.world ≡ written w
  told : Silent a.told

same_silent : (w : World) (a : Act) → a.world.network ≡ w.network → Silent a.told → IsSilent w a
same_silent w a e q = record { letters = same_written w a.world e; told = q }

found_silent : (w : World) (chosen : List ℕ) (n : ℕ) (p : Option Posted) → slice_get w.network.messages n ≡ p
    → IsSilent w (delivers_found w chosen n p)
found_silent w chosen n None e = same_silent w _ refl (λ x. refl)
found_silent w chosen n (Some p) e =
    let q : IsSilentHand (marked w n p) (handed (marked w n p) chosen p.message) =
    hand_to (marked w n p) chosen p.message p.message.to in
    record {
      letters = same_written (marked w n p) (handed (marked w n p) chosen p.message).world q.network
          ∙ written_set w.network.messages n p (record p { delivered = true }) e refl;
      told = q.told;
    }

delivers_silent : (w : World) (chosen : List ℕ) (n : ℕ) → IsSilent w (delivers w chosen n)
unfolding delivers
delivers_silent w chosen n = found_silent w chosen n (slice_get w.network.messages n) refl

drops_letters : (w : World) (n : ℕ) (p : Option Posted) → slice_get w.network.messages n ≡ p
    → written (drops_found w n p) ≡ written w
drops_letters w n None e = refl
drops_letters w n (Some p) e = written_set w.network.messages n p (record p { dropped = true }) e refl

client_silent : (w : World) (does : ClientAt → Act) (a : Option ClientAt) → ((x : ClientAt) → IsSilent w (does x))
    → IsSilent w (by_client w does a)
client_silent w does None h = same_silent w _ refl (λ x. refl)
client_silent w does (Some a) h = h a

either_silent : (w : World) (b : Bool) (x y : Act) → IsSilent w x → IsSilent w y → IsSilent w (if b then x else y)
either_silent w true x y p q = p
either_silent w false x y p q = q

called_silent : (w : World) (c : ℕ) (a : ClientAt) (op : client_rules.CallOp)
    (r : Result ClientStep client_rules.CallErr) → IsSilent w (called w c a op r)
called_silent w c a op (Ok s) = same_silent w _ refl (silent_ended c (Some op) s.outcome)
called_silent w c a op (Err e) = same_silent w _ refl (λ x. refl)

made_silent : (w : World) (f : ℕ) (r : Result ServerStep server_rules.Refusal) → IsSilent w (made_file w f r)
made_silent w f (Ok s) = same_silent w _ refl (silent_notes s.notes)
made_silent w f (Err e) = same_silent w _ refl (λ x. refl)

injects_silent : (w : World) (d : ℕ) (bytes : List ℕ) (a : Option DriveAt) → IsSilent w (injects_at w d bytes a)
injects_silent w d bytes None = same_silent w _ refl (λ x. refl)
injects_silent w d bytes (Some a) = same_silent w _ refl (λ x. refl)

pends_silent : (w : World) (c : ℕ) (op : Option client_rules.CallOp) → IsSilent w (pends_as w c op)
pends_silent w c None = same_silent w _ refl (λ x. refl)
pends_silent w c (Some op) = same_silent w _ refl (λ x. refl)

-- ---- each kind of action

call_silent : (w : World) (c : ℕ) (op : client_rules.CallOp) → IsSilent w (calls_at w c op)
unfolding calls_at
call_silent w c op = client_silent w _ (at_number w.clients c) (λ a. called_silent w c a op (calls a.state op))

timeout_silent : (w : World) (c k : ℕ) → IsSilent w (times_out w c k)
unfolding times_out
timeout_silent w c k =
    client_silent w _ (at_number w.clients c) (λ a. same_silent w _ refl (goes_silent w c a (client_input.TimesOut k)))

leave_silent : (w : World) (c : ℕ) → IsSilent w (leaves w c)
unfolding leaves
leave_silent w c = client_silent w _ (at_number w.clients c) (λ a.
    either_silent w (is_some a.state.call) _ _ (same_silent w _ refl (λ x. refl))
    (same_silent w _ refl (goes_silent w c a client_input.Leaves)))

resend_silent : (w : World) (c : ℕ) → IsSilent w (resends w c)
unfolding resends
resend_silent w c =
    client_silent w _ (at_number w.clients c) (λ a. same_silent w _ refl (goes_silent w c a client_input.Resends))

pending_silent : (w : World) (c : ℕ) → IsSilent w (pends w c)
unfolding pends
pending_silent w c = client_silent w _ (at_number w.clients c) (λ a. pends_silent w c (pending_op a.state))

gives_silent : (w : World) (down : Bool) (chosen : List ℕ) (i : server_input.Input)
    → IsSilent w (gives (with_down w down) chosen i)
unfolding gives
gives_silent w down chosen i = same_silent w _ refl (silent_notes (server_step w.server chosen i).notes)

makes_silent : (w : World) (chosen : List ℕ) (f : ℕ) (m : server_rules.RawMap) (tag : ℕ) (zoned : Bool)
    → IsSilent w (makes w chosen f m tag zoned)
unfolding makes
makes_silent w chosen f m tag zoned =
    either_silent w (has_algorithm m) _ _ (made_silent w f (create_file w.server f m tag zoned chosen))
    (same_silent w _ refl (λ x. refl))

adds_silent : (w : World) (d : ℕ) (key : List ℕ) (capacity : ℕ) (stored : Bool)
    → IsSilent w (adds_drive w d key capacity stored)
unfolding gives
adds_silent w d key capacity stored =
    either_silent w (knows_drive w.server d) _ _ (same_silent w _ refl (λ x. refl))
    (same_silent w _ refl (silent_notes
    (server_step w.server [] (server_input.Adds (known_drive d key capacity))).notes))

inject_silent : (w : World) (d : ℕ) (bytes : List ℕ) → IsSilent w (injects w d bytes)
unfolding injects
inject_silent w d bytes = injects_silent w d bytes (at_number w.drives d)

begins_silent : (w : World) (chosen : List ℕ) (e : Event) → IsSilent w (begins w chosen e)
unfolding begins
begins_silent w chosen (event.Drive d key capacity) = adds_silent w d key capacity false
begins_silent w chosen (event.Disk d key capacity) = adds_silent w d key capacity true
begins_silent w chosen (event.File f m tag) = makes_silent w chosen f (raw_of m) tag false
begins_silent w chosen (event.ZonedFile f m tag) = makes_silent w chosen f (raw_of m) tag true
begins_silent w chosen (event.Zone d zone) = gives_silent w w.down chosen (server_input.Zones d zone)
begins_silent w chosen (event.Least d format) =
    same_silent w _ (drive_view w d (λ a. raised a format) (at_number w.drives d)) (λ x. refl)
begins_silent w chosen (event.Format format) = gives_silent w w.down chosen (server_input.Formats format)
begins_silent w chosen (event.Do c x) = call_silent w c (op_of x)
begins_silent w chosen (event.Call c x) = call_silent w c (op_of x)
begins_silent w chosen (event.Deliver number) = delivers_silent w chosen number
begins_silent w chosen (event.DropMessage number) = record {
  letters = drops_letters w number (slice_get w.network.messages number) refl;
  told = λ x. refl;
}
begins_silent w chosen (event.Resend (sender.Client c)) = resend_silent w c
begins_silent w chosen (event.Resend sender.Server) = gives_silent w w.down chosen server_input.Resends
begins_silent w chosen (event.Timeout c component) = timeout_silent w c component
begins_silent w chosen (event.Leave c) = leave_silent w c
begins_silent w chosen (event.Inject d bytes) = inject_silent w d bytes
begins_silent w chosen (event.Clock (machine.Drive d) time) =
    same_silent w _ (drive_view w d (λ a. at_time a time) (at_number w.drives d)) (λ x. refl)
begins_silent w chosen (event.Clock machine.Server time) = same_silent w _ refl (λ x. refl)
begins_silent w chosen (event.Recall f) = gives_silent w w.down chosen (server_input.Obeys server_rules.ToRecall f)
begins_silent w chosen (event.Revoke f) = gives_silent w w.down chosen (server_input.Obeys server_rules.ToRevoke f)
begins_silent w chosen (event.Rebuild f) = gives_silent w w.down chosen (server_input.Obeys server_rules.ToRebuild f)
begins_silent w chosen (event.Audit f) = gives_silent w w.down chosen (server_input.Obeys server_rules.ToAudit f)
begins_silent w chosen (event.Declare d) = gives_silent w w.down chosen (server_input.Obeys server_rules.ToDeclare d)
begins_silent w chosen (event.Stop c) =
    same_silent w _ (stops_view w c (at_number w.clients c)) (λ x. refl)
begins_silent w chosen (event.Fail d) =
    same_silent w _ (drive_view w d fallen (at_number w.drives d)) (λ x. refl)
begins_silent w chosen (event.Crash (machine.Drive d)) =
    same_silent w _ (drive_view w d crashed (at_number w.drives d)) (λ x. refl)
begins_silent w chosen (event.Crash machine.Server) = gives_silent w true chosen server_input.Crashes
begins_silent w chosen (event.Reopen (machine.Drive d)) =
    same_silent w _ (drive_view w d reopened (at_number w.drives d)) (λ x. refl)
begins_silent w chosen (event.Reopen machine.Server) = gives_silent w false chosen server_input.Opens
begins_silent w chosen e = same_silent w _ refl (λ x. refl)

acts_silent : (w : World) (chosen : List ℕ) (a : Action) → IsSilent w (acts w chosen a)
acts_silent w chosen (Opens e) = begins_silent w chosen e
acts_silent w chosen (Delivers number) = delivers_silent w chosen number
acts_silent w chosen (TimesOut c k) = timeout_silent w c k
acts_silent w chosen (Pends c) = pending_silent w c

-- ---- moves, one after another

all_told : (w : World) (a : Act) → IsSilent w a
    → fold letters_on (Some (written w)) (sends_all a).lines ≡ Some (written (sends_all a).world)
all_told w a q =
    let ps : List Posted = a.world.network.messages in
    let lines : List Line = sent_lines (length ps) a.posts in
    fold-append letters_on (Some (written w)) a.told lines
    ∙ ap (λ (o : Option (List Letter)). fold letters_on o lines) (q.told (written w))
    ∙ ap (λ (x : List Letter). fold letters_on (Some x) lines) (sym q.letters)
    ∙ sent_told (written a.world) (length ps) a.posts (sym (written_length ps))
    ∙ ap (λ (x : List Letter). Some x) (sym (written_more ps (map fresh a.posts)))

moves_told : (w : World) (ms : List Move)
    → fold letters_on (Some (written w)) (lines_of w ms) ≡ Some (written (world_after w ms))
moves_told w [] = refl
moves_told w (m ∷ ms) =
    fold-append letters_on (Some (written w)) (move w m).lines (lines_of (move w m).world ms)
    ∙ ap (λ (o : Option (List Letter)). fold letters_on o (lines_of (move w m).world ms))
    (all_told w (acts w m.chosen m.action) (acts_silent w m.chosen m.action))
    ∙ moves_told (move w m).world ms

event_told : (w : World) (e : Event) (lines : List Line) (v : World) → Carries w e lines v
    → fold letters_on (Some (written w)) lines ≡ Some (written v)
event_told w e lines v c =
    ap (λ (l : List Line). fold letters_on (Some (written w)) l) c.lines_are ∙ moves_told w c.moves
    ∙ ap (λ (x : World). Some (written x)) (sym c.world_is)

steps_told : (w : World) (steps : List Step) → AreCarried w steps
    → fold letters_on (Some (written w)) (lines_of_steps steps) ≡ Some (written (end_of w steps))
steps_told w [] r = refl
steps_told w (s ∷ steps) r =
    fold-append letters_on (Some (written w)) s.lines (lines_of_steps steps)
    ∙ ap (λ (o : Option (List Letter)). fold letters_on o (lines_of_steps steps))
    (event_told w s.event s.lines s.after r.0)
    ∙ steps_told s.after steps r.1

stands_told : (w : World) (h : List Line) → StandsFor w h → letters_in h ≡ Some (written w)
stands_told w h s =
    ap (λ (l : List Line). letters_in l) s.lines_are ∙ steps_told empty_world s.steps s.carried
    ∙ ap (λ (x : World). Some (written x)) (sym s.world_is)

pub events_tell : EventsTell
events_tell w h e moves n s shows =
    fold-append letters_on (Some []) h (line.Event e ∷ lines_of w moves)
    ∙ ap (λ (o : Option (List Letter)). fold letters_on o (line.Event e ∷ lines_of w moves)) (stands_told w h s)
    ∙ moves_told w moves
    ∙ ap (λ (x : List Letter). Some x) (sym (ap (λ (ms : List Sent). map letter ms) shows.messages
    ∙ written_shown (world_after w moves).network.messages))
