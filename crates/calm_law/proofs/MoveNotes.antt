-- What the lines of a move tell of components is what the server noted in it.
use Rattle.std.proofs.Common.{◌≡◌, ℕ, ◌+◌, ◌++◌, ◌∷◌, [], List, Bool, true, false, Option, Some, None, Result, Ok, Err, filter, is_some, length, slice_get, refl, ap, ◌∙◌, if◌then◌else◌}
use Rattle.std.specs.List.{filter_map}
use Rattle.std.proofs.lemmas.List.{append-nil}
use Rattle.std.proofs.lemmas.List.Elements.{filter-append}
use Rattle.osd_lists.specs.declared.node.Node.{Node}
use Rattle.osd_lists.specs.declared.node.Node.TheVariants as node
use Rattle.server_rules.specs.Files.{Step as ServerStep}
use Rattle.server_rules.specs.Messages.{Message as ServerMessage}
use Rattle.server_rules.specs.History.{step as server_step, unless_made}
use Rattle.server_rules.specs.History as server_input
use Rattle.server_rules.specs.Making.{create_file}
use Rattle.client_rules.specs.History as client_input
use Rattle.client_rules.specs.Messages.{Message as ClientMessage, Step as ClientStep}
use Rattle.client_rules.specs.History.{step as client_step}
use Rattle.client_rules.specs.Steps.{calls}
use Rattle.scenario_text.specs.declared.event.Event.{Event}
use Rattle.scenario_text.specs.declared.event.Event.TheVariants as event
use Rattle.scenario_text.specs.declared.event.Sender.TheVariants as sender
use Rattle.scenario_text.specs.declared.event.Machine.TheVariants as machine
use Rattle.scenario_text.specs.declared.line.Delivery.TheVariants as delivery
use Rattle.scenario_text.specs.declared.line.Outcome.{Outcome}
use Rattle.scenario_text.specs.declared.line.MapFault.TheVariants as map_fault
use Rattle.scenario_text.specs.declared.line.Note.TheVariants as note
use Rattle.scenario_text.specs.declared.line.Line.{Line}
use Rattle.scenario_text.specs.declared.line.Line.TheVariants as line
use Rattle.world_history.specs.ServerNames as server_rules
use Rattle.world_history.specs.ClientNames as client_rules
use Rattle.world_history.specs.Told.{kind_of}
use Rattle.world_history.specs.Names.{known_note_line, known_outcome}
use Rattle.world_history.specs.declared.messages.Message.{Message}
use Rattle.world_history.specs.declared.messages.Posted.{Posted}
use Rattle.world_history.specs.State.{DriveAt, ClientAt, World, at_number, and_drive, with_down}
use Rattle.world_history.specs.Drives.{made_drive, is_deaf}
use Rattle.world_history.specs.Handed.{Post, Handed, end_line, ended_by, quiet, server_takes, drive_hears, client_hears, client_takes, for_client, for_server, handed_to, client_goes, op_in, pending_op}
use Rattle.world_history.specs.Book.{made_of, step_by}
use Rattle.world_history.specs.Moves.{Act, changed, Action, Opens, Delivers, TimesOut, Pends, by_client, called, pends_as, made_file, injects_at, delivers_found, delivers, marked, op_of, raw_of, calls_at, times_out, leaves, resends, pends, makes, gives, injects, begins, acts, known_drive, has_algorithm, knows_drive, adds_drive}
use Rattle.world_history.specs.Sending.{Move, move, sent_lines}
use Rattle.history_law.specs.Doing.{heard_of, brought_to, brought, given_by, input_in, did_in}
use Rattle.component_law.specs.Components.{tells_component}
use Rattle.calm_law.specs.Seeing.{notes_in}

-- what lines tell of components
abbrev pub tells : List Line → List Line
tells ls = filter tells_component ls

-- what the notes of a step tell of them
abbrev pub noted : Option ServerStep → List Line
noted did = tells (filter_map known_note_line (notes_in did))

-- ---- lines that tell nothing of them

sent_tells : (n : ℕ) (ps : List Post) → tells (sent_lines n ps) ≡ []
unfolding sent_lines
sent_tells n [] = refl
sent_tells n (p ∷ ps) = sent_tells (n + 1) ps

end_tells : (c : ℕ) (o : Option Outcome) → tells (end_line c o) ≡ []
end_tells c None = refl
end_tells c (Some o) = refl

ended_tells : (c : ℕ) (op : Option client_rules.CallOp) (o : Option client_rules.Outcome) → tells (ended_by c op o) ≡ []
ended_tells c None o = refl
ended_tells c (Some op) None = refl
ended_tells c (Some op) (Some o) = end_tells c (known_outcome (kind_of op) o)

goes_tells : (w : World) (c : ℕ) (a : ClientAt) (i : client_input.Input) → tells (client_goes w c a i).told ≡ []
goes_tells w c a i = ended_tells c (op_in a.state i) (client_step a.state i).outcome

-- ---- a message comes to its receiver

either_hand : (b : Bool) (x y : Handed) → tells x.told ≡ [] → tells y.told ≡ [] → tells (if b then x else y).told ≡ []
either_hand true x y p q = p
either_hand false x y p q = q

drive_tells : (w : World) (d : ℕ) (m : Message) (a : Option DriveAt) → tells (drive_hears w d m a).told ≡ []
drive_tells w d m None = refl
drive_tells w d m (Some a) = either_hand (is_deaf a) _ _ refl refl

client_takes_tells : (w : World) (c : ℕ) (a : ClientAt) (from : Node) (m : Option ClientMessage)
    → tells (client_takes w c a from m).told ≡ []
client_takes_tells w c a from None = refl
client_takes_tells w c a from (Some m) = goes_tells w c a (client_input.Hears from m)

client_tells : (w : World) (c : ℕ) (m : Message) (a : Option ClientAt) → tells (client_hears w c m a).told ≡ []
client_tells w c m None = refl
client_tells w c m (Some a) = either_hand a.stopped _ _ refl (client_takes_tells w c a m.from (for_client m))

server_tells : (w : World) (chosen : List ℕ) (from : Node) (m : Option ServerMessage)
    → tells (server_takes w chosen from m).told ≡ noted (step_by w.server chosen (heard_of w.clock from m))
server_tells w chosen from None = refl
server_tells w chosen from (Some m) = refl

heard_tells : (w : World) (chosen : List ℕ) (b : Bool) (x : Handed) (o : Option server_input.Input)
    → tells x.told ≡ noted (step_by w.server chosen o)
    → tells (if b then quiet w delivery.Deaf else x).told ≡ noted (step_by w.server chosen (if b then None else o))
heard_tells w chosen true x o e = refl
heard_tells w chosen false x o e = e

hand_tells : (w : World) (chosen : List ℕ) (m : Message) (to : Node)
    → tells (handed_to w chosen m to).told ≡ noted (step_by w.server chosen (brought_to w m to))
hand_tells w chosen m node.Server =
    heard_tells w chosen w.down (server_takes w chosen m.from (for_server m)) (heard_of w.clock m.from (for_server m))
    (server_tells w chosen m.from (for_server m))
hand_tells w chosen m (node.Drive d) = drive_tells w d m (at_number w.drives d)
hand_tells w chosen m (node.Client c) = client_tells w c m (at_number w.clients c)

found_tells : (w : World) (chosen : List ℕ) (n : ℕ) (p : Option Posted)
    → tells (delivers_found w chosen n p).told ≡ noted (step_by w.server chosen (brought w p))
found_tells w chosen n None = refl
found_tells w chosen n (Some p) = hand_tells (marked w n p) chosen p.message p.message.to

delivers_tells : (w : World) (chosen : List ℕ) (n : ℕ)
    → tells (delivers w chosen n).told ≡ noted (step_by w.server chosen (brought w (slice_get w.network.messages n)))
unfolding delivers
delivers_tells w chosen n = found_tells w chosen n (slice_get w.network.messages n)

-- ---- a client

by_tells : (w : World) (does : ClientAt → Act) (a : Option ClientAt) → ((x : ClientAt) → tells (does x).told ≡ [])
    → tells (by_client w does a).told ≡ []
by_tells w does None h = refl
by_tells w does (Some a) h = h a

either_tells : (b : Bool) (x y : Act) → tells x.told ≡ [] → tells y.told ≡ [] → tells (if b then x else y).told ≡ []
either_tells true x y p q = p
either_tells false x y p q = q

called_tells : (w : World) (c : ℕ) (a : ClientAt) (op : client_rules.CallOp)
    (r : Result ClientStep client_rules.CallErr) → tells (called w c a op r).told ≡ []
called_tells w c a op (Ok s) = ended_tells c (Some op) s.outcome
called_tells w c a op (Err e) = refl

call_tells : (w : World) (c : ℕ) (op : client_rules.CallOp) → tells (calls_at w c op).told ≡ []
unfolding calls_at
call_tells w c op = by_tells w _ (at_number w.clients c) (λ a. called_tells w c a op (calls a.state op))

times_tells : (w : World) (c k : ℕ) → tells (times_out w c k).told ≡ []
unfolding times_out
times_tells w c k = by_tells w _ (at_number w.clients c) (λ a. goes_tells w c a (client_input.TimesOut k))

leave_tells : (w : World) (c : ℕ) → tells (leaves w c).told ≡ []
unfolding leaves
leave_tells w c = by_tells w _ (at_number w.clients c) (λ a.
    either_tells (is_some a.state.call) _ _ refl (goes_tells w c a client_input.Leaves))

resend_tells : (w : World) (c : ℕ) → tells (resends w c).told ≡ []
unfolding resends
resend_tells w c = by_tells w _ (at_number w.clients c) (λ a. goes_tells w c a client_input.Resends)

left_tells : (w : World) (c : ℕ) (op : Option client_rules.CallOp) → tells (pends_as w c op).told ≡ []
left_tells w c None = refl
left_tells w c (Some op) = refl

pends_tells : (w : World) (c : ℕ) → tells (pends w c).told ≡ []
unfolding pends
pends_tells w c = by_tells w _ (at_number w.clients c) (λ a. left_tells w c (pending_op a.state))

injected_tells : (w : World) (d : ℕ) (bytes : List ℕ) (a : Option DriveAt) → tells (injects_at w d bytes a).told ≡ []
injected_tells w d bytes None = refl
injected_tells w d bytes (Some a) = refl

inject_tells : (w : World) (d : ℕ) (bytes : List ℕ) → tells (injects w d bytes).told ≡ []
unfolding injects
inject_tells w d bytes = injected_tells w d bytes (at_number w.drives d)

-- ---- what an event gives the server

gives_tells : (w : World) (chosen : List ℕ) (i : server_input.Input)
    → tells (gives w chosen i).told ≡ noted (Some (server_step w.server chosen i))
unfolding gives
gives_tells w chosen i = refl

refusal_tells : (w : World) (f : ℕ) (e : server_rules.Refusal) → tells (made_file w f (Err e)).told ≡ []
refusal_tells w f server_rules.FileExists = refl
refusal_tells w f (server_rules.BadMap e) = refl
refusal_tells w f (server_rules.TooFewDrives n) = refl
refusal_tells w f (server_rules.NoSpread n) = refl

made_tells : (w : World) (f : ℕ) (r : Result ServerStep server_rules.Refusal)
    → tells (made_file w f r).told ≡ noted (Some (unless_made w.server r))
made_tells w f (Ok s) = refl
made_tells w f (Err e) = refusal_tells w f e

makes_tells : (w : World) (chosen : List ℕ) (f : ℕ) (m : server_rules.RawMap) (tag : ℕ) (zoned : Bool)
    → tells (makes w chosen f m tag zoned).told ≡ noted (step_by w.server chosen (made_of f m tag zoned))
unfolding makes
makes_tells w chosen f m tag zoned = either (has_algorithm m)
  where
    either : (b : Bool)
        → tells (if b then made_file w f (create_file w.server f m tag zoned chosen)
        else record { world = w; told = line.Note f (note.BadMap map_fault.Width) ∷ []; posts = [] }).told
        ≡ noted (step_by w.server chosen (if b then Some (server_input.Makes f m tag zoned) else None))
    either true = made_tells w f (create_file w.server f m tag zoned chosen)
    either false = refl

adds_tells : (w : World) (chosen : List ℕ) (d : ℕ) (key : List ℕ) (capacity : ℕ) (stored : Bool)
    → tells (adds_drive w d key capacity stored).told
    ≡ noted (step_by w.server chosen (given_by w.server (event.Drive d key capacity)))
unfolding gives
adds_tells w chosen d key capacity stored = either (knows_drive w.server d)
  where
    either : (b : Bool)
        → tells (if b then changed (and_drive w d (made_drive d key capacity stored))
        else gives (and_drive w d (made_drive d key capacity stored)) [] (server_input.Adds (known_drive d key capacity))).told
        ≡ noted (step_by w.server chosen (if b then None else Some (server_input.Adds (known_drive d key capacity))))
    either true = refl
    either false = refl

-- ---- any move

begins_tells : (w : World) (chosen : List ℕ) (e : Event)
    → tells (begins w chosen e).told ≡ noted (step_by w.server chosen (input_in w (Opens e)))
unfolding begins
begins_tells w chosen (event.Drive d key capacity) = adds_tells w chosen d key capacity false
begins_tells w chosen (event.Disk d key capacity) = adds_tells w chosen d key capacity true
begins_tells w chosen (event.File f m tag) = makes_tells w chosen f (raw_of m) tag false
begins_tells w chosen (event.ZonedFile f m tag) = makes_tells w chosen f (raw_of m) tag true
begins_tells w chosen (event.Zone d zone) = gives_tells w chosen (server_input.Zones d zone)
begins_tells w chosen (event.Format format) = gives_tells w chosen (server_input.Formats format)
begins_tells w chosen (event.Do c x) = call_tells w c (op_of x)
begins_tells w chosen (event.Call c x) = call_tells w c (op_of x)
begins_tells w chosen (event.Deliver n) = delivers_tells w chosen n
begins_tells w chosen (event.Timeout c k) = times_tells w c k
begins_tells w chosen (event.Inject d bytes) = inject_tells w d bytes
begins_tells w chosen (event.Resend (sender.Client c)) = resend_tells w c
begins_tells w chosen (event.Resend sender.Server) = gives_tells w chosen server_input.Resends
begins_tells w chosen (event.Leave c) = leave_tells w c
begins_tells w chosen (event.Clock (machine.Drive d) time) = refl
begins_tells w chosen (event.Clock machine.Server time) = refl
begins_tells w chosen (event.Recall f) = gives_tells w chosen (server_input.Obeys server_rules.ToRecall f)
begins_tells w chosen (event.Revoke f) = gives_tells w chosen (server_input.Obeys server_rules.ToRevoke f)
begins_tells w chosen (event.Rebuild f) = gives_tells w chosen (server_input.Obeys server_rules.ToRebuild f)
begins_tells w chosen (event.Audit f) = gives_tells w chosen (server_input.Obeys server_rules.ToAudit f)
begins_tells w chosen (event.Declare d) = gives_tells w chosen (server_input.Obeys server_rules.ToDeclare d)
begins_tells w chosen (event.Crash (machine.Drive d)) = refl
begins_tells w chosen (event.Crash machine.Server) = gives_tells (with_down w true) chosen server_input.Crashes
begins_tells w chosen (event.Reopen (machine.Drive d)) = refl
begins_tells w chosen (event.Reopen machine.Server) = gives_tells (with_down w false) chosen server_input.Opens
begins_tells w chosen e = refl

acts_tells : (w : World) (chosen : List ℕ) (a : Action)
    → tells (acts w chosen a).told ≡ noted (step_by w.server chosen (input_in w a))
acts_tells w chosen (Opens e) = begins_tells w chosen e
acts_tells w chosen (Delivers n) = delivers_tells w chosen n
acts_tells w chosen (TimesOut c k) = times_tells w c k
acts_tells w chosen (Pends c) = pends_tells w c

pub move_tells : (w : World) (m : Move) → tells (move w m).lines ≡ noted (did_in w m)
move_tells w m =
    let a : Act = acts w m.chosen m.action in
    filter-append tells_component a.told (sent_lines (length a.world.network.messages) a.posts)
    ∙ ap (λ (ls : List Line). tells a.told ++ ls) (sent_tells (length a.world.network.messages) a.posts)
    ∙ append-nil (tells a.told) ∙ acts_tells w m.chosen m.action
