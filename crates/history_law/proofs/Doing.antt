-- In each move the server takes the step that the move is to it.
use Rattle.std.specs.List.{filter_map}
use Rattle.std.proofs.Common.{◌≡◌, ℕ, ◌++◌, ◌∷◌, [], List, Bool, true, false, Option, Some, None, Result, Ok, Err, is_some, map, filter, slice_get, refl, sym, ap, subst, ◌∙◌, if◌then◌else◌}
use Rattle.osd_lists.specs.declared.node.Node.{Node}
use Rattle.osd_lists.specs.declared.node.Node.TheVariants as node
use Rattle.data_map.specs.declared.check.RawMap.{RawMap}
use Rattle.server_rules.specs.Files.{Step as ServerStep, still}
use Rattle.server_rules.specs.Making.{create_file}
use Rattle.server_rules.specs.Messages.{Message as ServerMessage}
use Rattle.server_rules.specs.History.{Input, Hears, Makes, Obeys, Adds, Zones, Formats, step, unless_made}
use Rattle.server_rules.specs.History as server_input
use Rattle.client_rules.specs.Messages.{Message as ClientMessage, Step as ClientStep}
use Rattle.client_rules.specs.Steps.{calls}
use Rattle.scenario_text.specs.declared.line.Delivery.TheVariants as delivery
use Rattle.scenario_text.specs.declared.line.Line.{Line}
use Rattle.scenario_text.specs.declared.line.Line.TheVariants as line
use Rattle.scenario_text.specs.declared.event.Event.{Event}
use Rattle.scenario_text.specs.declared.event.Event.TheVariants as event
use Rattle.scenario_text.specs.declared.event.Sender.TheVariants as sender
use Rattle.scenario_text.specs.declared.event.Machine.TheVariants as machine
use Rattle.world_history.specs.ServerNames as server_rules
use Rattle.world_history.specs.ServerNames.{Server, Outgoing, Refusal}
use Rattle.world_history.specs.ClientNames as client_rules
use Rattle.world_history.specs.declared.messages.Message.{Message}
use Rattle.world_history.specs.declared.messages.Posted.{Posted}
use Rattle.world_history.specs.State.{DriveAt, ClientAt, World, at_number, and_drive, with_down}
use Rattle.world_history.specs.Drives.{judges, command_in, made_drive, is_deaf}
use Rattle.world_history.specs.Names.{known_note_line}
use Rattle.world_history.specs.Handed.{Post, Handed, is_addressed, server_post, quiet, drive_hears, drive_replies, server_hears, server_takes, client_hears, client_takes, for_client, for_server, handed_to, pending_op}
use Rattle.world_history.specs.Moves.{Act, Action, Opens, Delivers, TimesOut, Pends, marked, delivers_found, delivers, drops_found, by_client, called, calls_at, times_out, leaves, resends, pends_as, pends, made_file, makes, gives, has_algorithm, by_drive, stops, injects_at, injects, adds_drive, changed, known_drive, knows_drive, op_of, raw_of, begins, acts}
use Rattle.world_history.specs.Book.{step_by, server_behind, clock_after}
use Rattle.history_law.specs.Doing.{heard_of, brought_to, brought, input_in, ServerMoves}

-- ---- an act

-- what is sent of some messages, and told of some notes
abbrev pub posts_of : List Outgoing → List Post
posts_of os = filter is_addressed (map server_post os)

abbrev pub Notes : Type 0
Notes = List server_rules.Note

-- notes are told behind some other lines
abbrev pub EndsWithNotes : List Line → Notes → Type 0
EndsWithNotes told ns = (front : List Line) × (told ≡ front ++ filter_map known_note_line ns)

-- The server takes a step for what comes to it, or stays as it is, and its clock shows this.
pub record Serving (w : World) (time : ℕ) (chosen : List ℕ) (i : Option Input) (a : Act) : Type 0 where
  pub server : a.world.server ≡ server_behind w.server (step_by w.server chosen i)
  pub clock : a.world.clock ≡ time
  pub posts : (x : Input) → i ≡ Some x → a.posts ≡ posts_of (step w.server chosen x).sends
  pub told : (x : Input) → i ≡ Some x → EndsWithNotes a.told (step w.server chosen x).notes

idle : (w : World) (clock : ℕ) (chosen : List ℕ) (a : Act) → a.world.server ≡ w.server → a.world.clock ≡ clock
    → Serving w clock chosen None a
idle w clock chosen a server same = record {
  server = server;
  clock = same;
  posts = λ x e. absurd (cc e);
  told = λ x e. absurd (cc e);
}

-- this step is taken
served : (w : World) (chosen : List ℕ) (i : Input) (t : ServerStep) (a : Act) → step w.server chosen i ≡ t
    → a.world.server ≡ t.state → a.world.clock ≡ w.clock → a.posts ≡ posts_of t.sends → EndsWithNotes a.told t.notes
    → Serving w w.clock chosen (Some i) a
served w chosen i t a is server clock posts told = record {
  server = server ∙ ap (λ (s : ServerStep). s.state) (sym is);
  clock = clock;
  posts = λ x e. subst (λ (y : Input). a.posts ≡ posts_of (step w.server chosen y).sends) (same x e)
      (posts ∙ ap (λ (s : ServerStep). posts_of s.sends) (sym is));
  told = λ x e. subst (λ (y : Input). EndsWithNotes a.told (step w.server chosen y).notes) (same x e)
      (subst (λ (s : ServerStep). EndsWithNotes a.told s.notes) (sym is) told);
}
  where
    same : (x : Input) → Some i ≡ Some x → i ≡ x
    same x e = cc e

either_act : (b : Bool) (w : World) (clock : ℕ) (chosen : List ℕ) (i j : Option Input) (x y : Act)
    → Serving w clock chosen i x
    → Serving w clock chosen j y → Serving w clock chosen (if b then i else j) (if b then x else y)
either_act true w clock chosen i j x y p q = p
either_act false w clock chosen i j x y p q = q

-- ---- a message comes to its receiver

-- the same of what a party does
record Hands (w : World) (chosen : List ℕ) (i : Option Input) (h : Handed) : Type 0 where
  server : h.world.server ≡ server_behind w.server (step_by w.server chosen i)
  clock : h.world.clock ≡ w.clock
  posts : (x : Input) → i ≡ Some x → h.posts ≡ posts_of (step w.server chosen x).sends
  told : (x : Input) → i ≡ Some x → EndsWithNotes h.told (step w.server chosen x).notes

idle_hand : (w : World) (chosen : List ℕ) (h : Handed) → h.world.server ≡ w.server → h.world.clock ≡ w.clock
    → Hands w chosen None h
idle_hand w chosen h server clock =
    let r = idle w w.clock chosen (record { world = h.world; told = h.told; posts = h.posts }) server clock in
    record { server = r.server; clock = r.clock; posts = r.posts; told = r.told }

either_hand : (b : Bool) (w : World) (chosen : List ℕ) (i : Option Input) (x y : Handed) → Hands w chosen i x
    → Hands w chosen i y → Hands w chosen i (if b then x else y)
either_hand true w chosen i x y p q = p
either_hand false w chosen i x y p q = q

server_hand : (w : World) (chosen : List ℕ) (from : Node) (m : Option ServerMessage)
    → Hands w chosen (heard_of w.clock from m) (server_takes w chosen from m)
server_hand w chosen from None = idle_hand w chosen (server_takes w chosen from None) refl refl
server_hand w chosen from (Some m) =
    let h = server_takes w chosen from (Some m) in
    let r = served w chosen (Hears w.clock from m) (step w.server chosen (Hears w.clock from m))
    (record { world = h.world; told = h.told; posts = h.posts }) refl refl refl refl ([], refl) in
    record { server = r.server; clock = r.clock; posts = r.posts; told = r.told }

server_heard : (w : World) (chosen : List ℕ) (m : Message)
    → Hands w chosen (brought_to w m node.Server) (server_hears w chosen m)
server_heard w chosen m = either w.down
  where
    either : (b : Bool) → Hands w chosen (if b then None else heard_of w.clock m.from (for_server m))
        (if b then quiet w delivery.Deaf else server_takes w chosen m.from (for_server m))
    either true = idle_hand w chosen (quiet w delivery.Deaf) refl refl
    either false = server_hand w chosen m.from (for_server m)

drive_hand : (w : World) (chosen : List ℕ) (d : ℕ) (m : Message) (o : Option DriveAt)
    → Hands w chosen None (drive_hears w d m o)
drive_hand w chosen d m None = idle_hand w chosen (drive_hears w d m None) refl refl
drive_hand w chosen d m (Some a) =
    either_hand (is_deaf a) w chosen None (quiet w delivery.Deaf) (drive_replies w d m.from (judges a (command_in m.body)))
    (idle_hand w chosen (quiet w delivery.Deaf) refl refl)
    (idle_hand w chosen (drive_replies w d m.from (judges a (command_in m.body))) refl refl)

client_hand : (w : World) (chosen : List ℕ) (c : ℕ) (a : ClientAt) (from : Node) (m : Option ClientMessage)
    → Hands w chosen None (client_takes w c a from m)
client_hand w chosen c a from None = idle_hand w chosen (client_takes w c a from None) refl refl
client_hand w chosen c a from (Some m) = idle_hand w chosen (client_takes w c a from (Some m)) refl refl

client_heard : (w : World) (chosen : List ℕ) (c : ℕ) (m : Message) (o : Option ClientAt)
    → Hands w chosen None (client_hears w c m o)
client_heard w chosen c m None = idle_hand w chosen (client_hears w c m None) refl refl
client_heard w chosen c m (Some a) =
    either_hand a.stopped w chosen None (quiet w delivery.Deaf) (client_takes w c a m.from (for_client m))
    (idle_hand w chosen (quiet w delivery.Deaf) refl refl) (client_hand w chosen c a m.from (for_client m))

hand_to : (w : World) (chosen : List ℕ) (m : Message) (to : Node)
    → Hands w chosen (brought_to w m to) (handed_to w chosen m to)
hand_to w chosen m node.Server = server_heard w chosen m
hand_to w chosen m (node.Drive d) = drive_hand w chosen d m (at_number w.drives d)
hand_to w chosen m (node.Client c) = client_heard w chosen c m (at_number w.clients c)

-- the line of a delivery stands before the notes
in_front : (l : Line) (told : List Line) (ns : Notes) → EndsWithNotes told ns → EndsWithNotes (l ∷ told) ns
in_front l told ns e = (l ∷ e.0, ap (λ (ls : List Line). l ∷ ls) e.1)

brought_marked : (w : World) (n : ℕ) (p : Posted) (to : Node)
    → brought_to (marked w n p) p.message to ≡ brought_to w p.message to
brought_marked w n p node.Server = refl
brought_marked w n p (node.Drive d) = refl
brought_marked w n p (node.Client c) = refl

found_serves : (w : World) (chosen : List ℕ) (n : ℕ) (o : Option Posted)
    → Serving w w.clock chosen (brought w o) (delivers_found w chosen n o)
found_serves w chosen n None = idle w w.clock chosen (delivers_found w chosen n None) refl refl
found_serves w chosen n (Some p) =
    let h : Hands (marked w n p) chosen (brought_to w p.message p.message.to)
    (handed_to (marked w n p) chosen p.message p.message.to) =
    subst (λ (i : Option Input).
    Hands (marked w n p) chosen i (handed_to (marked w n p) chosen p.message p.message.to))
    (brought_marked w n p p.message.to) (hand_to (marked w n p) chosen p.message p.message.to) in
    record {
      server = h.server;
      clock = h.clock;
      posts = h.posts;
      told = λ x e. in_front _ _ (step w.server chosen x).notes (h.told x e);
    }

pub delivers_serve : (w : World) (chosen : List ℕ) (n : ℕ)
    → Serving w w.clock chosen (brought w (slice_get w.network.messages n)) (delivers w chosen n)
unfolding delivers
delivers_serve w chosen n = found_serves w chosen n (slice_get w.network.messages n)

dropped_serves : (w : World) (chosen : List ℕ) (n : ℕ) (o : Option Posted)
    → Serving w w.clock chosen None (changed (drops_found w n o))
dropped_serves w chosen n None = idle w w.clock chosen (changed (drops_found w n None)) refl refl
dropped_serves w chosen n (Some p) = idle w w.clock chosen (changed (drops_found w n (Some p))) refl refl

-- ---- a client

at_client : (w : World) (chosen : List ℕ) (does : ClientAt → Act) (o : Option ClientAt)
    → ((a : ClientAt) → Serving w w.clock chosen None (does a)) → Serving w w.clock chosen None (by_client w does o)
at_client w chosen does None each = idle w w.clock chosen (by_client w does None) refl refl
at_client w chosen does (Some a) each = each a

called_serves : (w : World) (chosen : List ℕ) (c : ℕ) (a : ClientAt) (op : client_rules.CallOp)
    (r : Result ClientStep client_rules.CallErr) → Serving w w.clock chosen None (called w c a op r)
called_serves w chosen c a op (Ok s) = idle w w.clock chosen (called w c a op (Ok s)) refl refl
called_serves w chosen c a op (Err e) = idle w w.clock chosen (called w c a op (Err e)) refl refl

calls_serve : (w : World) (chosen : List ℕ) (c : ℕ) (op : client_rules.CallOp)
    → Serving w w.clock chosen None (calls_at w c op)
unfolding calls_at
calls_serve w chosen c op =
    at_client w chosen _ (at_number w.clients c) (λ a. called_serves w chosen c a op (calls a.state op))

timeout_serves : (w : World) (chosen : List ℕ) (c k : ℕ) → Serving w w.clock chosen None (times_out w c k)
unfolding times_out
timeout_serves w chosen c k = at_client w chosen _ (at_number w.clients c) (λ a. idle w w.clock chosen _ refl refl)

leaves_serve : (w : World) (chosen : List ℕ) (c : ℕ) → Serving w w.clock chosen None (leaves w c)
unfolding leaves
leaves_serve w chosen c =
    at_client w chosen _ (at_number w.clients c)
    (λ a. either_none (is_some a.state.call) _ _ (idle w w.clock chosen _ refl refl)
    (idle w w.clock chosen _ refl refl))
  where
    either_none : (b : Bool) (x y : Act) → Serving w w.clock chosen None x → Serving w w.clock chosen None y
        → Serving w w.clock chosen None (if b then x else y)
    either_none true x y p q = p
    either_none false x y p q = q

resends_serve : (w : World) (chosen : List ℕ) (c : ℕ) → Serving w w.clock chosen None (resends w c)
unfolding resends
resends_serve w chosen c = at_client w chosen _ (at_number w.clients c) (λ a. idle w w.clock chosen _ refl refl)

pends_as_serves : (w : World) (chosen : List ℕ) (c : ℕ) (o : Option client_rules.CallOp)
    → Serving w w.clock chosen None (pends_as w c o)
pends_as_serves w chosen c None = idle w w.clock chosen (pends_as w c None) refl refl
pends_as_serves w chosen c (Some op) = idle w w.clock chosen (pends_as w c (Some op)) refl refl

pends_serve : (w : World) (chosen : List ℕ) (c : ℕ) → Serving w w.clock chosen None (pends w c)
unfolding pends
pends_serve w chosen c =
    at_client w chosen _ (at_number w.clients c) (λ a. pends_as_serves w chosen c (pending_op a.state))

stopped_serves : (w : World) (chosen : List ℕ) (c : ℕ) (o : Option ClientAt)
    → Serving w w.clock chosen None (changed (stops w c o))
stopped_serves w chosen c None = idle w w.clock chosen (changed (stops w c None)) refl refl
stopped_serves w chosen c (Some a) = idle w w.clock chosen (changed (stops w c (Some a))) refl refl

-- ---- the server

gives_serve : (w : World) (chosen : List ℕ) (i : Input) → Serving w w.clock chosen (Some i) (gives w chosen i)
unfolding gives
gives_serve w chosen i = served w chosen i (step w.server chosen i) (gives w chosen i) refl refl refl refl ([], refl)

-- it crashes or is opened again
down_serves : (w : World) (down : Bool) (chosen : List ℕ) (i : Input)
    → Serving w w.clock chosen (Some i) (gives (with_down w down) chosen i)
unfolding gives
down_serves w down chosen i =
    served w chosen i (step w.server chosen i) (gives (with_down w down) chosen i) refl refl refl refl ([], refl)

-- what is sent again is no step
resent_serves : (w : World) (chosen : List ℕ) → Serving w w.clock chosen None (gives w chosen server_input.Resends)
unfolding gives
resent_serves w chosen = idle w w.clock chosen (gives w chosen server_input.Resends) refl refl

made_serves : (w : World) (chosen : List ℕ) (f : ℕ) (m : RawMap) (tag : ℕ) (zoned : Bool) (r : Result ServerStep Refusal)
    → create_file w.server f m tag zoned chosen ≡ r
    → Serving w w.clock chosen (Some (Makes f m tag zoned)) (made_file w f r)
made_serves w chosen f m tag zoned (Ok s) is =
    served w chosen (Makes f m tag zoned) s (made_file w f (Ok s)) (ap (unless_made w.server) is) refl refl refl ([], refl)
made_serves w chosen f m tag zoned (Err e) is =
    served w chosen (Makes f m tag zoned) (still w.server) (made_file w f (Err e))
    (ap (unless_made w.server) is) refl refl refl
    ((made_file w f (Err e)).told, refl)

makes_serve : (w : World) (chosen : List ℕ) (f : ℕ) (m : RawMap) (tag : ℕ) (zoned : Bool)
    → Serving w w.clock chosen (if has_algorithm m then Some (Makes f m tag zoned) else None)
    (makes w chosen f m tag zoned)
unfolding makes
makes_serve w chosen f m tag zoned =
    either_act (has_algorithm m) w w.clock chosen _ _ (made_file w f (create_file w.server f m tag zoned chosen)) _
    (made_serves w chosen f m tag zoned (create_file w.server f m tag zoned chosen) refl) (idle w w.clock chosen _ refl refl)

-- ---- drives

at_drive_serves : (w : World) (chosen : List ℕ) (d : ℕ) (becomes : DriveAt → DriveAt) (o : Option DriveAt)
    → Serving w w.clock chosen None (changed (by_drive w d becomes o))
at_drive_serves w chosen d becomes None = idle w w.clock chosen (changed (by_drive w d becomes None)) refl refl
at_drive_serves w chosen d becomes (Some a) = idle w w.clock chosen (changed (by_drive w d becomes (Some a))) refl refl

injected_serves : (w : World) (chosen : List ℕ) (d : ℕ) (bytes : List ℕ) (o : Option DriveAt)
    → Serving w w.clock chosen None (injects_at w d bytes o)
injected_serves w chosen d bytes None = idle w w.clock chosen (injects_at w d bytes None) refl refl
injected_serves w chosen d bytes (Some a) = idle w w.clock chosen (injects_at w d bytes (Some a)) refl refl

injects_serve : (w : World) (chosen : List ℕ) (d : ℕ) (bytes : List ℕ)
    → Serving w w.clock chosen None (injects w d bytes)
unfolding injects
injects_serve w chosen d bytes = injected_serves w chosen d bytes (at_number w.drives d)

added_serves : (w : World) (chosen : List ℕ) (d : ℕ) (key : List ℕ) (capacity : ℕ) (stored : Bool)
    → Serving w w.clock chosen (if knows_drive w.server d then None else Some (Adds (known_drive d key capacity)))
    (adds_drive w d key capacity stored)
unfolding gives
added_serves w chosen d key capacity stored =
    either_act (knows_drive w.server d) w w.clock chosen None (Some (Adds (known_drive d key capacity))) _ _
    (idle w w.clock chosen _ refl refl)
    (served w chosen (Adds (known_drive d key capacity)) (step w.server chosen (Adds (known_drive d key capacity)))
    (gives (and_drive w d (made_drive d key capacity stored)) [] (Adds (known_drive d key capacity))) refl refl refl refl
    ([], refl))

-- ---- what an event begins with, and moves

begins_serve : (w : World) (chosen : List ℕ) (e : Event)
    → Serving w (clock_after w.clock (line.Event e)) chosen (input_in w (Opens e)) (begins w chosen e)
unfolding begins
begins_serve w chosen (event.Drive d key capacity) = added_serves w chosen d key capacity false
begins_serve w chosen (event.Disk d key capacity) = added_serves w chosen d key capacity true
begins_serve w chosen (event.File f m tag) = makes_serve w chosen f (raw_of m) tag false
begins_serve w chosen (event.ZonedFile f m tag) = makes_serve w chosen f (raw_of m) tag true
begins_serve w chosen (event.Zone d zone) = gives_serve w chosen (Zones d zone)
begins_serve w chosen (event.Least d format) = at_drive_serves w chosen d _ (at_number w.drives d)
begins_serve w chosen (event.Format format) = gives_serve w chosen (Formats format)
begins_serve w chosen (event.Do c x) = calls_serve w chosen c (op_of x)
begins_serve w chosen (event.Call c x) = calls_serve w chosen c (op_of x)
begins_serve w chosen (event.Deliver number) = delivers_serve w chosen number
begins_serve w chosen (event.DropMessage number) = dropped_serves w chosen number (slice_get w.network.messages number)
begins_serve w chosen (event.Resend (sender.Client c)) = resends_serve w chosen c
begins_serve w chosen (event.Resend sender.Server) = resent_serves w chosen
begins_serve w chosen (event.Timeout c component) = timeout_serves w chosen c component
begins_serve w chosen (event.Leave c) = leaves_serve w chosen c
begins_serve w chosen (event.Inject d bytes) = injects_serve w chosen d bytes
begins_serve w chosen (event.Clock (machine.Drive d) time) = at_drive_serves w chosen d _ (at_number w.drives d)
begins_serve w chosen (event.Clock machine.Server time) =
    idle w time chosen (changed (record w { clock = time })) refl refl
begins_serve w chosen (event.Recall f) = gives_serve w chosen (Obeys server_rules.ToRecall f)
begins_serve w chosen (event.Revoke f) = gives_serve w chosen (Obeys server_rules.ToRevoke f)
begins_serve w chosen (event.Rebuild f) = gives_serve w chosen (Obeys server_rules.ToRebuild f)
begins_serve w chosen (event.Audit f) = gives_serve w chosen (Obeys server_rules.ToAudit f)
begins_serve w chosen (event.Declare d) = gives_serve w chosen (Obeys server_rules.ToDeclare d)
begins_serve w chosen (event.Stop c) = stopped_serves w chosen c (at_number w.clients c)
begins_serve w chosen (event.Fail d) = at_drive_serves w chosen d _ (at_number w.drives d)
begins_serve w chosen (event.Crash (machine.Drive d)) = at_drive_serves w chosen d _ (at_number w.drives d)
begins_serve w chosen (event.Crash machine.Server) = down_serves w true chosen server_input.Crashes
begins_serve w chosen (event.Reopen (machine.Drive d)) = at_drive_serves w chosen d _ (at_number w.drives d)
begins_serve w chosen (event.Reopen machine.Server) = down_serves w false chosen server_input.Opens
begins_serve w chosen e = idle w w.clock chosen _ refl refl

-- the clock behind an action
abbrev pub clock_behind : World → Action → ℕ
clock_behind w (Opens e) = clock_after w.clock (line.Event e)
clock_behind w action = w.clock

pub acts_serve : (w : World) (chosen : List ℕ) (action : Action)
    → Serving w (clock_behind w action) chosen (input_in w action) (acts w chosen action)
acts_serve w chosen (Opens e) = begins_serve w chosen e
acts_serve w chosen (Delivers number) = delivers_serve w chosen number
acts_serve w chosen (TimesOut c component) = timeout_serves w chosen c component
acts_serve w chosen (Pends c) = pends_serve w chosen c

-- ---- the law

-- a step that is taken is that of some input
step_of : (s : Server) (chosen : List ℕ) (i : Option Input) (did : ServerStep) → step_by s chosen i ≡ Some did
    → (x : Input) × (i ≡ Some x) × (step s chosen x ≡ did)
step_of s chosen None did e = absurd (cc e)
step_of s chosen (Some x) did e = (x, refl, cc e)

pub server_moves : ServerMoves
server_moves w m =
    let a = acts_serve w m.chosen m.action in
    record {
      server = a.server;
      posts = λ did e.
          let x = step_of w.server m.chosen (input_in w m.action) did e in
          a.posts x.0 x.1 ∙ ap (λ (t : ServerStep). posts_of t.sends) x.2;
      told = λ did e.
          let x = step_of w.server m.chosen (input_in w m.action) did e in
          subst (λ (t : ServerStep). EndsWithNotes (acts w m.chosen m.action).told t.notes) x.2 (a.told x.0 x.1);
    }
