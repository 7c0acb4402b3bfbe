-- Which client goes on in a move, and that no other party then does.
use Rattle.std.proofs.Common.{◌≡◌, ℕ, Bool, true, false, List, [], Option, Some, None, IsSome, Result, Ok, Err, refl, sym, ap, subst, ◌∙◌}
use Rattle.std.specs.Prelude.{filter, slice_get, is_some, if◌then◌else◌}
use Rattle.osd_lists.specs.declared.node.Node.{Node}
use Rattle.osd_lists.specs.declared.node.Node.TheVariants as node
use Rattle.osd_objects.proofs.Entries.{lookup_set, lookup_set_beside}
use Rattle.data_map.specs.declared.check.RawMap.{RawMap}
use Rattle.scenario_text.specs.declared.event.Event.{Event}
use Rattle.scenario_text.specs.declared.event.Event.TheVariants as event
use Rattle.scenario_text.specs.declared.event.Machine.TheVariants as machine
use Rattle.scenario_text.specs.declared.event.Sender.TheVariants as sender
use Rattle.scenario_text.specs.declared.line.Delivery.TheVariants as delivery
use Rattle.scenario_text.specs.declared.line.Refusal.TheVariants as refusal
use Rattle.scenario_text.specs.declared.line.Line.TheVariants as line
use Rattle.server_rules.specs.declared.server.Refusal.{Refusal}
use Rattle.server_rules.specs.Files.{Step as ServerStep}
use Rattle.server_rules.specs.Making.{create_file}
use Rattle.server_rules.specs.Messages.{Message as ServerMessage}
use Rattle.server_rules.specs.History as server
use Rattle.client_rules.specs.declared.calls.CallOp.{CallOp}
use Rattle.client_rules.specs.declared.outcomes.CallErr.{CallErr}
use Rattle.client_rules.specs.Messages.{Message as ClientMessage, Step as ClientStep}
use Rattle.client_rules.specs.Steps.{calls}
use Rattle.client_rules.specs.History as client
use Rattle.world_history.specs.ServerNames as server_rules
use Rattle.world_history.specs.declared.messages.Posted.{Posted}
use Rattle.world_history.specs.State.{World, DriveAt, ClientAt, at_number, with_down}
use Rattle.world_history.specs.Drives.{judges, command_in, raised, at_time, fallen, crashed, reopened, is_deaf}
use Rattle.world_history.specs.Handed.{is_addressed, client_posts, handed_to, server_takes, drive_hears, drive_replies, client_did, client_hears, client_takes, for_server, for_client, quiet, pending_op, op_in, wrote_in, data_in, client_goes}
use Rattle.world_history.specs.Moves as world
use Rattle.world_history.specs.Moves.{Act, Action, Opens, Delivers, TimesOut, Pends, acts, marked, told_delivered, op_of}
use Rattle.history_law.specs.Said.{said}
use Rattle.history_law.specs.Moves.{IsForClient, number_in}
use Rattle.history_law.proofs.Moves.{said_marked}
use Rattle.exchange_law.specs.InStep.{state_of}
use Rattle.exchange_law.proofs.Each.{stopped_same, come_same}
use Rattle.file_simulation.specs.ClientEvents.{going, hearing, hearing_at, delivered, leaving, opened, going_in}
use Rattle.relation_law.specs.Frames.{ByClient, ByNone, ByGoing}

-- ---- no client goes on

none_same : (w : World) (a : Act) → a.world.clients ≡ w.clients → ByNone w a
none_same w a same = record { states = λ d. ap (λ (xs : List (ℕ × ClientAt)). state_of d (at_number xs d)) same }

none_stops : (w : World) (c : ℕ) (o : Option ClientAt) → at_number w.clients c ≡ o
    → ByNone w (world.changed (world.stops w c o))
none_stops w c None found = none_same w _ refl
none_stops w c (Some a) found =
    record { states = λ d. stopped_same w.clients c d a (record a { stopped = true }) found refl }

none_at_drive : (w : World) (d : ℕ) (becomes : DriveAt → DriveAt) (o : Option DriveAt)
    → ByNone w (world.changed (world.by_drive w d becomes o))
none_at_drive w d becomes None = none_same w _ refl
none_at_drive w d becomes (Some a) = none_same w _ refl

none_injects_at : (w : World) (d : ℕ) (bytes : List ℕ) (o : Option DriveAt) → ByNone w (world.injects_at w d bytes o)
none_injects_at w d bytes None = none_same w _ refl
none_injects_at w d bytes (Some a) = none_same w _ refl

none_injects : (w : World) (d : ℕ) (bytes : List ℕ) → ByNone w (world.injects w d bytes)
unfolding world.injects
none_injects w d bytes = none_injects_at w d bytes (at_number w.drives d)

none_drops : (w : World) (n : ℕ) (o : Option Posted) → ByNone w (world.changed (world.drops_found w n o))
none_drops w n None = none_same w _ refl
none_drops w n (Some p) = none_same w _ refl

either_none : (w : World) (b : Bool) (x y : Act) → ByNone w x → ByNone w y → ByNone w (if b then x else y)
either_none w true x y p q = p
either_none w false x y p q = q

none_made : (w : World) (f : ℕ) (r : Result ServerStep Refusal) → ByNone w (world.made_file w f r)
none_made w f (Err e) = none_same w _ refl
none_made w f (Ok s) = none_same w _ refl

none_makes : (w : World) (chosen : List ℕ) (f : ℕ) (m : RawMap) (tag : ℕ) (zoned : Bool)
    → ByNone w (world.makes w chosen f m tag zoned)
unfolding world.makes
none_makes w chosen f m tag zoned =
    either_none w (world.has_algorithm m) (world.made_file w f (create_file w.server f m tag zoned chosen)) _
    (none_made w f (create_file w.server f m tag zoned chosen)) (none_same w _ refl)

none_gives : (w v : World) (chosen : List ℕ) (i : server.Input) → v.clients ≡ w.clients → ByNone w (world.gives v chosen i)
unfolding world.gives
none_gives w v chosen i same = none_same w _ same

none_adds : (w : World) (d : ℕ) (key : List ℕ) (capacity : ℕ) (stored : Bool)
    → ByNone w (world.adds_drive w d key capacity stored)
unfolding world.gives
none_adds w d key capacity stored =
    either_none w (world.knows_drive w.server d) _ _ (none_same w _ refl) (none_same w _ refl)

none_pends_as : (w : World) (c : ℕ) (o : Option CallOp) → ByNone w (world.pends_as w c o)
none_pends_as w c None = none_same w _ refl
none_pends_as w c (Some op) = none_same w _ refl

none_pends : (w : World) (c : ℕ) → ByNone w (world.pends w c)
unfolding world.pends
none_pends w c = either (at_number w.clients c)
  where
    either : (o : Option ClientAt) → ByNone w (world.by_client w (λ a. world.pends_as w c (pending_op a.state)) o)
    either None = none_same w _ refl
    either (Some a) = none_pends_as w c (pending_op a.state)

-- a client that resends stays as it is
none_resends : (w : World) (c : ℕ) → ByNone w (world.resends w c)
unfolding world.resends
none_resends w c = either (at_number w.clients c) refl
  where
    either : (o : Option ClientAt) → at_number w.clients c ≡ o
        → ByNone w (world.by_client w (λ a. world.acted (client_goes w c a client.Resends)) o)
    either None found = none_same w _ refl
    either (Some a) found = record { states = λ d. stopped_same w.clients c d a _ found refl }

-- ---- a client goes on

-- by a step that it takes
by_step : (w v : World) (action : Action) (c : ℕ) (a : ClientAt) → at_number w.clients c ≡ Some a → (i : client.Input)
    → IsForClient w action c a i → v.clients ≡ w.clients → v.server ≡ w.server → v.drives ≡ w.drives → v.down ≡ w.down
    → said v.network.messages ≡ said w.network.messages → (h : Act)
    → h.world ≡ (client_did v c a i (client.step a.state i)).world
    → h.posts ≡ (client_did v c a i (client.step a.state i)).posts
    → ByClient w action (record { client = c; state = a.state; input = i }) h
by_step w v action c a found i for clients server drives down said_same h world_is posts_are = record {
  before = a;
  found = found;
  state_is = refl;
  input_is = for;
  after = _;
  mine = ap (λ (u : World). at_number u.clients c) world_is
      ∙ lookup_set v.clients c _ (subst IsSome (sym (ap (λ (xs : List (ℕ × ClientAt)). at_number xs c) clients ∙ found)) refl);
  behind = refl;
  others = λ d other. ap (λ (u : World). at_number u.clients d) world_is ∙ lookup_set_beside v.clients c d _ other
      ∙ ap (λ (xs : List (ℕ × ClientAt)). at_number xs d) clients;
  server = ap (λ (u : World). u.server) world_is ∙ server;
  drives = ap (λ (u : World). u.drives) world_is ∙ drives;
  down = ap (λ (u : World). u.down) world_is ∙ down;
  said = ap (λ (u : World). said u.network.messages) world_is ∙ said_same;
  wrote = wrote_in a i;
  logged = data_in (op_in a.state i);
  posts = posts_are;
}

-- a call that is refused leaves the client as it is
by_refusal : (w : World) (action : Action) (c : ℕ) (a : ClientAt) → at_number w.clients c ≡ Some a → (op : CallOp)
    → IsForClient w action c a (client.Calls op) → (e : CallErr) → calls a.state op ≡ Err e → (h : Act) → h.world ≡ w
    → h.posts ≡ [] → ByClient w action (record { client = c; state = a.state; input = client.Calls op }) h
by_refusal w action c a found op for e is h world_is posts_are = record {
  before = a;
  found = found;
  state_is = refl;
  input_is = for;
  after = a;
  mine = ap (λ (u : World). at_number u.clients c) world_is ∙ found;
  behind = ap (λ (r : Result ClientStep CallErr). (client.unless_refused a.state r).client) (sym is);
  others = λ d other. ap (λ (u : World). at_number u.clients d) world_is;
  server = ap (λ (u : World). u.server) world_is;
  drives = ap (λ (u : World). u.drives) world_is;
  down = ap (λ (u : World). u.down) world_is;
  said = ap (λ (u : World). said u.network.messages) world_is;
  wrote = false;
  logged = 0;
  posts = posts_are
      ∙ ap (λ (r : Result ClientStep CallErr). filter is_addressed
      (client_posts c false 0 (client.unless_refused a.state r).sends))
      (sym is);
}

module _ (w : World) (chosen : List ℕ) (action : Action) where
  called : (c : ℕ) (a : ClientAt) (op : CallOp) → at_number w.clients c ≡ Some a
      → IsForClient w action c a (client.Calls op) → (r : Result ClientStep CallErr) → calls a.state op ≡ r
      → ByClient w action (record { client = c; state = a.state; input = client.Calls op }) (world.called w c a op r)
  called c a op found for (Err e) is = by_refusal w action c a found op for e is _ refl refl
  called c a op found for (Ok s) is =
      by_step w w action c a found (client.Calls op) for refl refl refl refl refl _
      (ap (λ (r : Result ClientStep CallErr). (client_did w c a (client.Calls op) (client.unless_refused a.state r)).world)
      (sym is))
      (ap (λ (r : Result ClientStep CallErr). (client_did w c a (client.Calls op) (client.unless_refused a.state r)).posts)
      (sym is))

  calls_at : (c : ℕ) (op : CallOp) → ((a : ClientAt) → IsForClient w action c a (client.Calls op))
      → ByGoing w action (going c (client.Calls op) (at_number w.clients c)) (world.calls_at w c op)
  unfolding world.calls_at
  calls_at c op for = either (at_number w.clients c) refl
    where
      either : (o : Option ClientAt) → at_number w.clients c ≡ o → ByGoing w action (going c (client.Calls op) o)
          (world.by_client w (λ a. world.called w c a op (calls a.state op)) o)
      either None found = none_same w _ refl
      either (Some a) found = called c a op found (for a) (calls a.state op) refl

  times_out : (c j : ℕ) → ((a : ClientAt) → IsForClient w action c a (client.TimesOut j))
      → ByGoing w action (going c (client.TimesOut j) (at_number w.clients c)) (world.times_out w c j)
  unfolding world.times_out
  times_out c j for = either (at_number w.clients c) refl
    where
      either : (o : Option ClientAt) → at_number w.clients c ≡ o → ByGoing w action (going c (client.TimesOut j) o)
          (world.by_client w (λ a. world.behind (line.TimedOut c j) (client_goes w c a (client.TimesOut j))) o)
      either None found = none_same w _ refl
      either (Some a) found =
          by_step w w action c a found (client.TimesOut j) (for a) refl refl refl refl refl _ refl refl

  leaves : (c : ℕ) → ((a : ClientAt) → IsForClient w action c a client.Leaves)
      → ByGoing w action (leaving c (at_number w.clients c)) (world.leaves w c)
  unfolding world.leaves
  leaves c for = either (at_number w.clients c) refl
    where
      busy : (a : ClientAt) → at_number w.clients c ≡ Some a → (b : Bool) → ByGoing w action
          (if b then None else Some (record { client = c; state = a.state; input = client.Leaves }))
          (if b then world.tells w (line.Refused c refusal.Busy) else world.acted (client_goes w c a client.Leaves))
      busy a found true = none_same w _ refl
      busy a found false =
          by_step w w action c a found client.Leaves (for a) refl refl refl refl refl _ refl refl

      either : (o : Option ClientAt) → at_number w.clients c ≡ o → ByGoing w action (leaving c o)
          (world.by_client w (λ a. if is_some a.state.call then world.tells w (line.Refused c refusal.Busy)
          else world.acted (client_goes w c a client.Leaves)) o)
      either None found = none_same w _ refl
      either (Some a) found = busy a found (is_some a.state.call)

  -- ---- a message comes

  module _ (n : ℕ) (p : Posted) (there : slice_get w.network.messages n ≡ Some p) (number : number_in action ≡ Some n) where
    abbrev v : World
    v = marked w n p

    same_said : said v.network.messages ≡ said w.network.messages
    same_said = said_marked w.network.messages n p (record p { delivered = true }) there refl

    awake : (c : ℕ) (a : ClientAt) → at_number w.clients c ≡ Some a → p.message.to ≡ node.Client c
        → (m : ClientMessage) → for_client p.message ≡ Some m → (b : Bool) → a.stopped ≡ b → ByGoing w action
        (if b then None else Some (record { client = c; state = a.state; input = client.Hears p.message.from m }))
        (told_delivered n (if b then quiet v delivery.Deaf else client_takes v c a p.message.from (Some m)))
    awake c a found to m is true stopped = none_same w _ refl
    awake c a found to m is false stopped =
        by_step w v action c a found (client.Hears p.message.from m)
        (record { number = n; posted = p; there = there; receiver = to }, refl, is, number, stopped)
        refl refl refl refl same_said _ refl refl

    deaf : (c : ℕ) (a : ClientAt) (b : Bool)
        → ByNone w (told_delivered n (if b then quiet v delivery.Deaf else client_takes v c a p.message.from None))
    deaf c a true = none_same w _ refl
    deaf c a false = none_same w _ refl

    found_client : (c : ℕ) (a : ClientAt) → at_number w.clients c ≡ Some a → p.message.to ≡ node.Client c
        → (o : Option ClientMessage) → for_client p.message ≡ o
        → ByGoing w action (hearing c p.message.from o (Some a))
        (told_delivered n (if a.stopped then quiet v delivery.Deaf else client_takes v c a p.message.from o))
    found_client c a found to None is = deaf c a a.stopped
    found_client c a found to (Some m) is = awake c a found to m is a.stopped refl

    no_client : (c : ℕ) (o : Option ClientMessage)
        → ByGoing w action (hearing c p.message.from o None) (told_delivered n (quiet v delivery.Deaf))
    no_client c None = none_same w _ refl
    no_client c (Some m) = none_same w _ refl

    client_heard : (c : ℕ) → p.message.to ≡ node.Client c → (o : Option ClientAt) → at_number w.clients c ≡ o
        → ByGoing w action (hearing c p.message.from (for_client p.message) o)
        (told_delivered n (client_hears v c p.message o))
    client_heard c to None found = no_client c (for_client p.message)
    client_heard c to (Some a) found = found_client c a found to (for_client p.message) refl

    drive_heard : (d : ℕ) (o : Option DriveAt) → ByNone w (told_delivered n (drive_hears v d p.message o))
    drive_heard d None = none_same w _ refl
    drive_heard d (Some a) = either (is_deaf a)
      where
        either : (b : Bool) → ByNone w (told_delivered n (if b then quiet v delivery.Deaf
            else drive_replies v d p.message.from (judges a (command_in p.message.body))))
        either true = none_same w _ refl
        either false = none_same w _ refl

    server_told : (o : Option ServerMessage) → ByNone w (told_delivered n (server_takes v chosen p.message.from o))
    server_told None = none_same w _ refl
    server_told (Some m) = none_same w _ refl

    server_heard : (b : Bool) → ByNone w (told_delivered n (if b then quiet v delivery.Deaf
        else server_takes v chosen p.message.from (for_server p.message)))
    server_heard true = none_same w _ refl
    server_heard false = server_told (for_server p.message)

    handed_on : (to : Node) → p.message.to ≡ to
        → ByGoing w action (hearing_at w p.message to) (told_delivered n (handed_to v chosen p.message to))
    handed_on node.Server e = server_heard w.down
    handed_on (node.Drive d) e = drive_heard d (at_number w.drives d)
    handed_on (node.Client c) e = client_heard c e (at_number w.clients c) refl

  comes : (n : ℕ) → number_in action ≡ Some n → (o : Option Posted) → slice_get w.network.messages n ≡ o
      → ByGoing w action (delivered w o) (world.delivers_found w chosen n o)
  comes n number None there = none_same w _ refl
  comes n number (Some p) there = handed_on n p there number p.message.to refl

-- ---- each move

module _ (w : World) (chosen : List ℕ) where
  -- a client that comes wasn't there
  begun : (e : Event) → ((c : ℕ) → e ≡ event.Client c → at_number w.clients c ≡ None)
      → ByGoing w (Opens e) (opened w e) (world.begins w chosen e)
  unfolding world.begins world.delivers
  begun (event.Drive d key capacity) new = none_adds w d key capacity false
  begun (event.Disk d key capacity) new = none_adds w d key capacity true
  begun (event.Client c) new = record { states = λ d. come_same w.clients c d _ (new c refl) refl }
  begun (event.File f m tag) new = none_makes w chosen f (world.raw_of m) tag false
  begun (event.ZonedFile f m tag) new = none_makes w chosen f (world.raw_of m) tag true
  begun (event.Zone d zone) new = none_gives w w chosen (server.Zones d zone) refl
  begun (event.Least d format) new = none_at_drive w d (λ a. raised a format) (at_number w.drives d)
  begun (event.Format format) new = none_gives w w chosen (server.Formats format) refl
  begun (event.Do c x) new = calls_at w chosen _ c (world.op_of x) (λ a. refl)
  begun (event.Call c x) new = calls_at w chosen _ c (world.op_of x) (λ a. refl)
  begun (event.Deliver number) new = comes w chosen _ number refl (slice_get w.network.messages number) refl
  begun (event.DropMessage number) new = none_drops w number (slice_get w.network.messages number)
  begun (event.Resend (sender.Client c)) new = none_resends w c
  begun (event.Resend sender.Server) new = none_gives w w chosen server.Resends refl
  begun (event.Timeout c component) new = times_out w chosen _ c component (λ a. refl)
  begun (event.Leave c) new = leaves w chosen _ c (λ a. refl)
  begun (event.Inject d bytes) new = none_injects w d bytes
  begun (event.Clock (machine.Drive d) time) new = none_at_drive w d (λ a. at_time a time) (at_number w.drives d)
  begun (event.Clock machine.Server time) new = none_same w _ refl
  begun (event.Recall f) new = none_gives w w chosen (server.Obeys server_rules.ToRecall f) refl
  begun (event.Revoke f) new = none_gives w w chosen (server.Obeys server_rules.ToRevoke f) refl
  begun (event.Rebuild f) new = none_gives w w chosen (server.Obeys server_rules.ToRebuild f) refl
  begun (event.Audit f) new = none_gives w w chosen (server.Obeys server_rules.ToAudit f) refl
  begun (event.Declare d) new = none_gives w w chosen (server.Obeys server_rules.ToDeclare d) refl
  begun (event.Stop c) new = none_stops w c (at_number w.clients c) refl
  begun (event.Fail d) new = none_at_drive w d fallen (at_number w.drives d)
  begun (event.Crash (machine.Drive d)) new = none_at_drive w d crashed (at_number w.drives d)
  begun (event.Crash machine.Server) new = none_gives w (with_down w true) chosen server.Crashes refl
  begun (event.Reopen (machine.Drive d)) new = none_at_drive w d reopened (at_number w.drives d)
  begun (event.Reopen machine.Server) new = none_gives w (with_down w false) chosen server.Opens refl
  begun e new = none_same w _ refl

  pub each_going : (action : Action) → ((c : ℕ) → action ≡ Opens (event.Client c) → at_number w.clients c ≡ None)
      → ByGoing w action (going_in w action) (acts w chosen action)
  unfolding world.delivers
  each_going (Opens e) new = begun e (λ c is. new c (ap Opens is))
  each_going (Delivers number) new = comes w chosen _ number refl (slice_get w.network.messages number) refl
  each_going (TimesOut c component) new = times_out w chosen _ c component (λ a. refl)
  each_going (Pends c) new = none_pends w c
