-- Moves in which no client goes on and no drive hears or fails: all drives have what they had, and no client sends anything
-- that it hadn't sent.
-- Towards `ComponentsGoOn` (`specs/Steps.antt`).
use Rattle.std.proofs.Common.{◌≡◌, ℕ, Bool, true, false, cond, List, [], ◌∷◌, map, filter, slice_get, Option, Some, None, Result, Ok, Err, is_some, refl, sym, ap, subst, ◌∙◌, inl, inr, if◌then◌else◌}
use Rattle.std.proofs.lemmas.Bool.{cases_eq}
use Rattle.osd_lists.specs.declared.node.Node.{Node}
use Rattle.osd_lists.specs.declared.node.Node.TheVariants as node
use Rattle.osd_commands.specs.declared.commands.Command.{Command}
use Rattle.osd_objects.specs.Store.{object_at}
use Rattle.osd_objects.proofs.Entries.{lookup_inserted, lookup_beside}
use Rattle.data_map.specs.declared.check.RawMap.{RawMap}
use Rattle.scenario_text.specs.declared.event.Event.{Event}
use Rattle.scenario_text.specs.declared.event.Event.TheVariants as event
use Rattle.scenario_text.specs.declared.event.Machine.TheVariants as machine
use Rattle.scenario_text.specs.declared.event.Sender.TheVariants as sender
use Rattle.scenario_text.specs.declared.line.Delivery.TheVariants as delivery
use Rattle.scenario_text.specs.declared.line.Refusal.TheVariants as refusal
use Rattle.scenario_text.specs.declared.line.Note.TheVariants as note
use Rattle.scenario_text.specs.declared.line.MapFault.TheVariants as map_fault
use Rattle.scenario_text.specs.declared.line.Line.TheVariants as line
use Rattle.server_rules.specs.declared.server.Refusal.{Refusal}
use Rattle.server_rules.specs.Files.{Step as ServerStep}
use Rattle.server_rules.specs.Laws.{In}
use Rattle.server_rules.specs.Making.{create_file}
use Rattle.server_rules.specs.Messages.{Message as ServerMessage}
use Rattle.server_rules.specs.History as server
use Rattle.client_rules.specs.declared.calls.CallOp.{CallOp}
use Rattle.client_rules.specs.Messages.{Message as ClientMessage}
use Rattle.client_rules.specs.Steps.{resent}
use Rattle.client_rules.specs.History as client
use Rattle.world_history.specs.ServerNames as server_rules
use Rattle.world_history.specs.declared.messages.Message.{Message}
use Rattle.world_history.specs.declared.messages.Posted.{Posted}
use Rattle.world_history.specs.State.{World, DriveAt, ClientAt, at_number, and_number, with_number, and_drive, with_client, with_server, with_down}
use Rattle.world_history.specs.Drives.{made_drive, raised, at_time, crashed, reopened}
use Rattle.component_law.proofs.Doing.{IsAllowed}
use Rattle.history_law.specs.Doing.{brought_to, brought, input_in}
use Rattle.world_history.specs.Handed.{Post, handed_to, is_addressed, server_post, client_posts, server_hears, server_takes, client_hears, client_takes, client_goes, for_server, for_client, quiet, pending_op, wrote_in, data_in, op_in}
use Rattle.world_history.specs.Moves as world
use Rattle.world_history.specs.Moves.{Act, marked, told_delivered}
use Rattle.world_history.specs.Sending.{sends_all, with_posts}
use Rattle.world_history.specs.Refusals as refusals
use Rattle.world_history.specs.Refusals.{first_of, unless_there, unless_down}
use Rattle.world_history.proofs.Causes.{no_cause}
use Rattle.history_law.specs.Said.{said, posted}
use Rattle.history_law.proofs.Moves.{said_marked}
use Rattle.exchange_law.specs.Sent.{HasSent, message_of}
use Rattle.exchange_law.proofs.LatestLaw.{sent_split}
use Rattle.exchange_law.proofs.Replied.{from_server, addressed}
use Rattle.exchange_law.proofs.RefusalSending.{command_posted, resent_awaited}
use Rattle.exchange_law.proofs.SlotMoments.{not_there}
use Rattle.file_simulation.specs.Components.{object_on, has_failed}
use Rattle.file_simulation.specs.ClientEvents.{Going, going, hearing, opened, leaving, going_in}
use Rattle.relation_law.specs.DriveHearing.{AwaitedAreSent}
use Rattle.relation_law.proofs.DriveStays.{IsAlike, same_drive}

-- ---- an act

-- drives have what they had
pub record DrivesSame (w v : World) : Type 0 where
  pub failed : (n : ℕ) → has_failed (at_number v.drives n) ≡ has_failed (at_number w.drives n)
  pub objects : (n o : ℕ) → object_on (at_number v.drives n) o ≡ object_on (at_number w.drives n) o

-- no client sends what it hadn't sent
abbrev pub PostsNothing : World → List Post → Type 0
PostsNothing w ps = (c d : ℕ) (x : Command) → (p : Post) → In p ps → message_of c d x ≡ p.message → HasSent w c d x

-- the world v, in which these are sent
abbrev pub sending : World → List Post → World
sending v ps = record v { network = with_posts v.network ps }

pub alike : (w v : World) (ps : List Post) → DrivesSame w v → said v.network.messages ≡ said w.network.messages →
    PostsNothing w ps → IsAlike w (sending v ps)
alike w v ps drives same posts = record {
  failed = drives.failed;
  objects = drives.objects;
  sent = λ c d x below i.
      elim (sent_split w (record { world = v; told = []; posts = ps }) (message_of c d x) same i) [
        | inl old ↦ old
        | inr (p, j, e) ↦ posts c d x p j e
      ];
}

pub drives_kept : (w v : World) → v.drives ≡ w.drives → DrivesSame w v
drives_kept w v same = record {
  failed = λ n. ap (λ xs. has_failed (at_number xs n)) same;
  objects = λ n o. ap (λ xs. object_on (at_number xs n) o) same;
}

posts_none : (w : World) → PostsNothing w []
posts_none w c d x p i e = absurd i

posts_server : (w : World) (os : List server_rules.Outgoing) → PostsNothing w (filter is_addressed (map server_post os))
posts_server w os c d x p i e =
    let from : p.message.from ≡ node.Server =
    from_server p.message os (message_in p (filter is_addressed (map server_post os)) i) in
    absurd (cc (ap (λ (m : Message). m.from) e ∙ from))
  where
    message_in : (p : Post) (ps : List Post) → In p ps → In p.message (posted ps)
    message_in p [] j = absurd j
    message_in p (q ∷ ps) (inl e) = inl (ap (λ (y : Post). y.message) e)
    message_in p (q ∷ ps) (inr j) = inr (message_in p ps j)

-- nothing but marks changes
rests : (w v : World) → v.drives ≡ w.drives → said v.network.messages ≡ said w.network.messages → IsAlike w (sending v [])
rests w v drives same = alike w v [] (drives_kept w v drives) same (posts_none w)

pub still : (w : World) → IsAlike w (sending w [])
still w = rests w w refl refl

-- ---- the server

serves : (w v : World) (chosen : List ℕ) (i : server.Input) → DrivesSame w v →
    said v.network.messages ≡ said w.network.messages → IsAlike w (sends_all (world.gives v chosen i)).world
unfolding world.gives
serves w v chosen i drives same =
    alike w (with_server v (server.step v.server chosen i).state)
    (filter is_addressed (map server_post (server.step v.server chosen i).sends))
    (record { failed = drives.failed; objects = drives.objects }) same
    (posts_server w (server.step v.server chosen i).sends)

made_file : (w : World) (f : ℕ) (r : Result ServerStep Refusal) → IsAlike w (sends_all (world.made_file w f r)).world
made_file w f (Err e) = still w
made_file w f (Ok s) =
    alike w (with_server w s.state) (filter is_addressed (map server_post s.sends)) (drives_kept w (with_server w s.state) refl)
    refl (posts_server w s.sends)

either : (w : World) (b : Bool) (x y : Act) → IsAlike w (sends_all x).world → IsAlike w (sends_all y).world →
    IsAlike w (sends_all (if b then x else y)).world
either w true x y p q = p
either w false x y p q = q

makes : (w : World) (chosen : List ℕ) (f : ℕ) (m : RawMap) (tag : ℕ) (zoned : Bool) →
    IsAlike w (sends_all (world.makes w chosen f m tag zoned)).world
unfolding world.makes
makes w chosen f m tag zoned =
    either w (world.has_algorithm m) (world.made_file w f (create_file w.server f m tag zoned chosen))
    (world.tells w (line.Note f (note.BadMap map_fault.Width)))
    (made_file w f (create_file w.server f m tag zoned chosen)) (still w)

-- ---- clients

-- a client that isn't there
absent : (w : World) (does : ClientAt → Act) (o : Option ClientAt) → o ≡ None →
    IsAlike w (sends_all (world.by_client w does o)).world
absent w does None none = still w
absent w does (Some a) none = absurd (cc none)

pub not_going : (c : ℕ) (i : client.Input) (o : Option ClientAt) → going c i o ≡ None → o ≡ None
not_going c i None e = refl
not_going c i (Some a) e = absurd (cc e)

calls : (w : World) (c : ℕ) (op : CallOp) → going c (client.Calls op) (at_number w.clients c) ≡ None →
    IsAlike w (sends_all (world.calls_at w c op)).world
unfolding world.calls_at
calls w c op none = absent w _ (at_number w.clients c) (not_going c (client.Calls op) (at_number w.clients c) none)

pub times_out : (w : World) (c k : ℕ) → going c (client.TimesOut k) (at_number w.clients c) ≡ None →
    IsAlike w (sends_all (world.times_out w c k)).world
unfolding world.times_out
times_out w c k none = absent w _ (at_number w.clients c) (not_going c (client.TimesOut k) (at_number w.clients c) none)

-- a client that leaves
leaves_as : (c : ℕ) → ClientAt → Going
leaves_as c a = record { client = c; state = a.state; input = client.Leaves }

left : (w : World) (c : ℕ) (a : ClientAt) (b : Bool) → cond b None (Some (leaves_as c a)) ≡ None →
    IsAlike w (sends_all (if b then world.tells w (line.Refused c refusal.Busy)
    else world.acted (client_goes w c a client.Leaves))).world
left w c a true e = still w
left w c a false e = absurd (cc e)

leaves_by : (w : World) (c : ℕ) (o : Option ClientAt) → leaving c o ≡ None →
    IsAlike w (sends_all (world.by_client w (λ a. if is_some a.state.call then world.tells w (line.Refused c refusal.Busy)
    else world.acted (client_goes w c a client.Leaves)) o)).world
unfolding leaves_as
leaves_by w c None e = still w
leaves_by w c (Some a) e = left w c a (is_some a.state.call) e

leaves : (w : World) (c : ℕ) → leaving c (at_number w.clients c) ≡ None → IsAlike w (sends_all (world.leaves w c)).world
unfolding world.leaves
leaves w c none = leaves_by w c (at_number w.clients c) none

pends_by : (w : World) (c : ℕ) (o : Option CallOp) → IsAlike w (sends_all (world.pends_as w c o)).world
pends_by w c None = still w
pends_by w c (Some op) = still w

pends_at : (w : World) (c : ℕ) (o : Option ClientAt) →
    IsAlike w (sends_all (world.by_client w (λ a. world.pends_as w c (pending_op a.state)) o)).world
pends_at w c None = still w
pends_at w c (Some a) = pends_by w c (pending_op a.state)

pub pends : (w : World) (c : ℕ) → IsAlike w (sends_all (world.pends w c)).world
unfolding world.pends
pends w c = pends_at w c (at_number w.clients c)

-- a client sends again what it sent
resends : (w : World) → AwaitedAreSent w → (c : ℕ) → IsAlike w (sends_all (world.resends w c)).world
unfolding world.resends
resends w sent c = by_client (at_number w.clients c) refl
  where
    again : (a : ClientAt) → at_number w.clients c ≡ Some a →
        PostsNothing w (filter is_addressed (client_posts c (wrote_in a client.Resends)
        (data_in (op_in a.state client.Resends)) (resent a.state)))
    again a found e d x p i is =
        let os = resent a.state in
        let j = addressed p.message _ (message_in p _ i) in
        let r = command_posted p.message c (wrote_in a client.Resends) (data_in (op_in a.state client.Resends)) os j x
        (ap (λ (m : Message). m.body) (sym is)) in
        let q = resent_awaited a.state r.0 x r.1 in
        let was : HasSent w c q.awaited.drive q.awaited.command = sent c a found q.awaited q.there in
        let same : message_of c q.awaited.drive q.awaited.command ≡ message_of e d x =
        ap (λ (n : ℕ). message_of c n q.awaited.command) q.drive ∙ ap (message_of c r.0) q.command ∙ sym r.2 ∙ sym is in
        subst (λ (m : Message). In m (map (λ (p : Posted). p.message) w.network.messages)) same was
      where
        message_in : (p : Post) (ps : List Post) → In p ps → In p.message (posted ps)
        message_in p [] j = absurd j
        message_in p (q ∷ ps) (inl e) = inl (ap (λ (y : Post). y.message) e)
        message_in p (q ∷ ps) (inr j) = inr (message_in p ps j)

    by_client : (o : Option ClientAt) → at_number w.clients c ≡ o →
        IsAlike w (sends_all (world.by_client w (λ a. world.acted (client_goes w c a client.Resends)) o)).world
    by_client None found = still w
    by_client (Some a) found =
        alike w (client_goes w c a client.Resends).world (client_goes w c a client.Resends).posts (drives_kept w _ refl) refl
        (again a found)

stops : (w : World) (c : ℕ) (o : Option ClientAt) → IsAlike w (sends_all (world.changed (world.stops w c o))).world
stops w c None = still w
stops w c (Some a) = rests w (with_client w c (record a { stopped = true })) refl refl

drops : (w : World) (n : ℕ) (o : Option Posted) → slice_get w.network.messages n ≡ o →
    IsAlike w (sends_all (world.changed (world.drops_found w n o))).world
drops w n None e = still w
drops w n (Some p) e =
    rests w (world.with_message w n (record p { dropped = true })) refl
    (said_marked w.network.messages n p (record p { dropped = true }) e refl)

-- ---- drives

-- a drive goes on with its objects
at_drive : (w : World) (d : ℕ) (becomes : DriveAt → DriveAt) → ((a : DriveAt) → (becomes a).failed ≡ a.failed) →
    ((a : DriveAt) (o : ℕ) → object_at (becomes a).state.store o ≡ object_at a.state.store o) → (o : Option DriveAt) →
    at_number w.drives d ≡ o → IsAlike w (sends_all (world.changed (world.by_drive w d becomes o))).world
at_drive w d becomes failed objects None found = still w
at_drive w d becomes failed objects (Some a) found =
    let k = same_drive w (record w { drives = with_number w.drives d (becomes a) }) d a (becomes a) found refl (failed a)
    (objects a) (λ c e x below i. i) in
    alike w (record w { drives = with_number w.drives d (becomes a) }) [] (record { failed = k.failed; objects = k.objects })
    refl (posts_none w)

-- a new drive has no object
one_more : (w : World) (d : ℕ) (key : List ℕ) (capacity : ℕ) (stored : Bool) → at_number w.drives d ≡ None →
    DrivesSame w (record w { drives = and_number w.drives d (made_drive d key capacity stored) })
one_more w d key capacity stored none = record {
  failed = λ n. elim (cases_eq n d) [
    | inl here ↦
        ap (λ m. has_failed (at_number (and_number w.drives d it) m)) here
        ∙ ap has_failed (lookup_inserted w.drives d it) ∙ sym (ap has_failed none)
        ∙ sym (ap (λ m. has_failed (at_number w.drives m)) here)
    | inr other ↦ ap has_failed (lookup_beside w.drives d n it other)
  ];
  objects = λ n o. elim (cases_eq n d) [
    | inl here ↦
        ap (λ m. object_on (at_number (and_number w.drives d it) m) o) here
        ∙ ap (λ q. object_on q o) (lookup_inserted w.drives d it) ∙ sym (ap (λ q. object_on q o) none)
        ∙ sym (ap (λ m. object_on (at_number w.drives m) o) here)
    | inr other ↦ ap (λ q. object_on q o) (lookup_beside w.drives d n it other)
  ];
}
  where
    it : DriveAt
    it = made_drive d key capacity stored

adds : (w : World) (d : ℕ) (key : List ℕ) (capacity : ℕ) (stored : Bool) → at_number w.drives d ≡ None →
    IsAlike w (sends_all (world.adds_drive w d key capacity stored)).world
adds w d key capacity stored none =
    either w (world.knows_drive w.server d) (world.changed (and_drive w d (made_drive d key capacity stored)))
    (world.gives (and_drive w d (made_drive d key capacity stored)) [] (server.Adds (world.known_drive d key capacity)))
    (alike w (and_drive w d (made_drive d key capacity stored)) [] (one_more w d key capacity stored none) refl (posts_none w))
    (serves w (record w { drives = and_number w.drives d (made_drive d key capacity stored) }) []
    (server.Adds (world.known_drive d key capacity)) (one_more w d key capacity stored none) refl)

new_drive : (w : World) (d : ℕ) → first_of (unless_there (is_some (at_number w.drives d))) (unless_down w) ≡ None →
    at_number w.drives d ≡ None
new_drive w d e = not_there (at_number w.drives d) (no_cause _ _ e).0

-- ---- an event

-- a drive hears or fails at none of these
abbrev pub is_for_drives : Event → Bool
is_for_drives (event.Deliver number) = true
is_for_drives (event.Inject d bytes) = true
is_for_drives (event.Fail d) = true
is_for_drives e = false

pub begun_alike : (w : World) (chosen : List ℕ) → AwaitedAreSent w → (e : Event) → is_for_drives e ≡ false →
    opened w e ≡ None → refusals.refusal w e ≡ None → IsAlike w (sends_all (world.begins w chosen e)).world
unfolding world.begins refusals.refusal
begun_alike w chosen sent (event.Drive d key capacity) q none ok = adds w d key capacity false (new_drive w d ok)
begun_alike w chosen sent (event.Disk d key capacity) q none ok = adds w d key capacity true (new_drive w d ok)
begun_alike w chosen sent (event.Client c) q none ok = rests w (world.adds_client w c) refl refl
begun_alike w chosen sent (event.File f m tag) q none ok = makes w chosen f (world.raw_of m) tag false
begun_alike w chosen sent (event.ZonedFile f m tag) q none ok = makes w chosen f (world.raw_of m) tag true
begun_alike w chosen sent (event.Zone d zone) q none ok =
    serves w w chosen (server.Zones d zone) (drives_kept w w refl) refl
begun_alike w chosen sent (event.Least d format) q none ok =
    at_drive w d (λ a. raised a format) (λ a. refl) (λ a o. refl) (at_number w.drives d) refl
begun_alike w chosen sent (event.Format format) q none ok =
    serves w w chosen (server.Formats format) (drives_kept w w refl) refl
begun_alike w chosen sent (event.Do c x) q none ok = calls w c (world.op_of x) none
begun_alike w chosen sent (event.Call c x) q none ok = calls w c (world.op_of x) none
begun_alike w chosen sent (event.Deliver number) q none ok = absurd (cc q)
begun_alike w chosen sent (event.DropMessage number) q none ok = drops w number (slice_get w.network.messages number) refl
begun_alike w chosen sent (event.Resend (sender.Client c)) q none ok = resends w sent c
begun_alike w chosen sent (event.Resend sender.Server) q none ok =
    serves w w chosen server.Resends (drives_kept w w refl) refl
begun_alike w chosen sent (event.Timeout c k) q none ok = times_out w c k none
begun_alike w chosen sent (event.Leave c) q none ok = leaves w c none
begun_alike w chosen sent (event.Inject d bytes) q none ok = absurd (cc q)
begun_alike w chosen sent (event.Clock (machine.Drive d) time) q none ok =
    at_drive w d (λ a. at_time a time) (λ a. refl) (λ a o. refl) (at_number w.drives d) refl
begun_alike w chosen sent (event.Clock machine.Server time) q none ok = rests w (record w { clock = time }) refl refl
begun_alike w chosen sent (event.Recall f) q none ok =
    serves w w chosen (server.Obeys server_rules.ToRecall f) (drives_kept w w refl) refl
begun_alike w chosen sent (event.Revoke f) q none ok =
    serves w w chosen (server.Obeys server_rules.ToRevoke f) (drives_kept w w refl) refl
begun_alike w chosen sent (event.Rebuild f) q none ok =
    serves w w chosen (server.Obeys server_rules.ToRebuild f) (drives_kept w w refl) refl
begun_alike w chosen sent (event.Audit f) q none ok =
    serves w w chosen (server.Obeys server_rules.ToAudit f) (drives_kept w w refl) refl
begun_alike w chosen sent (event.Declare d) q none ok =
    serves w w chosen (server.Obeys server_rules.ToDeclare d) (drives_kept w w refl) refl
begun_alike w chosen sent (event.Stop c) q none ok = stops w c (at_number w.clients c)
begun_alike w chosen sent (event.Fail d) q none ok = absurd (cc q)
begun_alike w chosen sent (event.Crash (machine.Drive d)) q none ok =
    at_drive w d crashed (λ a. refl) (λ a o. refl) (at_number w.drives d) refl
begun_alike w chosen sent (event.Crash machine.Server) q none ok =
    serves w (with_down w true) chosen server.Crashes (drives_kept w (with_down w true) refl) refl
begun_alike w chosen sent (event.Reopen (machine.Drive d)) q none ok =
    at_drive w d reopened (λ a. refl) (λ a o. refl) (at_number w.drives d) refl
begun_alike w chosen sent (event.Reopen machine.Server) q none ok =
    serves w (with_down w false) chosen server.Opens (drives_kept w (with_down w false) refl) refl
begun_alike w chosen sent e q none ok = still w

-- ---- a message that isn't for a drive

module _ (w : World) (chosen : List ℕ) (n : ℕ) (p : Posted) (there : slice_get w.network.messages n ≡ Some p) where
  abbrev v : World
  v = marked w n p

  same_said : said v.network.messages ≡ said w.network.messages
  same_said = said_marked w.network.messages n p (record p { delivered = true }) there refl

  pub quiet_alike : IsAlike w (sending v [])
  quiet_alike = rests w v refl same_said

  server_told : (o : Option ServerMessage) →
      IsAlike w (sends_all (told_delivered n (server_takes v chosen p.message.from o))).world
  server_told None = quiet_alike
  server_told (Some m) =
      alike w (with_server v (server.step v.server chosen (server.Hears w.clock p.message.from m)).state)
      (filter is_addressed (map server_post (server.step v.server chosen (server.Hears w.clock p.message.from m)).sends))
      (drives_kept w _ refl) same_said
      (posts_server w (server.step v.server chosen (server.Hears w.clock p.message.from m)).sends)

  server_by : (b : Bool) → IsAlike w (sends_all (told_delivered n (if b then quiet v delivery.Deaf
      else server_takes v chosen p.message.from (for_server p.message)))).world
  server_by true = quiet_alike
  server_by false = server_told (for_server p.message)

  pub server_alike : IsAlike w (sends_all (told_delivered n (server_hears v chosen p.message))).world
  server_alike = server_by w.down

  -- a client that hears nothing
  module _ (c : ℕ) (a : ClientAt) where
    hears_it : ClientMessage → Going
    hears_it m = record { client = c; state = a.state; input = client.Hears p.message.from m }

    stopped_by : (m : ClientMessage) (b : Bool) → cond b None (Some (hears_it m)) ≡ None →
        IsAlike w (sends_all (told_delivered n (if b then quiet v delivery.Deaf
        else client_takes v c a p.message.from (Some m)))).world
    stopped_by m true e = quiet_alike
    stopped_by m false e = absurd (cc e)

    unread : (b : Bool) → IsAlike w (sends_all (told_delivered n (if b then quiet v delivery.Deaf
        else client_takes v c a p.message.from None))).world
    unread true = quiet_alike
    unread false = quiet_alike

    by_message : (o : Option ClientMessage) → hearing c p.message.from o (Some a) ≡ None →
        IsAlike w (sends_all (told_delivered n (if a.stopped then quiet v delivery.Deaf
        else client_takes v c a p.message.from o))).world
    unfolding hears_it
    by_message None e = unread a.stopped
    by_message (Some m) e = stopped_by m a.stopped e

  pub client_alike : (c : ℕ) (o : Option ClientAt) → hearing c p.message.from (for_client p.message) o ≡ None →
      IsAlike w (sends_all (told_delivered n (client_hears v c p.message o))).world
  client_alike c None none = quiet_alike
  client_alike c (Some a) none = by_message c a (for_client p.message) none

-- ---- what comes to the server

module _ (w : World) (chosen : List ℕ) (sent : AwaitedAreSent w) where
  brought_alike : (n : ℕ) (p : Posted) → slice_get w.network.messages n ≡ Some p → (to : Node) → p.message.to ≡ to →
      (i : server.Input) → brought_to w p.message to ≡ Some i →
      IsAlike w (sends_all (told_delivered n (handed_to (marked w n p) chosen p.message to))).world
  brought_alike n p there node.Server e i is = server_alike w chosen n p there
  brought_alike n p there (node.Client c) e i is = absurd (cc is)
  brought_alike n p there (node.Drive d) e i is = absurd (cc is)

  delivered_alike : (n : ℕ) (o : Option Posted) → slice_get w.network.messages n ≡ o → (i : server.Input) →
      brought w o ≡ Some i → IsAlike w (sends_all (world.delivers_found w chosen n o)).world
  delivered_alike n None there i is = absurd (cc is)
  delivered_alike n (Some p) there i is = brought_alike n p there p.message.to refl i is

  event_alike : (e : Event) → IsAllowed w (world.Opens e) → opened w e ≡ None → (i : server.Input) →
      input_in w (world.Opens e) ≡ Some i → IsAlike w (sends_all (world.begins w chosen e)).world
  unfolding world.begins world.delivers
  event_alike (event.Deliver number) ok none i is =
      delivered_alike number (slice_get w.network.messages number) refl i is
  event_alike (event.Inject d bytes) ok none i is = absurd (cc is)
  event_alike (event.Fail d) ok none i is = absurd (cc is)
  event_alike e ok none i is = begun_alike w chosen sent e refl none ok

  -- where something comes to the server, drives have what they had
  pub server_move_alike : (action : world.Action) → IsAllowed w action → going_in w action ≡ None → (i : server.Input) →
      input_in w action ≡ Some i → IsAlike w (sends_all (world.acts w chosen action)).world
  unfolding world.delivers
  server_move_alike (world.Opens e) ok none i is = event_alike e ok none i is
  server_move_alike (world.Delivers n) ok none i is = delivered_alike n (slice_get w.network.messages n) refl i is
  server_move_alike (world.TimesOut c k) ok none i is = absurd (cc is)
  server_move_alike (world.Pends c) ok none i is = absurd (cc is)
