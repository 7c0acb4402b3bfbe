-- What is so in each case of a move is so of each move. This is the one walk over what an action does.
use Rattle.std.proofs.Common.{◌≡◌, ℕ, zero, suc, Bool, true, false, List, [], ◌∷◌, Option, Some, None, Result, Ok, Err, length, refl, sym, ap, subst, ◌∙◌}
use Rattle.std.specs.Prelude.{slice_get, slice_set, is_some, if◌then◌else◌}
use Rattle.osd_lists.specs.declared.node.Node.{Node}
use Rattle.osd_lists.specs.declared.node.Node.TheVariants as node
use Rattle.data_map.specs.declared.check.RawMap.{RawMap}
use Rattle.scenario_text.specs.declared.event.Event.{Event}
use Rattle.scenario_text.specs.declared.event.Event.TheVariants as event
use Rattle.scenario_text.specs.declared.event.Machine.TheVariants as machine
use Rattle.scenario_text.specs.declared.event.Sender.TheVariants as sender
use Rattle.scenario_text.specs.declared.line.Delivery.{Delivery}
use Rattle.scenario_text.specs.declared.line.Delivery.TheVariants as delivery
use Rattle.scenario_text.specs.declared.line.Refusal.TheVariants as refusal
use Rattle.scenario_text.specs.declared.line.Line.{Line}
use Rattle.scenario_text.specs.declared.line.Line.TheVariants as line
use Rattle.server_rules.specs.declared.server.Refusal.{Refusal}
use Rattle.server_rules.specs.Files.{Step}
use Rattle.server_rules.specs.Making.{create_file}
use Rattle.server_rules.specs.Messages.{Message as ServerMessage}
use Rattle.server_rules.specs.History as server
use Rattle.client_rules.specs.Messages.{Message as ClientMessage, Step as ClientStep}
use Rattle.client_rules.specs.declared.calls.CallOp.{CallOp}
use Rattle.client_rules.specs.declared.outcomes.CallErr.{CallErr}
use Rattle.client_rules.specs.Steps.{calls}
use Rattle.client_rules.specs.History as client
use Rattle.world_history.specs.ServerNames as server_rules
use Rattle.world_history.specs.declared.messages.Message.{Message}
use Rattle.world_history.specs.declared.messages.Posted.{Posted}
use Rattle.world_history.specs.State.{World, DriveAt, ClientAt, at_number, and_drive, with_down}
use Rattle.world_history.specs.Told.{told_file_refusal}
use Rattle.world_history.specs.Drives.{judges, command_in, made_drive, raised, at_time, fallen, crashed, reopened, is_deaf}
use Rattle.world_history.specs.Handed.{Handed, handed_to, server_did, server_takes, drive_hears, drive_replies, client_did, client_hears, client_takes, for_server, for_client, quiet, pending_op}
use Rattle.world_history.specs.Moves as world
use Rattle.world_history.specs.Moves.{Act, Action, Opens, Delivers, TimesOut, Pends, acts, marked, told_delivered}
use Rattle.history_law.specs.Said.{said}
use Rattle.history_law.specs.Moves.{number_in, IsForServer, IsForClient, front_of, fronted, IsFileRefusal, Turns, Raised, Timed, Falls, Crashed, Reopened, MoveCases, drive_event, down_behind}

-- ---- marks

pub said_marked : (ms : List Posted) (n : ℕ) (p q : Posted) → slice_get ms n ≡ Some p → q.message ≡ p.message
    → said (slice_set ms n q) ≡ said ms
said_marked [] n p q e s = refl
said_marked (x ∷ ms) zero p q e s =
    let it : x ≡ p = cc e in
    ap (λ (m : Message). m ∷ said ms) (s ∙ sym (ap (λ (y : Posted). y.message) it))
said_marked (x ∷ ms) (suc n) p q e s = ap (λ (l : List Message). x.message ∷ l) (said_marked ms n p q e s)

-- so many were sent
pub said_length : (xs ys : List Posted) → said xs ≡ said ys → length xs ≡ length ys
said_length [] [] e = refl
said_length [] (y ∷ ys) e = absurd (cc e)
said_length (x ∷ xs) [] e = absurd (cc e)
said_length (x ∷ xs) (y ∷ ys) e =
    let rest : said xs ≡ said ys = cc e in
    ap suc (said_length xs ys rest)

refusal_is : (e : Refusal) → IsFileRefusal (told_file_refusal e)
refusal_is server_rules.FileExists = tt
refusal_is (server_rules.BadMap why) = tt
refusal_is (server_rules.TooFewDrives online) = tt
refusal_is (server_rules.NoSpread online) = tt

-- what stands in front of what a party tells: nothing, or one of two lines
pub front_cases : (Q : List Line → Type 0) → Q [] → ((number : ℕ) (d : Delivery) → Q (line.Delivered number d ∷ []))
    → ((c component : ℕ) → Q (line.TimedOut c component ∷ [])) → (action : Action) (d : Delivery) → Q (front_of action d)
front_cases Q none delivered timed (Opens (event.Deliver number)) d = delivered number d
front_cases Q none delivered timed (Opens (event.Timeout c component)) d = timed c component
front_cases Q none delivered timed (Delivers number) d = delivered number d
front_cases Q none delivered timed (TimesOut c component) d = timed c component
front_cases Q none delivered timed action d = none

-- no action hands the server a drive: that is a case of its own
pub none_added : (w : World) (action : Action) (x : server_rules.Drive) → IsForServer w action (server.Adds x) → ⊥
none_added w (Opens (event.File f m tag)) x is = cc is
none_added w (Opens (event.ZonedFile f m tag)) x is = cc is
none_added w (Opens (event.Zone d zone)) x is = cc is
none_added w (Opens (event.Format format)) x is = cc is
none_added w (Opens (event.Resend sender.Server)) x is = cc is
none_added w (Opens (event.Recall f)) x is = cc is
none_added w (Opens (event.Revoke f)) x is = cc is
none_added w (Opens (event.Rebuild f)) x is = cc is
none_added w (Opens (event.Audit f)) x is = cc is
none_added w (Opens (event.Declare d)) x is = cc is
none_added w (Opens (event.Crash machine.Server)) x is = cc is
none_added w (Opens (event.Reopen machine.Server)) x is = cc is
none_added w action x is = cc is

module _ (w : World) (chosen : List ℕ) (action : Action) (P : Act → Type 0) (k : MoveCases w chosen action P) where
  -- ---- nothing, and one of two

  still : P (world.changed w)
  still = k.rests w.network.messages refl [] tt

  either_act : (b : Bool) (x y : Act) → P x → P y → P (if b then x else y)
  either_act true x y p q = p
  either_act false x y p q = q

  -- ---- a message comes to its receiver

  module _ (n : ℕ) (p : Posted) (there : slice_get w.network.messages n ≡ Some p) (number : number_in action ≡ Some n)
      (front : front_of action delivery.Taken ≡ line.Delivered n delivery.Taken ∷ []) where
    abbrev v : World
    v = marked w n p

    abbrev OneHand : Handed → Type 0
    OneHand h = P (told_delivered n h)

    same_said : said v.network.messages ≡ said w.network.messages
    same_said = said_marked w.network.messages n p (record p { delivered = true }) there refl

    quiet_hand : (d : Delivery) → OneHand (quiet v d)
    quiet_hand d = k.rests v.network.messages same_said (line.Delivered n d ∷ []) (tt, tt)

    server_told : p.message.to ≡ node.Server → w.down ≡ false → (m : Option ServerMessage) → for_server p.message ≡ m
        → OneHand (server_takes v chosen p.message.from m)
    server_told to awake None is = quiet_hand delivery.Taken
    server_told to awake (Some m) is =
        subst (λ (l : List Line).
        P (fronted l (server_did v (server.step w.server chosen (server.Hears w.clock p.message.from m))))) front
        (k.serves v.network.messages same_said (server.Hears w.clock p.message.from m)
        (record { number = n; posted = p; there = there; receiver = to }, refl, refl, is, number, awake))

    server_awake : p.message.to ≡ node.Server → (b : Bool) → w.down ≡ b
        → OneHand (if b then quiet v delivery.Deaf else server_takes v chosen p.message.from (for_server p.message))
    server_awake to true down = quiet_hand delivery.Deaf
    server_awake to false down = server_told to down (for_server p.message) refl

    drive_told : (d : ℕ) (a : DriveAt) → at_number w.drives d ≡ Some a → p.message.to ≡ node.Drive d
        → (b : Bool) → is_deaf a ≡ b
        → OneHand (if b then quiet v delivery.Deaf else drive_replies v d p.message.from (judges a (command_in p.message.body)))
    drive_told d a found to true deaf = quiet_hand delivery.Deaf
    drive_told d a found to false deaf =
        k.judged v.network.messages same_said d a found deaf
        (record { number = n; posted = p; there = there; receiver = to }) number

    drive_heard : (d : ℕ) (a : Option DriveAt) → at_number w.drives d ≡ a → p.message.to ≡ node.Drive d
        → OneHand (drive_hears v d p.message a)
    drive_heard d None found to = quiet_hand delivery.Deaf
    drive_heard d (Some a) found to = drive_told d a found to (is_deaf a) refl

    client_told : (c : ℕ) (a : ClientAt) → at_number w.clients c ≡ Some a → p.message.to ≡ node.Client c
        → a.stopped ≡ false → (m : Option ClientMessage) → for_client p.message ≡ m
        → OneHand (client_takes v c a p.message.from m)
    client_told c a found to awake None is = quiet_hand delivery.Taken
    client_told c a found to awake (Some m) is =
        subst (λ (l : List Line).
        P (fronted l (client_did v c a (client.Hears p.message.from m)
        (client.step a.state (client.Hears p.message.from m))))) front
        (k.goes v.network.messages same_said c a found (client.Hears p.message.from m)
        (record { number = n; posted = p; there = there; receiver = to }, refl, is, number, awake))

    client_awake : (c : ℕ) (a : ClientAt) → at_number w.clients c ≡ Some a → p.message.to ≡ node.Client c
        → (b : Bool) → a.stopped ≡ b
        → OneHand (if b then quiet v delivery.Deaf else client_takes v c a p.message.from (for_client p.message))
    client_awake c a found to true stopped = quiet_hand delivery.Deaf
    client_awake c a found to false stopped = client_told c a found to stopped (for_client p.message) refl

    client_heard : (c : ℕ) (a : Option ClientAt) → at_number w.clients c ≡ a → p.message.to ≡ node.Client c
        → OneHand (client_hears v c p.message a)
    client_heard c None found to = quiet_hand delivery.Deaf
    client_heard c (Some a) found to = client_awake c a found to a.stopped refl

    handed_on : (to : Node) → p.message.to ≡ to → OneHand (handed_to v chosen p.message to)
    handed_on node.Server e = server_awake e w.down refl
    handed_on (node.Drive d) e = drive_heard d (at_number w.drives d) refl e
    handed_on (node.Client c) e = client_heard c (at_number w.clients c) refl e

  delivered : (n : ℕ) → number_in action ≡ Some n
      → front_of action delivery.Taken ≡ line.Delivered n delivery.Taken ∷ []
      → (o : Option Posted) → slice_get w.network.messages n ≡ o → P (world.delivers_found w chosen n o)
  delivered n number front None e = still
  delivered n number front (Some p) e = handed_on n p e number front p.message.to refl

  dropped : (n : ℕ) (o : Option Posted) → slice_get w.network.messages n ≡ o
      → P (world.changed (world.drops_found w n o))
  dropped n None e = still
  dropped n (Some p) e =
      k.rests (slice_set w.network.messages n (record p { dropped = true }))
      (said_marked w.network.messages n p (record p { dropped = true }) e refl) [] tt

  -- ---- a client is called, times out, leaves, resends, is left pending or is stopped

  at_client : (c : ℕ) (does : ClientAt → Act) (o : Option ClientAt) → at_number w.clients c ≡ o
      → ((a : ClientAt) → at_number w.clients c ≡ Some a → P (does a)) → P (world.by_client w does o)
  at_client c does None found each = still
  at_client c does (Some a) found each = each a found

  called : (c : ℕ) (a : ClientAt) (op : CallOp) → at_number w.clients c ≡ Some a
      → IsForClient w action c a (client.Calls op) → front_of action delivery.Taken ≡ []
      → (r : Result ClientStep CallErr) → calls a.state op ≡ r → P (world.called w c a op r)
  called c a op found for front (Err e) is = k.refused c a found op for e is
  called c a op found for front (Ok s) is =
      subst (λ (r : Result ClientStep CallErr).
      P (world.acted (client_did w c a (client.Calls op) (client.unless_refused a.state r)))) is
      (subst (λ (l : List Line).
      P (fronted l (client_did w c a (client.Calls op) (client.step a.state (client.Calls op))))) front
      (k.goes w.network.messages refl c a found (client.Calls op) for))

  calls_at : (c : ℕ) (op : CallOp)
      → ((a : ClientAt) → IsForClient w action c a (client.Calls op)) → front_of action delivery.Taken ≡ []
      → P (world.calls_at w c op)
  unfolding world.calls_at
  calls_at c op for front =
      at_client c _ (at_number w.clients c) refl (λ a found. called c a op found (for a) front (calls a.state op) refl)

  times_out : (c j : ℕ) → ((a : ClientAt) → IsForClient w action c a (client.TimesOut j))
      → front_of action delivery.Taken ≡ line.TimedOut c j ∷ [] → P (world.times_out w c j)
  unfolding world.times_out
  times_out c j for front =
      at_client c _ (at_number w.clients c) refl
      (λ a found. subst (λ (l : List Line).
      P (fronted l (client_did w c a (client.TimesOut j) (client.step a.state (client.TimesOut j))))) front
      (k.goes w.network.messages refl c a found (client.TimesOut j) (for a)))

  leaves : (c : ℕ) → ((a : ClientAt) → IsForClient w action c a client.Leaves) → front_of action delivery.Taken ≡ []
      → P (world.leaves w c)
  unfolding world.leaves
  leaves c for front =
      at_client c _ (at_number w.clients c) refl
      (λ a found. either_act (is_some a.state.call) _ _
      (k.rests w.network.messages refl (line.Refused c refusal.Busy ∷ []) (tt, tt))
      (subst (λ (l : List Line). P (fronted l (client_did w c a client.Leaves (client.step a.state client.Leaves)))) front
      (k.goes w.network.messages refl c a found client.Leaves (for a))))

  resends : (c : ℕ) → ((a : ClientAt) → IsForClient w action c a client.Resends) → front_of action delivery.Taken ≡ []
      → P (world.resends w c)
  unfolding world.resends
  resends c for front =
      at_client c _ (at_number w.clients c) refl
      (λ a found. subst (λ (l : List Line).
      P (fronted l (client_did w c a client.Resends (client.step a.state client.Resends)))) front
      (k.goes w.network.messages refl c a found client.Resends (for a)))

  pends_as : (c : ℕ) (o : Option CallOp) → P (world.pends_as w c o)
  pends_as c None = still
  pends_as c (Some op) = k.rests w.network.messages refl (line.Ended c _ ∷ []) (tt, tt)

  pends : (c : ℕ) → P (world.pends w c)
  unfolding world.pends
  pends c = at_client c _ (at_number w.clients c) refl (λ a found. pends_as c (pending_op a.state))

  stops : (c : ℕ) (o : Option ClientAt) → at_number w.clients c ≡ o → P (world.changed (world.stops w c o))
  stops c None found = still
  stops c (Some a) found = k.stops c a found

  -- ---- the server

  gives : (i : server.Input) → IsForServer w action i → front_of action delivery.Taken ≡ []
      → P (world.gives (with_down w (down_behind w.down i)) chosen i)
  unfolding world.gives
  gives i for front =
      subst (λ (l : List Line).
      P (fronted l (server_did (with_down w (down_behind w.down i)) (server.step w.server chosen i)))) front
      (k.serves w.network.messages refl i for)

  made : (f : ℕ) (m : RawMap) (tag : ℕ) (zoned : Bool) → IsForServer w action (server.Makes f m tag zoned)
      → front_of action delivery.Taken ≡ [] → (r : Result Step Refusal) → create_file w.server f m tag zoned chosen ≡ r
      → P (world.made_file w f r)
  made f m tag zoned for front (Err e) is =
      k.rests w.network.messages refl (line.Note f (told_file_refusal e) ∷ []) (refusal_is e, tt)
  made f m tag zoned for front (Ok s) is =
      subst (λ (r : Result Step Refusal). P (world.acted (server_did w (server.unless_made w.server r)))) is
      (subst (λ (l : List Line).
      P (fronted l (server_did w (server.step w.server chosen (server.Makes f m tag zoned))))) front
      (k.serves w.network.messages refl (server.Makes f m tag zoned) for))

  makes : (f : ℕ) (m : RawMap) (tag : ℕ) (zoned : Bool) → IsForServer w action (server.Makes f m tag zoned)
      → front_of action delivery.Taken ≡ [] → P (world.makes w chosen f m tag zoned)
  unfolding world.makes
  makes f m tag zoned for front =
      either_act (world.has_algorithm m) (world.made_file w f (create_file w.server f m tag zoned chosen)) _
      (made f m tag zoned for front (create_file w.server f m tag zoned chosen) refl)
      (k.rests w.network.messages refl (line.Note f _ ∷ []) (tt, tt))

  -- ---- drives

  at_drive : (d : ℕ) (becomes : DriveAt → DriveAt) → ((a : DriveAt) → Turns a (becomes a)) → (o : Option DriveAt)
      → at_number w.drives d ≡ o → P (world.changed (world.by_drive w d becomes o))
  at_drive d becomes turns None found = still
  at_drive d becomes turns (Some a) found = k.turns d a (becomes a) found (turns a)

  injects_at : (d : ℕ) (bytes : List ℕ) → action ≡ Opens (event.Inject d bytes) → (o : Option DriveAt)
      → at_number w.drives d ≡ o → P (world.injects_at w d bytes o)
  injects_at d bytes is None found = still
  injects_at d bytes is (Some a) found = k.injected d bytes is a found

  injects : (d : ℕ) (bytes : List ℕ) → action ≡ Opens (event.Inject d bytes) → P (world.injects w d bytes)
  unfolding world.injects
  injects d bytes is = injects_at d bytes is (at_number w.drives d) refl

  adds : (d : ℕ) (key : List ℕ) (capacity : ℕ) (stored : Bool) → action ≡ Opens (drive_event d key capacity stored)
      → (b : Bool) → world.knows_drive w.server d ≡ b
      → P (if b then world.changed (and_drive w d (made_drive d key capacity stored))
      else world.gives (and_drive w d (made_drive d key capacity stored)) []
      (server.Adds (world.known_drive d key capacity)))
  unfolding world.gives
  adds d key capacity stored is true knows = k.known d key capacity stored is knows
  adds d key capacity stored is false knows = k.adds d key capacity stored is knows

-- ---- moves

module _ (w : World) (chosen : List ℕ) (P : Act → Type 0) where
  begun : (e : Event) → MoveCases w chosen (Opens e) P → P (world.begins w chosen e)
  unfolding world.begins world.delivers
  begun (event.Drive d key capacity) k = adds w chosen _ P k d key capacity false refl (world.knows_drive w.server d) refl
  begun (event.Disk d key capacity) k = adds w chosen _ P k d key capacity true refl (world.knows_drive w.server d) refl
  begun (event.Client c) k = k.comes c refl
  begun (event.File f m tag) k = makes w chosen _ P k f (world.raw_of m) tag false refl refl
  begun (event.ZonedFile f m tag) k = makes w chosen _ P k f (world.raw_of m) tag true refl refl
  begun (event.Zone d zone) k = gives w chosen _ P k (server.Zones d zone) refl refl
  begun (event.Least d format) k =
      at_drive w chosen _ P k d (λ a. raised a format) (λ a. Raised format refl) (at_number w.drives d) refl
  begun (event.Format format) k = gives w chosen _ P k (server.Formats format) refl refl
  begun (event.Do c x) k = calls_at w chosen _ P k c (world.op_of x) (λ a. refl) refl
  begun (event.Call c x) k = calls_at w chosen _ P k c (world.op_of x) (λ a. refl) refl
  begun (event.Deliver number) k =
      delivered w chosen _ P k number refl refl (slice_get w.network.messages number) refl
  begun (event.DropMessage number) k = dropped w chosen _ P k number (slice_get w.network.messages number) refl
  begun (event.Resend (sender.Client c)) k = resends w chosen _ P k c (λ a. refl) refl
  begun (event.Resend sender.Server) k = gives w chosen _ P k server.Resends refl refl
  begun (event.Timeout c component) k = times_out w chosen _ P k c component (λ a. refl) refl
  begun (event.Leave c) k = leaves w chosen _ P k c (λ a. refl) refl
  begun (event.Inject d bytes) k = injects w chosen _ P k d bytes refl
  begun (event.Clock (machine.Drive d) time) k =
      at_drive w chosen _ P k d (λ a. at_time a time) (λ a. Timed time refl) (at_number w.drives d) refl
  begun (event.Clock machine.Server time) k = k.clock time
  begun (event.Recall f) k = gives w chosen _ P k (server.Obeys server_rules.ToRecall f) refl refl
  begun (event.Revoke f) k = gives w chosen _ P k (server.Obeys server_rules.ToRevoke f) refl refl
  begun (event.Rebuild f) k = gives w chosen _ P k (server.Obeys server_rules.ToRebuild f) refl refl
  begun (event.Audit f) k = gives w chosen _ P k (server.Obeys server_rules.ToAudit f) refl refl
  begun (event.Declare d) k = gives w chosen _ P k (server.Obeys server_rules.ToDeclare d) refl refl
  begun (event.Stop c) k = stops w chosen _ P k c (at_number w.clients c) refl
  begun (event.Fail d) k = at_drive w chosen _ P k d fallen (λ a. Falls refl) (at_number w.drives d) refl
  begun (event.Crash (machine.Drive d)) k =
      at_drive w chosen _ P k d crashed (λ a. Crashed refl) (at_number w.drives d) refl
  begun (event.Crash machine.Server) k = gives w chosen _ P k server.Crashes refl refl
  begun (event.Reopen (machine.Drive d)) k =
      at_drive w chosen _ P k d reopened (λ a. Reopened refl) (at_number w.drives d) refl
  begun (event.Reopen machine.Server) k = gives w chosen _ P k server.Opens refl refl
  begun e k = still w chosen _ P k

  -- each action
  pub each_act : (action : Action) → MoveCases w chosen action P → P (acts w chosen action)
  unfolding world.delivers
  each_act (Opens e) k = begun e k
  each_act (Delivers number) k =
      delivered w chosen _ P k number refl refl (slice_get w.network.messages number) refl
  each_act (TimesOut c component) k = times_out w chosen _ P k c component (λ a. refl) refl
  each_act (Pends c) k = pends w chosen _ P k c
