-- The clients are read off every history, and each line of a call that ends tells how it did.
use Rattle.std.proofs.Common.{◌≡◌, ℕ, ◌++◌, ◌∷◌, [], List, Bool, true, false, Option, Some, None, Result, Ok, Err, map, fold, slice_get, option_map, refl, sym, ap, subst, ◌∙◌, append_assoc, if◌then◌else◌}
use Rattle.std.proofs.lemmas.Bool.{eq-eqb}
use Rattle.osd_lists.specs.declared.node.Node.{Node}
use Rattle.osd_lists.specs.declared.node.Node.TheVariants as node
use Rattle.client_rules.specs.Messages.{Message as ClientMessage}
use Rattle.client_rules.specs.Envelopes as client_bytes
use Rattle.client_rules.specs.History as client
use Rattle.server_rules.specs.Files.{Step as ServerStep}
use Rattle.server_rules.specs.Making.{create_file}
use Rattle.server_rules.specs.Messages.{Message as ServerMessage}
use Rattle.server_rules.specs.History as server
use Rattle.scenario_text.specs.declared.event.Event.{Event}
use Rattle.scenario_text.specs.declared.event.Event.TheVariants as event
use Rattle.scenario_text.specs.declared.event.Machine.TheVariants as machine
use Rattle.scenario_text.specs.declared.event.Sender.TheVariants as sender
use Rattle.scenario_text.specs.declared.line.Delivery.{Delivery}
use Rattle.scenario_text.specs.declared.line.Delivery.TheVariants as delivery
use Rattle.scenario_text.specs.declared.line.Line.{Line}
use Rattle.scenario_text.specs.declared.line.Line.TheVariants as line
use Rattle.world_history.specs.ServerNames as server_rules
use Rattle.world_history.specs.declared.messages.Posted.{Posted}
use Rattle.world_history.specs.declared.messages.Sent.{Sent}
use Rattle.world_history.specs.State.{World, DriveAt, ClientAt, at_number, with_client, and_drive, with_down}
use Rattle.world_history.specs.Spelled.{spelled, party_of, node_of}
use Rattle.world_history.specs.Drives.{judges, command_in, is_deaf, made_drive, raised, at_time, fallen, crashed, reopened}
use Rattle.world_history.specs.Handed.{Handed, quiet, client_goes, client_takes, client_hears, for_client, for_server, server_takes, drive_hears, drive_replies, handed_to}
use Rattle.world_history.specs.Moves.{Act, acted, Action, Opens, Delivers, TimesOut, Pends, marked, told_delivered, delivers_found, delivers, calls_at, leaves, resends, gives, made_file, makes, has_algorithm, by_drive, at_drive, injects_at, injects, adds_drive, knows_drive, known_drive, changed, drops_found, op_of, raw_of, begins, acts}
use Rattle.world_history.specs.Sending.{move, sends_all}
use Rattle.world_history.specs.Reading.{arrived, left_out, changed_at}
use Rattle.world_history.specs.Plans.{Rule, due_by}
use Rattle.world_history.specs.Laws.{shown}
use Rattle.world_history.proofs.Always.{opening, IsKept}
use Rattle.world_history.proofs.ReadMessages.{drops_view, never_opens}
use Rattle.history_law.specs.BookMoments.{IsMoment}
use Rattle.history_law.proofs.Histories.{stands, lawful}
use Rattle.exchange_law.proofs.CountMoments.{at_moment}
use Rattle.history_law.proofs.DriveLines.{shown_get, changed_view}
use Rattle.history_law.proofs.Each.{EachBehind, each_more, each_front, at_each_line}
use Rattle.cause_law.specs.ReadClients as read
use Rattle.cause_law.specs.ReadClients.{client_after, ClientSeen, went, where_it_is, is_client, hears_sent, hears_read, sees_client}
use Rattle.cause_law.specs.ReadCalls.{sent_input, read_input, CallSeen, sees_call, call_seen}
use Rattle.cause_law.specs.Ended.{CausedAt, ClientsAreRead, EndsAreCaused}
use Rattle.cause_law.proofs.CallMoves.{AreSeen, seen_more, IsTold, told_seen, AreStill, none_still, noted_still, notes_still, IsStillAct, still_told, none_changed, one_changed, same_changed, last_is, goes_told, line_told}
use Rattle.cause_law.proofs.CallEvents.{plain_line, called_told, times_out_told, resends_told, leaves_told, stops_told, comes_told, pends_told}

-- ---- a message is delivered

named_again : (n : Node) → node_of (party_of n) ≡ n
named_again node.Server = refl
named_again (node.Drive d) = refl
named_again (node.Client c) = refl

module _ (w : World) (h : List Line) (r : AreSeen w h) (n : ℕ) (p : Posted)
    (found : slice_get w.network.messages n ≡ Some p) where
  abbrev v : World
  v = marked w n p

  there : (c : ℕ) → slice_get (call_seen c h).seen.sent n ≡ Some (shown p)
  there c =
      ap (λ (ss : List Sent). slice_get ss n) (r c).sent ∙ shown_get w.network.messages n (Some p) found

  -- behind the line of the delivery
  delivered : (d : Delivery) (u : World) → u.network.messages ≡ v.network.messages
      → ((c : ℕ) → hears_sent c (at_number w.clients c) (Some (shown p)) ≡ at_number u.clients c)
      → AreSeen u (h ++ line.Delivered n d ∷ [])
  delivered d u messages is c =
      let seen = ap (λ (s : CallSeen). s.seen) (seen_more c h (line.Delivered n d ∷ [])) in
      record {
        sent =
            ap (λ (s : ClientSeen). s.sent) seen
            ∙ ap (λ (ss : List Sent). changed_at ss n arrived) (r c).sent
            ∙ changed_view w.network.messages n p (record p { delivered = true }) arrived found refl
            ∙ ap (λ (ps : List Posted). map shown ps) (sym messages);
        client =
            ap (λ (s : ClientSeen). s.client) seen
            ∙ ap (λ (o : Option ClientAt). hears_sent c o (slice_get (call_seen c h).seen.sent n)) (r c).client
            ∙ ap (hears_sent c (at_number w.clients c)) (there c) ∙ is c;
      }

  -- it is for no client
  no_client : ((c : ℕ) → is_client c (party_of p.message.to) ≡ false)
      → (c : ℕ) → hears_sent c (at_number w.clients c) (Some (shown p)) ≡ at_number w.clients c
  no_client is c =
      ap (λ (b : Bool). if b then option_map (read.hears (shown p)) (at_number w.clients c) else at_number w.clients c) (is c)

  -- whoever it is handed to changes no client
  hand_told : (a : Handed) → a.world.network.messages ≡ v.network.messages → a.world.clients ≡ v.clients → AreStill a.told
      → ((c : ℕ) → hears_sent c (at_number w.clients c) (Some (shown p)) ≡ at_number w.clients c)
      → IsTold h (told_delivered n a)
  hand_told a messages clients told same =
      line_told h (line.Delivered n a.receipt) (acted a) tt
      (still_told a.world _ _
      (delivered a.receipt a.world messages
      (λ c. same c ∙ ap (λ (xs : List (ℕ × ClientAt)). at_number xs c) (sym clients)))
      (record { messages = refl; clients = refl; told = told }))

  -- ---- to the server, or a drive

  server_told : (chosen : List ℕ) → p.message.to ≡ node.Server → (m : Option ServerMessage)
      → IsTold h (told_delivered n (server_takes v chosen p.message.from m))
  server_told chosen to None = hand_told _ refl refl none_still (no_client (λ c. ap (λ (x : Node). is_client c (party_of x)) to))
  server_told chosen to (Some m) =
      hand_told _ refl refl (notes_still (server.step v.server chosen (server.Hears v.clock p.message.from m)).notes)
      (no_client (λ c. ap (λ (x : Node). is_client c (party_of x)) to))

  server_heard : (chosen : List ℕ) → p.message.to ≡ node.Server → (b : Bool)
      → IsTold h (told_delivered n (if b then quiet v delivery.Deaf
      else server_takes v chosen p.message.from (for_server p.message)))
  server_heard chosen to true =
      hand_told _ refl refl none_still (no_client (λ c. ap (λ (x : Node). is_client c (party_of x)) to))
  server_heard chosen to false = server_told chosen to (for_server p.message)

  drive_by : (d : ℕ) → p.message.to ≡ node.Drive d → (a : DriveAt) (b : Bool)
      → IsTold h (told_delivered n (if b then quiet v delivery.Deaf
      else drive_replies v d p.message.from (judges a (command_in p.message.body))))
  drive_by d to a true = hand_told _ refl refl none_still (no_client (λ c. ap (λ (x : Node). is_client c (party_of x)) to))
  drive_by d to a false = hand_told _ refl refl none_still (no_client (λ c. ap (λ (x : Node). is_client c (party_of x)) to))

  drive_heard : (d : ℕ) → p.message.to ≡ node.Drive d → (o : Option DriveAt)
      → IsTold h (told_delivered n (drive_hears v d p.message o))
  drive_heard d to None = hand_told _ refl refl none_still (no_client (λ c. ap (λ (x : Node). is_client c (party_of x)) to))
  drive_heard d to (Some a) = drive_by d to a (is_deaf a)

  -- ---- to a client

  module _ (k : ℕ) (to : p.message.to ≡ node.Client k) where
    for_it : (c : ℕ) → hears_sent c (at_number w.clients c) (Some (shown p))
        ≡ where_it_is k c (read.hears (shown p)) (at_number w.clients c)
    for_it c =
        ap (λ (x : Node). if is_client c (party_of x) then option_map (read.hears (shown p)) (at_number w.clients c)
        else at_number w.clients c) to

    stays : (a : ClientAt) → at_number w.clients k ≡ Some a → read.hears (shown p) a ≡ a → (d : Delivery)
        → IsTold h (told_delivered n (quiet v d))
    stays a at is d =
        hand_told (quiet v d) refl refl none_still (λ c. for_it c ∙ same_changed w k c (read.hears (shown p)) a at is)

    -- what it reads
    reads : (a : ClientAt) → a.stopped ≡ false → (m : Option ClientMessage) → for_client p.message ≡ m
        → read.hears (shown p) a ≡ hears_read a (party_of p.message.from) m
    reads a awake m is =
        ap (λ (b : Bool). if b then a else hears_read a (party_of p.message.from)
        (client_bytes.message_in (node_of (party_of p.message.from)) (spelled p.message.body))) awake
        ∙ ap (λ (x : Node). hears_read a (party_of p.message.from) (client_bytes.message_in x (spelled p.message.body)))
        (named_again p.message.from)
        ∙ ap (hears_read a (party_of p.message.from)) is

    comes : (a : ClientAt) → a.stopped ≡ false → (m : ClientMessage) → for_client p.message ≡ Some m
        → sent_input k a (Some (shown p)) ≡ Some (client.Hears p.message.from m)
    comes a awake m is =
        ap (λ (x : Node). if is_client k (party_of x)
        then (if a.stopped then None else read_input (party_of p.message.from)
        (client_bytes.message_in (node_of (party_of p.message.from)) (spelled p.message.body))) else None) to
        ∙ ap (λ (b : Bool). if b
        then (if a.stopped then None else read_input (party_of p.message.from)
        (client_bytes.message_in (node_of (party_of p.message.from)) (spelled p.message.body))) else None) (eq-eqb k k refl)
        ∙ ap (λ (b : Bool). if b then None else read_input (party_of p.message.from)
        (client_bytes.message_in (node_of (party_of p.message.from)) (spelled p.message.body))) awake
        ∙ ap (λ (x : Node). read_input (party_of p.message.from) (client_bytes.message_in x (spelled p.message.body)))
        (named_again p.message.from)
        ∙ ap (read_input (party_of p.message.from)) is
        ∙ ap (λ (x : Node). Some (client.Hears x m)) (named_again p.message.from)

    client_told : (a : ClientAt) → at_number w.clients k ≡ Some a → a.stopped ≡ false → (m : Option ClientMessage)
        → for_client p.message ≡ m → IsTold h (told_delivered n (client_takes v k a p.message.from m))
    client_told a at awake None is = stays a at (reads a awake None is) delivery.Taken
    client_told a at awake (Some m) is =
        let i : client.Input = client.Hears p.message.from m in
        let becomes : read.hears (shown p) a ≡ went a i (client.step a.state i) =
        reads a awake (Some m) is ∙ ap (λ (x : Node). read.goes (client.Hears x m) a) (named_again p.message.from) in
        line_told h (line.Delivered n delivery.Taken) (acted (client_goes v k a i)) tt
        (goes_told v k a i (h ++ line.Delivered n delivery.Taken ∷ [])
        (delivered delivery.Taken (with_client v k (went a i (client.step a.state i))) refl
        (λ c. for_it c ∙ one_changed w k c (read.hears (shown p)) a _ at becomes))
        (call_seen k h).last
        (last_is k h (line.Delivered n delivery.Taken) a i ((r k).client ∙ at)
        (ap (sent_input k a) (there k) ∙ comes a awake m is)))

    client_awake : (a : ClientAt) → at_number w.clients k ≡ Some a → (b : Bool) → a.stopped ≡ b
        → IsTold h (told_delivered n (if b then quiet v delivery.Deaf
        else client_takes v k a p.message.from (for_client p.message)))
    client_awake a at true stopped =
        stays a at (ap (λ (b : Bool). if b then a else hears_read a (party_of p.message.from)
        (client_bytes.message_in (node_of (party_of p.message.from)) (spelled p.message.body))) stopped) delivery.Deaf
    client_awake a at false awake = client_told a at awake (for_client p.message) refl

    client_heard : (o : Option ClientAt) → at_number w.clients k ≡ o
        → IsTold h (told_delivered n (client_hears v k p.message o))
    client_heard None none =
        hand_told (quiet v delivery.Deaf) refl refl none_still
        (λ c. for_it c ∙ none_changed w k c (read.hears (shown p)) none)
    client_heard (Some a) at = client_awake a at a.stopped refl

  handed_told : (chosen : List ℕ) (to : Node) → p.message.to ≡ to
      → IsTold h (told_delivered n (handed_to v chosen p.message to))
  handed_told chosen node.Server to = server_heard chosen to w.down
  handed_told chosen (node.Drive d) to = drive_heard d to (at_number w.drives d)
  handed_told chosen (node.Client k) to = client_heard k to (at_number w.clients k) refl

found_told : (w : World) (h : List Line) (chosen : List ℕ) (n : ℕ) (o : Option Posted) → AreSeen w h
    → slice_get w.network.messages n ≡ o → IsTold h (delivers_found w chosen n o)
found_told w h chosen n None r none = still_told w h _ r (record { messages = refl; clients = refl; told = none_still })
found_told w h chosen n (Some p) r found = handed_told w h r n p found chosen p.message.to refl

delivered_told : (w : World) (h : List Line) (chosen : List ℕ) (n : ℕ) → AreSeen w h → IsTold h (delivers w chosen n)
unfolding delivers
delivered_told w h chosen n r = found_told w h chosen n (slice_get w.network.messages n) r refl

-- ---- the server, and drives

gives_act : (w : World) (chosen : List ℕ) (i : server.Input) → IsStillAct w (gives w chosen i)
unfolding gives
gives_act w chosen i =
    record { messages = refl; clients = refl; told = notes_still (server.step w.server chosen i).notes }

down_act : (w : World) (down : Bool) (chosen : List ℕ) (i : server.Input) → IsStillAct w (gives (with_down w down) chosen i)
down_act w down chosen i =
    let q = gives_act (with_down w down) chosen i in record { messages = q.messages; clients = q.clients; told = q.told }

nothing : (w : World) → IsStillAct w (changed w)
nothing w = record { messages = refl; clients = refl; told = none_still }

either_act : (w : World) (b : Bool) (x y : Act) → IsStillAct w x → IsStillAct w y → IsStillAct w (if b then x else y)
either_act w true x y p q = p
either_act w false x y p q = q

made_act : (w : World) (f : ℕ) (t : Result ServerStep server_rules.Refusal) → IsStillAct w (made_file w f t)
made_act w f (Ok s) = record { messages = refl; clients = refl; told = notes_still s.notes }
made_act w f (Err e) = record { messages = refl; clients = refl; told = noted_still f _ }

makes_act : (w : World) (chosen : List ℕ) (f : ℕ) (m : server_rules.RawMap) (tag : ℕ) (zoned : Bool)
    → IsStillAct w (makes w chosen f m tag zoned)
unfolding makes
makes_act w chosen f m tag zoned =
    either_act w (has_algorithm m) _ _ (made_act w f (create_file w.server f m tag zoned chosen))
    (record { messages = refl; clients = refl; told = noted_still f _ })

adds_act : (w : World) (d : ℕ) (key : List ℕ) (capacity : ℕ) (stored : Bool)
    → IsStillAct w (adds_drive w d key capacity stored)
adds_act w d key capacity stored = either (knows_drive w.server d)
  where
    new : World
    new = and_drive w d (made_drive d key capacity stored)

    either : (b : Bool) → IsStillAct w (if b then changed (and_drive w d (made_drive d key capacity stored))
        else gives (and_drive w d (made_drive d key capacity stored)) [] (server.Adds (known_drive d key capacity)))
    either true = record { messages = refl; clients = refl; told = none_still }
    either false =
        let q = gives_act (and_drive w d (made_drive d key capacity stored)) [] (server.Adds (known_drive d key capacity)) in
        record { messages = q.messages; clients = q.clients; told = q.told }

turned_act : (w : World) (d : ℕ) (f : DriveAt → DriveAt) → IsStillAct w (changed (at_drive w d f))
turned_act w d f = by_found (at_number w.drives d)
  where
    by_found : (o : Option DriveAt) → IsStillAct w (changed (by_drive w d f o))
    by_found None = nothing w
    by_found (Some a) = record { messages = refl; clients = refl; told = none_still }

judged_still : (d : ℕ) (v : _) → AreStill (line.Judged d v ∷ [])
judged_still d v = record { folds = λ c s. refl; says = λ before. (tt, tt) }

injects_act : (w : World) (d : ℕ) (bytes : List ℕ) → IsStillAct w (injects w d bytes)
unfolding injects
injects_act w d bytes = by_found (at_number w.drives d)
  where
    by_found : (o : Option DriveAt) → IsStillAct w (injects_at w d bytes o)
    by_found None = nothing w
    by_found (Some a) = record { messages = refl; clients = refl; told = judged_still d _ }

-- a message is left out
dropped_told : (w : World) (h : List Line) (n : ℕ) → AreSeen w h
    → IsTold (h ++ line.Event (event.DropMessage n) ∷ []) (changed (drops_found w n (slice_get w.network.messages n)))
dropped_told w h n r =
    still_told v _ _ (λ c.
    let seen = ap (λ (s : CallSeen). s.seen) (seen_more c h (line.Event (event.DropMessage n) ∷ [])) in
    record {
      sent =
          ap (λ (s : ClientSeen). s.sent) seen ∙ ap (λ (ss : List Sent). changed_at ss n left_out) (r c).sent
          ∙ drops_view w n (slice_get w.network.messages n) refl;
      client =
          ap (λ (s : ClientSeen). s.client) seen ∙ (r c).client
          ∙ ap (λ (xs : List (ℕ × ClientAt)). at_number xs c) (sym (same_clients (slice_get w.network.messages n)));
    })
    (record { messages = refl; clients = refl; told = none_still })
  where
    v : World
    v = drops_found w n (slice_get w.network.messages n)

    same_clients : (o : Option Posted) → (drops_found w n o).clients ≡ w.clients
    same_clients None = refl
    same_clients (Some p) = refl

-- ---- what an event begins with

begins_told : (w : World) (h : List Line) (e : Event) (chosen : List ℕ) → AreSeen w h
    → IsTold (h ++ line.Event e ∷ []) (begins w chosen e)
unfolding begins calls_at resends leaves
begins_told w h (event.Client k) chosen r = comes_told w h r k
begins_told w h (event.Do k x) chosen r =
    called_told w h r (event.Do k x) k (op_of x) (λ c s o. refl) (λ c a. refl) (at_number w.clients k) refl
begins_told w h (event.Call k x) chosen r =
    called_told w h r (event.Call k x) k (op_of x) (λ c s o. refl) (λ c a. refl) (at_number w.clients k) refl
begins_told w h (event.Resend (sender.Client k)) chosen r = resends_told w h r k (at_number w.clients k) refl
begins_told w h (event.Leave k) chosen r = leaves_told w h r k (at_number w.clients k) refl
begins_told w h (event.Stop k) chosen r = stops_told w h r k (at_number w.clients k) refl
begins_told w h (event.DropMessage n) chosen r = dropped_told w h n r
begins_told w h (event.Deliver n) chosen r =
    delivered_told w _ chosen n (plain_line w h (line.Event (event.Deliver n)) r (λ c s. refl))
begins_told w h (event.Timeout k j) chosen r =
    times_out_told w _ (plain_line w h (line.Event (event.Timeout k j)) r (λ c s. refl)) k j
begins_told w h (event.Drive d key capacity) chosen r =
    still_told w _ _ (plain_line w h (line.Event (event.Drive d key capacity)) r (λ c s. refl)) (adds_act w d key capacity false)
begins_told w h (event.Disk d key capacity) chosen r =
    still_told w _ _ (plain_line w h (line.Event (event.Disk d key capacity)) r (λ c s. refl)) (adds_act w d key capacity true)
begins_told w h (event.File f m tag) chosen r =
    still_told w _ _ (plain_line w h (line.Event (event.File f m tag)) r (λ c s. refl))
    (makes_act w chosen f (raw_of m) tag false)
begins_told w h (event.ZonedFile f m tag) chosen r =
    still_told w _ _ (plain_line w h (line.Event (event.ZonedFile f m tag)) r (λ c s. refl))
    (makes_act w chosen f (raw_of m) tag true)
begins_told w h (event.Zone d zone) chosen r =
    still_told w _ _ (plain_line w h (line.Event (event.Zone d zone)) r (λ c s. refl)) (gives_act w chosen (server.Zones d zone))
begins_told w h (event.Least d format) chosen r =
    still_told w _ _ (plain_line w h (line.Event (event.Least d format)) r (λ c s. refl))
    (turned_act w d (λ a. raised a format))
begins_told w h (event.Format format) chosen r =
    still_told w _ _ (plain_line w h (line.Event (event.Format format)) r (λ c s. refl))
    (gives_act w chosen (server.Formats format))
begins_told w h event.Settle chosen r = still_told w _ _ (plain_line w h (line.Event event.Settle) r (λ c s. refl)) (nothing w)
begins_told w h (event.Resend sender.Server) chosen r =
    still_told w _ _ (plain_line w h (line.Event (event.Resend sender.Server)) r (λ c s. refl))
    (gives_act w chosen server.Resends)
begins_told w h (event.Inject d bytes) chosen r =
    still_told w _ _ (plain_line w h (line.Event (event.Inject d bytes)) r (λ c s. refl)) (injects_act w d bytes)
begins_told w h (event.Clock (machine.Drive d) time) chosen r =
    still_told w _ _ (plain_line w h (line.Event (event.Clock (machine.Drive d) time)) r (λ c s. refl))
    (turned_act w d (λ a. at_time a time))
begins_told w h (event.Clock machine.Server time) chosen r =
    still_told w _ _ (plain_line w h (line.Event (event.Clock machine.Server time)) r (λ c s. refl))
    (record { messages = refl; clients = refl; told = none_still })
begins_told w h (event.Recall f) chosen r =
    still_told w _ _ (plain_line w h (line.Event (event.Recall f)) r (λ c s. refl))
    (gives_act w chosen (server.Obeys server_rules.ToRecall f))
begins_told w h (event.Revoke f) chosen r =
    still_told w _ _ (plain_line w h (line.Event (event.Revoke f)) r (λ c s. refl))
    (gives_act w chosen (server.Obeys server_rules.ToRevoke f))
begins_told w h (event.Rebuild f) chosen r =
    still_told w _ _ (plain_line w h (line.Event (event.Rebuild f)) r (λ c s. refl))
    (gives_act w chosen (server.Obeys server_rules.ToRebuild f))
begins_told w h (event.Audit f) chosen r =
    still_told w _ _ (plain_line w h (line.Event (event.Audit f)) r (λ c s. refl))
    (gives_act w chosen (server.Obeys server_rules.ToAudit f))
begins_told w h (event.Declare d) chosen r =
    still_told w _ _ (plain_line w h (line.Event (event.Declare d)) r (λ c s. refl))
    (gives_act w chosen (server.Obeys server_rules.ToDeclare d))
begins_told w h (event.Fail d) chosen r =
    still_told w _ _ (plain_line w h (line.Event (event.Fail d)) r (λ c s. refl)) (turned_act w d fallen)
begins_told w h (event.Crash (machine.Drive d)) chosen r =
    still_told w _ _ (plain_line w h (line.Event (event.Crash (machine.Drive d))) r (λ c s. refl)) (turned_act w d crashed)
begins_told w h (event.Crash machine.Server) chosen r =
    still_told w _ _ (plain_line w h (line.Event (event.Crash machine.Server)) r (λ c s. refl))
    (down_act w true chosen server.Crashes)
begins_told w h (event.Reopen (machine.Drive d)) chosen r =
    still_told w _ _ (plain_line w h (line.Event (event.Reopen (machine.Drive d))) r (λ c s. refl)) (turned_act w d reopened)
begins_told w h (event.Reopen machine.Server) chosen r =
    still_told w _ _ (plain_line w h (line.Event (event.Reopen machine.Server)) r (λ c s. refl))
    (down_act w false chosen server.Opens)

-- ---- all histories

record IsRead (w : World) (h : List Line) : Type 0 where
  clients : AreSeen w h
  lines : EachBehind CausedAt [] h

acts_told : (w : World) (h : List Line) (chosen : List ℕ) (rule : Rule) (action : Action) → AreSeen w h
    → due_by w rule ≡ Some action → IsTold h (acts w chosen action)
acts_told w h chosen rule (Delivers n) r due = delivered_told w h chosen n r
acts_told w h chosen rule (TimesOut k j) r due = times_out_told w h r k j
acts_told w h chosen rule (Pends k) r due = pends_told w h r k
acts_told w h chosen rule (Opens e) r due = absurd (never_opens w rule e due)

read_on : (a : Act) (before : List Line) → EachBehind CausedAt [] before → IsTold before a
    → IsRead (sends_all a).world (before ++ (sends_all a).lines)
read_on a before lines t = record {
  clients = told_seen before a t;
  lines = each_more CausedAt [] before (sends_all a).lines lines t.says;
}

kept : IsKept IsRead
kept = record {
  starts = record { clients = λ c. record { sent = refl; client = refl }; lines = tt };
  opens =
      λ w h e chosen r allowed. subst (IsRead (move w (opening e chosen)).world)
      (append_assoc h (line.Event e ∷ []) (move w (opening e chosen)).lines)
      (read_on (begins w chosen e) (h ++ line.Event e ∷ []) (each_more CausedAt [] h (line.Event e ∷ []) r.lines (tt, tt))
      (begins_told w h e chosen r.clients));
  moves = λ w h rule m r due.
      read_on (acts w m.chosen m.action) h r.lines (acts_told w h m.chosen rule m.action r.clients due);
}

-- what is read of a client, without its call
same_seen : (c : ℕ) (s : CallSeen) (h : List Line) → (fold (sees_call c) s h).seen ≡ fold (sees_client c) s.seen h
same_seen c s [] = refl
same_seen c s (l ∷ h) = same_seen c (sees_call c s l) h

pub clients_are_read : ClientsAreRead
clients_are_read w h s c =
    ap (λ (x : ClientSeen). x.client) (sym (same_seen c _ h)) ∙ ((stands IsRead kept w h s).clients c).client

-- so they are at each moment
pub clients_at : (w : World) (h : List Line) → IsMoment w h → (c : ℕ) → client_after h c ≡ at_number w.clients c
clients_at w h k c =
    ap (λ (x : ClientSeen). x.client) (sym (same_seen c _ h)) ∙ ((at_moment IsRead kept w h k).clients c).client

pub ends_are_caused : EndsAreCaused
ends_are_caused h l =
    let further = lawful IsRead kept h l in
    at_each_line CausedAt h (each_front CausedAt [] h further.1 further.2.lines)
