-- The steps of the server, but for the making of files.
use Rattle.std.proofs.Common.{◌≡◌, ℕ, Bool, true, false, cond, List, [], ◌∷◌, ◌++◌, Option, Some, None, Result, map, refl, sym, ap, subst, ◌∙◌}
use Rattle.std.specs.Prelude.{slice_get, slice_set, not, ◌&&◌, ◌==◌, nat_eq, filter, find, is_some, is_none, if◌then◌else◌}
use Rattle.std.specs.List.{filter_map, list_any}
use Rattle.std.proofs.lemmas.List.{append-nil}
use Rattle.osd_lists.specs.declared.node.Node.{Node}
use Rattle.osd_lists.specs.declared.node.Node.TheVariants as node
use Rattle.server_rules.specs.Files.{Step as ServerStep, file_at, still}
use Rattle.server_rules.specs.Messages.{Message as ServerMessage, counters_have_room, resend}
use Rattle.server_rules.specs.Openings.{crash, reopen}
use Rattle.server_rules.specs.Orders.{ordered}
use Rattle.server_rules.specs.Making.{add_drive, set_format}
use Rattle.server_rules.specs.Envelopes as server_bytes
use Rattle.server_rules.specs.History as server
use Rattle.scenario_text.specs.declared.event.Event.{Event}
use Rattle.scenario_text.specs.declared.event.Event.TheVariants as event
use Rattle.scenario_text.specs.declared.event.Machine.TheVariants as machine
use Rattle.scenario_text.specs.declared.event.Sender.TheVariants as sender
use Rattle.scenario_text.specs.declared.line.Delivery.TheVariants as delivery
use Rattle.scenario_text.specs.declared.line.Line.{Line}
use Rattle.scenario_text.specs.declared.line.Line.TheVariants as line
use Rattle.world_history.specs.ServerNames.{Server, File, Drive, Order, OrderKind, ToRecall, ToRevoke, ToDeclare, ToRebuild, ToAudit, Outgoing}
use Rattle.world_history.specs.declared.messages.Message.{Message}
use Rattle.world_history.specs.declared.messages.Posted.{Posted}
use Rattle.world_history.specs.State.{World, DriveAt, at_number, and_drive, with_down}
use Rattle.world_history.specs.Spelled.{spelled}
use Rattle.world_history.specs.Drives.{made_drive}
use Rattle.world_history.specs.Names.{is_named}
use Rattle.world_history.specs.Handed.{Handed, Post, is_addressed, server_post, server_did, server_takes, for_server}
use Rattle.world_history.specs.Moves.{Act, acted, changed, begins, delivers, gives, adds_drive, known_drive, knows_drive, marked, told_delivered}
use Rattle.world_history.specs.Plans.{Alone, rule_of}
use Rattle.world_history.specs.Refusals.{refusal, of_message, of_served_file, first_of}
use Rattle.world_history.specs.declared.err.WorldErr.{WorldErr}
use Rattle.world_history.specs.History.{StandsFor}
use Rattle.history_law.specs.Said.{said, posted}
use Rattle.history_law.proofs.Moves.{said_marked}
use Rattle.cluster_history.specs.State.{DriveHere, Cluster}
use Rattle.cluster_history.specs.Steps.{Step, May, IsGone, IsTrueOrder, Knows, Raises, Hears, Obeys, Passes, Resends, Crashes, Opens}
use Rattle.cluster_history.specs.Deeds.{Deed, rests, changes, for_somebody, server_message, served, hears, order_event, has_target, obeys, fresh_drive}
use Rattle.cluster_history.specs.History.{message_lines, lines_of, sending, deed, after, told}
use Rattle.cluster_history.specs.Like.{drive_of, cluster_of, each_as, AreStored, LeadsTo}
use Rattle.cluster_history.proofs.Lists.{more_as, absent_from}
use Rattle.cluster_history.proofs.Worlds.{IsDone, event_goes, event_changes, behind_line, by_deed}
use Rattle.cluster_history.proofs.Kept.{more_stored, DriveThere, drive_there, MessageThere, message_there, not_true, not_false}

-- ---- what it sends

one_posted : (b : Bool) (p : Post) (ps : List Post) (ms : List Message) → posted (filter is_addressed ps) ≡ for_somebody ms
    → is_addressed p ≡ b → posted (filter is_addressed (p ∷ ps)) ≡ for_somebody (p.message ∷ ms)
one_posted true p ps ms rest is = rw is (ap (λ (l : List Message). p.message ∷ l) rest)
one_posted false p ps ms rest is = rw is rest

pub server_posted : (os : List Outgoing)
    → posted (filter is_addressed (map server_post os)) ≡ for_somebody (map server_message os)
server_posted [] = refl
server_posted (o ∷ os) =
    one_posted (is_named (server_bytes.receiver o)) (server_post o) (map server_post os) (map server_message os)
    (server_posted os) refl

-- ---- a step of it

-- The server's step behind an event, and perhaps a line more, where only marks, the clock and whether it is down were set
-- before.
module _ (w : World) (h : List Line) (s : StandsFor w h) (stored : AreStored w.drives) (ms : List Posted)
    (same : said ms ≡ said w.network.messages) (down : Bool) (x : ServerStep) (e : Event) (front : List Line) where
  abbrev v : World
  v = record w { network = record w.network { messages = ms }; down = down }

  abbrev did : Handed
  did = server_did v x

  abbrev act : Act
  act = record { world = did.world; told = front ++ did.told; posts = did.posts }

  abbrev done : Deed
  done = served (record (cluster_of w) { up = not down }) (line.Event e ∷ front) x

  step_done : IsDone done e act
  step_done = record {
    same = ap (λ (l : List Message). record done.cluster { sent = l }) same;
    stored = stored;
    lines = refl;
    gives = server_posted x.sends;
    behind = refl;
  }

  pub step_goes : (chosen : List ℕ) → refusal w e ≡ None → rule_of w e ≡ Alone → begins w chosen e ≡ act
      → LeadsTo (h ++ lines_of done) (sending done)
  step_goes chosen allowed alone is =
      event_goes w h e chosen s allowed alone done (subst (λ (y : Act). IsDone done e y) (sym is) step_done)

-- ---- nothing happens

rests_goes : (w : World) (h : List Line) → StandsFor w h → AreStored w.drives
    → LeadsTo (h ++ lines_of (rests (cluster_of w))) (sending (rests (cluster_of w)))
unfolding message_lines
rests_goes w h s stored = record {
  world = w;
  stands = subst (λ (l : List Line). StandsFor w l) (sym (append-nil h)) s;
  like = record {
    same = ap (λ (l : List Message). record (cluster_of w) { sent = l }) (sym (append-nil (cluster_of w).sent));
    stored = stored;
  };
}

-- ---- behind its clock

module _ (w : World) (h : List Line) (s : StandsFor w h) (stored : AreStored w.drives) (up : w.down ≡ false) (time : ℕ)
    (chosen : List ℕ) where
  abbrev later : World
  later = record w { clock = time }

  abbrev clock : Line
  clock = line.Event (event.Clock machine.Server time)

  timed : StandsFor later (h ++ clock ∷ [])
  unfolding refusal rule_of begins
  timed = event_changes w h (event.Clock machine.Server time) s (rw up refl) refl later refl

  -- a message
  module _ (n : ℕ) (p : Posted) (there : slice_get w.network.messages n ≡ Some p) (to : p.message.to ≡ node.Server) where
    abbrev marks : List Posted
    marks = slice_set w.network.messages n (record p { delivered = true })

    marks_same : said marks ≡ said w.network.messages
    marks_same = said_marked w.network.messages n p (record p { delivered = true }) there refl

    abbrev heard : Option ServerMessage → ServerStep
    heard m = server_bytes.on_message_in w.server time chosen p.message.from m

    hears_act : delivers later chosen n
        ≡ told_delivered n (server_takes (marked later n p) chosen p.message.from (for_server p.message))
    unfolding delivers
    hears_act = rw (there, to, up) refl

    as_step : (m : Option ServerMessage) → told_delivered n (server_takes (marked later n p) chosen p.message.from m)
        ≡ act later (h ++ clock ∷ []) timed stored marks marks_same w.down (heard m) (event.Deliver n)
        (line.Delivered n delivery.Taken ∷ [])
    as_step None = refl
    as_step (Some m) = refl

    hears_begins : begins later chosen (event.Deliver n)
        ≡ act later (h ++ clock ∷ []) timed stored marks marks_same w.down (heard (for_server p.message)) (event.Deliver n)
        (line.Delivered n delivery.Taken ∷ [])
    unfolding begins
    hears_begins = hears_act ∙ as_step (for_server p.message)

    abbrev heard_here : Deed
    heard_here = hears (cluster_of w) time chosen n (Some p.message)

    hears_goes : of_message w n ≡ None → LeadsTo (h ++ lines_of heard_here) (sending heard_here)
    unfolding refusal rule_of
    hears_goes allowed =
        behind_line h clock
        (done later (h ++ clock ∷ []) timed stored marks marks_same w.down (heard (for_server p.message)) (event.Deliver n)
        (line.Delivered n delivery.Taken ∷ []))
        (step_goes later (h ++ clock ∷ []) timed stored marks marks_same w.down (heard (for_server p.message))
        (event.Deliver n) (line.Delivered n delivery.Taken ∷ []) chosen allowed refl hears_begins)

  -- an order
  lacks_none : (o : Option File) → is_some o ≡ true → is_none o ≡ false
  lacks_none None e = absurd (cc e)
  lacks_none (Some f) e = refl

  file_allowed : (f : ℕ) → is_some (file_at w.server.files f) ≡ true → of_served_file later f ≡ None
  file_allowed f e = let there : is_none (file_at w.server.files f) ≡ false = lacks_none (file_at w.server.files f) e in
      rw (there, up) refl

  order_allowed : (k : OrderKind) (n : ℕ) → has_target w.server k n ≡ true → IsTrueOrder (cluster_of w) k n
      → refusal later (order_event k n) ≡ None
  unfolding refusal
  order_allowed ToRecall f e t = file_allowed f e
  order_allowed ToRevoke f e t = file_allowed f e
  order_allowed ToRebuild f e t = file_allowed f e
  order_allowed ToAudit f e t = file_allowed f e
  order_allowed ToDeclare d e t =
      let gone : IsGone (cluster_of w) d = t e in
      let a : DriveThere w d gone.here = drive_there w d gone.here gone.found in
      let failed : a.at.failed ≡ true = ap (λ (x : DriveHere). x.lost) a.same ∙ gone.gone in
      rw (a.found, failed, up) refl

  order_alone : (k : OrderKind) (n : ℕ) → rule_of later (order_event k n) ≡ Alone
  unfolding rule_of
  order_alone ToRecall f = refl
  order_alone ToRevoke f = refl
  order_alone ToRebuild f = refl
  order_alone ToAudit f = refl
  order_alone ToDeclare d = refl

  order_begins : (k : OrderKind) (n : ℕ) → begins later chosen (order_event k n)
      ≡ acted (server_did later (ordered w.server chosen k n).step)
  unfolding begins gives
  order_begins ToRecall f = refl
  order_begins ToRevoke f = refl
  order_begins ToRebuild f = refl
  order_begins ToAudit f = refl
  order_begins ToDeclare d = refl

  abbrev carried : Order → Deed
  carried o =
      served (cluster_of w) (clock ∷ line.Event (order_event o.order o.target) ∷ [])
      (ordered w.server chosen o.order o.target).step

  carried_goes : (o : Order) → has_target w.server o.order o.target ≡ true → IsTrueOrder (cluster_of w) o.order o.target
      → LeadsTo (h ++ lines_of (carried o)) (sending (carried o))
  carried_goes o e t =
      behind_line h clock
      (done later (h ++ clock ∷ []) timed stored w.network.messages refl w.down (ordered w.server chosen o.order o.target).step
      (order_event o.order o.target) [])
      (step_goes later (h ++ clock ∷ []) timed stored w.network.messages refl w.down
      (ordered w.server chosen o.order o.target).step (order_event o.order o.target) [] chosen
      (order_allowed o.order o.target e t) (order_alone o.order o.target) (order_begins o.order o.target))

  both_true : (a b : Bool) → (a && b) ≡ true → b ≡ true
  both_true true b e = e
  both_true false b e = absurd (cc e)

  abbrev obeyed_if : Order → Bool → Deed
  obeyed_if o b = if b then carried o else rests (cluster_of w)

  obeys_if : (o : Order) (b : Bool) → (counters_have_room w.server && has_target w.server o.order o.target) ≡ b
      → IsTrueOrder (cluster_of w) o.order o.target → LeadsTo (h ++ lines_of (obeyed_if o b)) (sending (obeyed_if o b))
  obeys_if o true e t = carried_goes o (both_true (counters_have_room w.server) (has_target w.server o.order o.target) e) t
  obeys_if o false e t = rests_goes w h s stored

-- ---- each step

module _ (w : World) (h : List Line) (s : StandsFor w h) (stored : AreStored w.drives) where
  -- a step of the cluster that the world shows leads on
  abbrev GoesOn : Step → Type 0
  GoesOn x = May (cluster_of w) x → LeadsTo (h ++ told (cluster_of w) x) (after (cluster_of w) x)

  pub is_heard : (time : ℕ) (chosen : List ℕ) (n : ℕ) → GoesOn (Hears time chosen n)
  unfolding deed
  is_heard time chosen n m =
      let p : MessageThere w n node.Server = message_there w n node.Server m.1 in
      by_deed h (cluster_of w) (Hears time chosen n) (hears (cluster_of w) time chosen n (Some p.posted.message))
      (rw p.shown refl)
      (hears_goes w h s stored (not_true w.down m.0) time chosen n p.posted p.found p.receiver p.allowed)

  pub is_obeyed : (time : ℕ) (chosen : List ℕ) (o : Order) → GoesOn (Obeys time chosen o)
  unfolding deed
  is_obeyed time chosen o m =
      obeys_if w h s stored (not_true w.down m.0) time chosen o
      (counters_have_room w.server && has_target w.server o.order o.target) refl m.1

  pub passes : (time : ℕ) (chosen : List ℕ) (from : Node) (bytes : List ℕ) → GoesOn (Passes time chosen from bytes)
  unfolding deed
  passes time chosen from bytes m = rests_goes w h s stored

  pub sends_again : GoesOn Resends
  unfolding deed refusal rule_of begins gives
  sends_again up =
      let awake : w.down ≡ false = not_true w.down up in
      step_goes w h s stored w.network.messages refl w.down (record (still w.server) { sends = resend w.server })
      (event.Resend sender.Server) [] [] (rw awake refl) refl refl

  pub raises : (format : ℕ) → GoesOn (Raises format)
  unfolding deed refusal rule_of begins gives
  raises format up =
      let awake : w.down ≡ false = not_true w.down up in
      step_goes w h s stored w.network.messages refl w.down (still (set_format w.server format)) (event.Format format) [] []
      (rw awake refl) refl refl

  pub crashes : GoesOn Crashes
  unfolding deed refusal rule_of begins gives
  crashes up =
      let awake : w.down ≡ false = not_true w.down up in
      step_goes w h s stored w.network.messages refl true (still (crash w.server)) (event.Crash machine.Server) [] []
      (rw awake refl) refl refl

  pub opens : GoesOn Opens
  unfolding deed refusal rule_of begins gives
  opens up =
      let asleep : w.down ≡ true = not_false w.down up in
      step_goes w h s stored w.network.messages refl false (reopen w.server) (event.Reopen machine.Server) [] []
      (rw asleep refl) refl refl

  -- ---- a drive more

  new_allowed : (o : Option DriveAt) (b : Bool) (e f : WorldErr) → o ≡ None → b ≡ false
      → first_of (if is_some o then Some e else None) (if b then Some f else None) ≡ None
  new_allowed None false e f n d = refl
  new_allowed None true e f n d = absurd (cc d)
  new_allowed (Some a) b e f n d = absurd (cc n)

  knows_done : (d : ℕ) (key : List ℕ) (capacity : ℕ)
      → IsDone (deed (cluster_of w) (Knows d key capacity)) (event.Disk d key capacity)
      (gives (and_drive w d (made_drive d key capacity true)) [] (server.Adds (known_drive d key capacity)))
  unfolding deed gives
  knows_done d key capacity = record {
    same =
        ap (λ (l : List (ℕ × DriveHere)). record (deed (cluster_of w) (Knows d key capacity)).cluster { drives = l })
        (more_as drive_of w.drives d (made_drive d key capacity true));
    stored = more_stored w.drives d (made_drive d key capacity true) stored refl;
    lines = refl;
    gives = refl;
    behind = refl;
  }

  if_new : (b : Bool) (x y : Act) → b ≡ false → (if b then x else y) ≡ y
  if_new true x y e = absurd (cc e)
  if_new false x y e = refl

  pub knows : (d : ℕ) (key : List ℕ) (capacity : ℕ) → GoesOn (Knows d key capacity)
  unfolding refusal rule_of begins
  knows d key capacity m =
      let absent : at_number w.drives d ≡ None = absent_from drive_of w.drives d m.1.absent in
      event_goes w h (event.Disk d key capacity) [] s
      (new_allowed (at_number w.drives d) w.down _ _ absent (not_true w.down m.0)) refl
      (deed (cluster_of w) (Knows d key capacity))
      (subst (λ (x : Act). IsDone (deed (cluster_of w) (Knows d key capacity)) (event.Disk d key capacity) x)
      (sym (if_new (knows_drive w.server d) _ _ m.1.unknown)) (knows_done d key capacity))
