-- The steps of drives.
use Rattle.std.proofs.Common.{◌≡◌, ℕ, Bool, true, false, List, [], ◌∷◌, ◌++◌, Option, Some, None, Result, refl, sym, ap, subst, ◌∙◌, append_assoc}
use Rattle.std.specs.Prelude.{slice_get, slice_set, not, ◌||◌, if◌then◌else◌}
use Rattle.osd_lists.specs.declared.node.Node.TheVariants as node
use Rattle.osd_commands.specs.declared.commands.Command.{Command}
use Rattle.osd_commands.specs.declared.commands.CommandErr.{CommandErr}
use Rattle.osd_commands.specs.Commands as commands
use Rattle.scenario_text.specs.declared.event.Event.{Event}
use Rattle.scenario_text.specs.declared.event.Event.TheVariants as event
use Rattle.scenario_text.specs.declared.event.Machine.TheVariants as machine
use Rattle.scenario_text.specs.declared.line.Line.{Line}
use Rattle.scenario_text.specs.declared.line.Line.TheVariants as line
use Rattle.world_history.specs.declared.messages.Message.{Message}
use Rattle.world_history.specs.declared.messages.Posted.{Posted}
use Rattle.world_history.specs.State.{World, DriveAt, at_number, with_number, with_drive}
use Rattle.world_history.specs.Drives as world_drive
use Rattle.world_history.specs.Drives.{Judged, judges, command_in, at_time, is_deaf}
use Rattle.world_history.specs.Handed.{drive_replies}
use Rattle.world_history.specs.Moves.{Act, changed, begins, delivers, injects, judged_at, marked, told_delivered}
use Rattle.world_history.specs.Plans.{Alone, rule_of}
use Rattle.world_history.specs.Refusals.{refusal, of_message}
use Rattle.world_history.specs.declared.err.WorldErr.{WorldErr}
use Rattle.world_history.specs.History.{StandsFor}
use Rattle.history_law.specs.Said.{said}
use Rattle.history_law.proofs.Moves.{said_marked}
use Rattle.cluster_history.specs.State.{DriveHere, Cluster}
use Rattle.cluster_history.specs.Steps.{Step, May, Takes, IsHit, Falls, Rises, IsLost}
use Rattle.cluster_history.specs.Deeds.{Deed, drive_behind, takes_found, hit_found, turned, fallen, risen, lost}
use Rattle.cluster_history.specs.History.{lines_of, sending, deed, after, told}
use Rattle.cluster_history.specs.Like.{drive_of, cluster_of, each_as, AreStored, LeadsTo}
use Rattle.cluster_history.proofs.Lists.{put_as, same_as, put_found, put_twice}
use Rattle.cluster_history.proofs.Worlds.{IsDone, event_goes, event_changes, behind_line, by_deed}
use Rattle.cluster_history.proofs.Kept.{found_stored, put_stored, DriveThere, drive_there, MessageThere, message_there, not_true, not_false}

-- a drive that is neither lost nor down hears
hears_all : (failed down : Bool) → failed ≡ false → down ≡ false → (failed || down) ≡ false
hears_all false false f d = refl
hears_all false true f d = absurd (cc d)
hears_all true down f d = absurd (cc f)

module _ (w : World) (h : List Line) (s : StandsFor w h) (stored : AreStored w.drives) (d : ℕ) where
  -- ---- its clock

  timed : (time : ℕ) (a : DriveAt) → at_number w.drives d ≡ Some a → a.failed ≡ false
      → StandsFor (with_drive w d (at_time a time)) (h ++ line.Event (event.Clock (machine.Drive d) time) ∷ [])
  unfolding refusal rule_of begins
  timed time a found alive =
      event_changes w h (event.Clock (machine.Drive d) time) s (rw (found, alive) refl) refl
      (with_drive w d (at_time a time)) (rw found refl)

  -- ---- a message

  module _ (time n : ℕ) (a : DriveAt) (found : at_number w.drives d ≡ Some a) (alive : a.failed ≡ false)
      (up : a.down ≡ false) where
    abbrev v : World
    v = with_drive w d (at_time a time)

    found_then : at_number v.drives d ≡ Some (at_time a time)
    found_then = put_found w.drives d a (at_time a time) found

    abbrev judged : Result Command CommandErr → Judged
    judged r = judges (at_time a time) r

    is_stored : a.stored ≡ true
    is_stored = found_stored w.drives d a stored found

    judged_same : (r : Result Command CommandErr)
        → each_as drive_of (with_number v.drives d (judged r).drive)
        ≡ with_number (each_as drive_of w.drives) d (drive_behind (drive_of a) time r)
    unfolding judges
    judged_same r =
        ap (λ (l : List (ℕ × DriveAt)). each_as drive_of l) (put_twice w.drives d (at_time a time) (judged r).drive)
        ∙ put_as drive_of w.drives d (judged r).drive

    judged_stored : (r : Result Command CommandErr) → AreStored (with_number v.drives d (judged r).drive)
    unfolding judges
    judged_stored r = put_stored v.drives d (judged r).drive (put_stored w.drives d (at_time a time) stored is_stored) is_stored

    module _ (p : Posted) (there : slice_get w.network.messages n ≡ Some p) (to : p.message.to ≡ node.Drive d) where
      takes_act : delivers v [] n
          ≡ told_delivered n (drive_replies (marked v n p) d p.message.from (judged (command_in p.message.body)))
      unfolding delivers
      takes_act = rw (there, to, found_then, hears_all a.failed a.down alive up) refl

      marks_same : said (slice_set w.network.messages n (record p { delivered = true })) ≡ said w.network.messages
      marks_same = said_marked w.network.messages n p (record p { delivered = true }) there refl

      abbrev taken : Deed
      taken = takes_found (cluster_of w) d time n (Some (drive_of a)) (Some p.message)

      abbrev act : Act
      act = told_delivered n (drive_replies (marked v n p) d p.message.from (judged (command_in p.message.body)))

      abbrev behind_clock : Deed
      behind_clock = record taken { lines = line.Event (event.Deliver n) ∷ act.told }

      takes_done : IsDone behind_clock (event.Deliver n) act
      unfolding judges
      takes_done = record {
        same =
            ap (λ (l : List (ℕ × DriveHere)).
            record (cluster_of w) { drives = l; sent = said (slice_set w.network.messages n (record p { delivered = true })) })
            (judged_same (command_in p.message.body))
            ∙ ap (λ (l : List Message). record taken.cluster { sent = l }) marks_same;
        stored = judged_stored (command_in p.message.body);
        lines = refl;
        gives = refl;
        behind = refl;
      }

      pub takes_goes : of_message v n ≡ None → LeadsTo (h ++ lines_of taken) (sending taken)
      unfolding begins refusal rule_of judges
      takes_goes allowed =
          behind_line h (line.Event (event.Clock (machine.Drive d) time)) behind_clock
          (event_goes v (h ++ line.Event (event.Clock (machine.Drive d) time) ∷ []) (event.Deliver n) []
          (timed time a found alive) allowed refl behind_clock
          (subst (λ (x : Act). IsDone behind_clock (event.Deliver n) x) (sym takes_act) takes_done))

    -- ---- other bytes

    module _ (bytes : List ℕ) where
      abbrev hit : Deed
      hit = hit_found (cluster_of w) d time bytes (Some (drive_of a))

      abbrev hit_act : Act
      hit_act = judged_at v d (judged (commands.reading bytes))

      abbrev hit_then : Deed
      hit_then = record hit { lines = line.Event (event.Inject d bytes) ∷ hit_act.told }

      hit_begins : begins v [] (event.Inject d bytes) ≡ hit_act
      unfolding begins injects
      hit_begins = rw found_then refl

      hit_done : IsDone hit_then (event.Inject d bytes) hit_act
      unfolding judges
      hit_done = record {
        same =
            ap (λ (l : List (ℕ × DriveHere)). record (cluster_of w) { drives = l })
            (judged_same (commands.reading bytes));
        stored = judged_stored (commands.reading bytes);
        lines = refl;
        gives = refl;
        behind = refl;
      }

      hit_allowed : refusal v (event.Inject d bytes) ≡ None
      unfolding refusal
      hit_allowed = rw (found_then, alive, up) refl

      pub hit_goes : LeadsTo (h ++ lines_of hit) (sending hit)
      unfolding rule_of judges
      hit_goes =
          behind_line h (line.Event (event.Clock (machine.Drive d) time)) hit_then
          (event_goes v (h ++ line.Event (event.Clock (machine.Drive d) time) ∷ []) (event.Inject d bytes) []
          (timed time a found alive) hit_allowed refl hit_then
          (subst (λ (x : Act). IsDone hit_then (event.Inject d bytes) x) (sym hit_begins) hit_done))

  -- ---- an event makes something else of it

  module _ (a : DriveAt) (found : at_number w.drives d ≡ Some a) (e : Event) (f : DriveAt → DriveAt)
      (g : DriveHere → DriveHere) (same : drive_of (f a) ≡ g (drive_of a)) (keeps : (f a).stored ≡ a.stored) where
    turn_done : IsDone (turned (cluster_of w) d g e (Some (drive_of a))) e (changed (with_drive w d (f a)))
    turn_done = record {
      same =
          ap (λ (l : List (ℕ × DriveHere)). record (cluster_of w) { drives = l })
          (put_as drive_of w.drives d (f a)
          ∙ ap (λ (x : DriveHere). with_number (each_as drive_of w.drives) d x) same);
      stored = put_stored w.drives d (f a) stored (keeps ∙ found_stored w.drives d a stored found);
      lines = refl;
      gives = refl;
      behind = refl;
    }

    pub turn_goes : refusal w e ≡ None → rule_of w e ≡ Alone → begins w [] e ≡ changed (with_drive w d (f a))
        → LeadsTo (h ++ lines_of (turned (cluster_of w) d g e (Some (drive_of a))))
        (sending (turned (cluster_of w) d g e (Some (drive_of a))))
    turn_goes allowed alone is =
        event_goes w h e [] s allowed alone (turned (cluster_of w) d g e (Some (drive_of a)))
        (subst (λ (x : Act). IsDone (turned (cluster_of w) d g e (Some (drive_of a))) e x) (sym is) turn_done)

-- ---- each step

module _ (w : World) (h : List Line) (s : StandsFor w h) (stored : AreStored w.drives) where
  -- a step of the cluster that the world shows leads on
  abbrev GoesOn : Step → Type 0
  GoesOn x = May (cluster_of w) x → LeadsTo (h ++ told (cluster_of w) x) (after (cluster_of w) x)

  pub takes : (d time n : ℕ) → GoesOn (Takes d time n)
  unfolding deed
  takes d time n m =
      let t : DriveThere w d m.0.here = drive_there w d m.0.here m.0.found in
      let p : MessageThere w n (node.Drive d) = message_there w n (node.Drive d) m.1 in
      by_deed h (cluster_of w) (Takes d time n)
      (takes_found (cluster_of w) d time n (Some (drive_of t.at)) (Some p.posted.message))
      (rw (t.shown, p.shown) refl)
      (takes_goes w h s stored d time n t.at t.found (ap (λ (x : DriveHere). x.lost) t.same ∙ m.0.kept)
      (not_true t.at.down (ap (λ (x : DriveHere). x.up) t.same ∙ m.0.up)) p.posted p.found p.receiver p.allowed)

  pub is_hit : (d time : ℕ) (bytes : List ℕ) → GoesOn (IsHit d time bytes)
  unfolding deed
  is_hit d time bytes m =
      let t : DriveThere w d m.here = drive_there w d m.here m.found in
      by_deed h (cluster_of w) (IsHit d time bytes) (hit_found (cluster_of w) d time bytes (Some (drive_of t.at)))
      (rw t.shown refl)
      (hit_goes w h s stored d time 0 t.at t.found (ap (λ (x : DriveHere). x.lost) t.same ∙ m.kept)
      (not_true t.at.down (ap (λ (x : DriveHere). x.up) t.same ∙ m.up)) bytes)

  pub falls : (d : ℕ) → GoesOn (Falls d)
  unfolding deed refusal rule_of begins
  falls d m =
      let t : DriveThere w d m.here = drive_there w d m.here m.found in
      let alive : t.at.failed ≡ false = ap (λ (x : DriveHere). x.lost) t.same ∙ m.kept in
      let up : t.at.down ≡ false = not_true t.at.down (ap (λ (x : DriveHere). x.up) t.same ∙ m.up) in
      let kept : t.at.stored ≡ true = found_stored w.drives d t.at stored t.found in
      by_deed h (cluster_of w) (Falls d) (turned (cluster_of w) d fallen (event.Crash (machine.Drive d)) (Some (drive_of t.at)))
      (rw t.shown refl)
      (turn_goes w h s stored d t.at t.found (event.Crash (machine.Drive d)) world_drive.crashed fallen refl refl
      (rw (t.found, alive, kept, up) refl) refl (rw t.found refl))

  pub rises : (d : ℕ) → GoesOn (Rises d)
  unfolding deed refusal rule_of begins
  rises d m =
      let t : DriveThere w d m.here = drive_there w d m.here m.found in
      let alive : t.at.failed ≡ false = ap (λ (x : DriveHere). x.lost) t.same ∙ m.kept in
      let down : t.at.down ≡ true = not_false t.at.down (ap (λ (x : DriveHere). x.up) t.same ∙ m.down) in
      let kept : t.at.stored ≡ true = found_stored w.drives d t.at stored t.found in
      by_deed h (cluster_of w) (Rises d) (turned (cluster_of w) d risen (event.Reopen (machine.Drive d)) (Some (drive_of t.at)))
      (rw t.shown refl)
      (turn_goes w h s stored d t.at t.found (event.Reopen (machine.Drive d)) world_drive.reopened risen refl refl
      (rw (t.found, alive, kept, down) refl) refl (rw t.found refl))

  pub lost_for_good : (d : ℕ) → GoesOn (IsLost d)
  unfolding deed refusal rule_of begins
  lost_for_good d m =
      let t : DriveThere w d m.here = drive_there w d m.here m.found in
      let alive : t.at.failed ≡ false = ap (λ (x : DriveHere). x.lost) t.same ∙ m.kept in
      by_deed h (cluster_of w) (IsLost d) (turned (cluster_of w) d lost (event.Fail d) (Some (drive_of t.at)))
      (rw t.shown refl)
      (turn_goes w h s stored d t.at t.found (event.Fail d) world_drive.fallen lost refl refl
      (rw (t.found, alive) refl) refl (rw t.found refl))
