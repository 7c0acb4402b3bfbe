-- At each moment the server that is read off the lines is the world's.
use Rattle.std.proofs.Common.{◌≡◌, ℕ, ◌++◌, ◌∷◌, [], List, Bool, true, false, Option, Some, None, is_some, fold, slice_get, refl, sym, ap, subst, ◌∙◌, arith, ◌⊎◌, inl, inr, if◌then◌else◌}
use Rattle.std.proofs.lemmas.Bool.{cases_Bool, eq-eqb}
use Rattle.std.proofs.lemmas.Bool.Decides.{nat_tests}
use Rattle.osd_lists.specs.declared.node.Node.{Node}
use Rattle.osd_lists.specs.declared.node.Node.TheVariants as node
use Rattle.server_rules.specs.Files.{Step as ServerStep}
use Rattle.server_rules.specs.Messages.{Message as ServerMessage}
use Rattle.server_rules.specs.History.{Input, Adds}
use Rattle.scenario_text.specs.declared.event.Event.{Event}
use Rattle.scenario_text.specs.declared.event.Event.TheVariants as event
use Rattle.scenario_text.specs.declared.event.Machine.TheVariants as machine
use Rattle.scenario_text.specs.declared.line.Line.{Line}
use Rattle.scenario_text.specs.declared.line.Line.TheVariants as line
use Rattle.world_history.specs.declared.messages.Message.{Message}
use Rattle.world_history.specs.declared.messages.Posted.{Posted}
use Rattle.world_history.specs.declared.messages.Sent.{Sent}
use Rattle.world_history.specs.ServerNames.{Server}
use Rattle.world_history.specs.State.{DriveAt, World, empty_world, at_number}
use Rattle.world_history.specs.Handed.{for_server}
use Rattle.world_history.specs.Moves.{Action, Opens, Delivers, TimesOut, Pends, knows_drive, known_drive, has_algorithm, raw_of, delivers, times_out, pends, injects, begins}
use Rattle.world_history.specs.Sending.{Move, move}
use Rattle.world_history.specs.Plans.{Rule, due_by}
use Rattle.world_history.specs.Refusals.{refusal, of_new_drive}
use Rattle.world_history.specs.Reading.{grouped, sent_after, steps_of}
use Rattle.world_history.specs.ReadDrives.{DriveSeen, sees_drive, drive_seen, drive_after}
use Rattle.world_history.specs.Book.{ServerSeen, input_of, step_by, server_behind, clock_after, sees_server, server_seen}
use Rattle.world_history.specs.Laws.{ServerGoesOn, AllLinesGoOn}
use Rattle.world_history.proofs.Always.{opening, IsKept}
use Rattle.world_history.proofs.ReadMessages.{never_opens}
use Rattle.history_law.proofs.DriveLines.{sent_read, drive_read}
use Rattle.history_law.proofs.DriveEvents.{IsRead, new_there, kept}
use Rattle.history_law.specs.Placed.{IsReadable}
use Rattle.history_law.specs.Doing.{heard_of, brought_to, brought, input_in, did_in}
use Rattle.history_law.specs.Read.{is_written, AreWritten, server_of, leads}
use Rattle.history_law.proofs.Inputs.{IsFit, stays_readable, Tells, knows_behind}
use Rattle.history_law.proofs.Doing.{clock_behind, acts_serve}
use Rattle.history_law.proofs.Leading.{delivers_lead, timeout_leads, injects_lead, pends_pending, begins_flat}
use Rattle.history_law.proofs.BookLines.{view, seen_as, AreReadAs, headed_read, leads_read, opened_read, pending_read}
use Rattle.history_law.proofs.Staying.{drive_stays, written_front, written_behind}

-- ---- what comes to the server

-- whatever comes fits
abbrev FitsAny : Option Input → Type 0
FitsAny None = Unit {0}
FitsAny (Some x) = IsFit x

fit_heard : (now : ℕ) (from : Node) (m : Option ServerMessage) → FitsAny (heard_of now from m)
fit_heard now from None = tt
fit_heard now from (Some m) = tt

either_fits : (b : Bool) (i j : Option Input) → FitsAny i → FitsAny j → FitsAny (if b then i else j)
either_fits true i j h k = h
either_fits false i j h k = k

fit_to : (w : World) (m : Message) (to : Node) → FitsAny (brought_to w m to)
fit_to w m node.Server =
    either_fits w.down None (heard_of w.clock m.from (for_server m)) tt (fit_heard w.clock m.from (for_server m))
fit_to w m (node.Drive d) = tt
fit_to w m (node.Client c) = tt

fit_brought : (w : World) (o : Option Posted) → FitsAny (brought w o)
fit_brought w None = tt
fit_brought w (Some p) = fit_to w p.message p.message.to

fit_event : (w : World) (e : Event) → is_written e ≡ true → FitsAny (input_in w (Opens e))
fit_event w (event.Drive d key capacity) h =
    either_fits (knows_drive w.server d) None (Some _) tt (grind (arith, h, nat_tests))
fit_event w (event.Disk d key capacity) h =
    either_fits (knows_drive w.server d) None (Some _) tt (grind (arith, h, nat_tests))
fit_event w (event.File f m tag) h = either_fits (has_algorithm (raw_of m)) (Some _) None tt tt
fit_event w (event.ZonedFile f m tag) h = either_fits (has_algorithm (raw_of m)) (Some _) None tt tt
fit_event w (event.Format format) h = h
fit_event w (event.Deliver number) h = fit_brought w (slice_get w.network.messages number)
fit_event w (event.Crash (machine.Drive d)) h = tt
fit_event w (event.Crash machine.Server) h = tt
fit_event w (event.Reopen (machine.Drive d)) h = tt
fit_event w (event.Reopen machine.Server) h = tt
fit_event w e h = tt

readable_behind : (s : Server) (chosen : List ℕ) (i : Option Input) → IsReadable s → FitsAny i
    → IsReadable (server_behind s (step_by s chosen i))
readable_behind s chosen None r h = r
readable_behind s chosen (Some x) r h = stays_readable s chosen x r h

-- ---- the drives that it knows

abbrev TellsAny : Option Input → (drive : ℕ) → Type 0
TellsAny None d = ⊥
TellsAny (Some x) d = Tells x d

known_behind : (s : Server) (chosen : List ℕ) (i : Option Input) (d : ℕ) → IsReadable s → FitsAny i
    → knows_drive (server_behind s (step_by s chosen i)) d ≡ true → (knows_drive s d ≡ true) ⊎ TellsAny i d
known_behind s chosen None d r h e = inl e
known_behind s chosen (Some x) d r h e = knows_behind s chosen x d r h e

heard_tells : (now : ℕ) (from : Node) (m : Option ServerMessage) (d : ℕ) → TellsAny (heard_of now from m) d → ⊥
heard_tells now from None d t = t
heard_tells now from (Some m) d t = t

not_nothing : (b : Bool) (x : Option Input) (d : ℕ) → TellsAny (if b then None else x) d → TellsAny x d
not_nothing true x d t = absurd t
not_nothing false x d t = t

to_tells : (w : World) (m : Message) (to : Node) (d : ℕ) → TellsAny (brought_to w m to) d → ⊥
to_tells w m node.Server d t =
    heard_tells w.clock m.from (for_server m) d (not_nothing w.down (heard_of w.clock m.from (for_server m)) d t)
to_tells w m (node.Drive k) d t = t
to_tells w m (node.Client c) d t = t

brought_tells : (w : World) (o : Option Posted) (d : ℕ) → TellsAny (brought w o) d → ⊥
brought_tells w None d t = t
brought_tells w (Some p) d t = to_tells w p.message p.message.to d t

-- only the event that makes a drive tells it of one
abbrev MakesDrive : Event → (drive : ℕ) → Type 0
MakesDrive (event.Drive k key capacity) d = k ≡ d
MakesDrive (event.Disk k key capacity) d = k ≡ d
MakesDrive e d = ⊥

no_file : (b : Bool) (x : Input) (d : ℕ) → (Tells x d → ⊥) → TellsAny (if b then Some x else None) d → ⊥
no_file true x d none t = none t
no_file false x d none t = t

event_tells : (w : World) (e : Event) (d : ℕ) → TellsAny (input_in w (Opens e)) d → MakesDrive e d
event_tells w (event.Drive k key capacity) d t =
    not_nothing (knows_drive w.server k) (Some (Adds (known_drive k key capacity))) d t
event_tells w (event.Disk k key capacity) d t =
    not_nothing (knows_drive w.server k) (Some (Adds (known_drive k key capacity))) d t
event_tells w (event.File f m tag) d t = absurd (no_file (has_algorithm (raw_of m)) _ d (λ x. x) t)
event_tells w (event.ZonedFile f m tag) d t = absurd (no_file (has_algorithm (raw_of m)) _ d (λ x. x) t)
event_tells w (event.Deliver number) d t = absurd (brought_tells w (slice_get w.network.messages number) d t)
event_tells w (event.Crash (machine.Drive k)) d t = absurd t
event_tells w (event.Crash machine.Server) d t = absurd t
event_tells w (event.Reopen (machine.Drive k)) d t = absurd t
event_tells w (event.Reopen machine.Server) d t = absurd t
event_tells w e d t = absurd t

-- so that drive is there then
made_there : (d : ℕ) (s : DriveSeen) (e : Event) → MakesDrive e d → is_some (sees_drive d s (line.Event e)).drive ≡ true
made_there d s (event.Drive k key capacity) m = rw (eq-eqb k d m) refl
made_there d s (event.Disk k key capacity) m = rw (eq-eqb k d m) refl
made_there d s e m = absurd m

-- ---- the lines of a move

-- a drive that is made isn't known
abbrev pub IsNew : World → Event → Type 0
IsNew w (event.Drive d key capacity) = knows_drive w.server d ≡ false
IsNew w (event.Disk d key capacity) = knows_drive w.server d ≡ false
IsNew w e = Unit {0}

opened_input : (w : World) (e : Event) → leads e ≡ false → IsNew w e → input_of e ≡ input_in w (Opens e)
opened_input w (event.Drive d key capacity) p new =
    ap (λ (b : Bool). if b then None else Some (Adds (known_drive d key capacity))) (sym new)
opened_input w (event.Disk d key capacity) p new =
    ap (λ (b : Bool). if b then None else Some (Adds (known_drive d key capacity))) (sym new)
opened_input w (event.Deliver number) p new = absurd (cc p)
opened_input w e p new = refl

module _ (on : ServerGoesOn) where
  pub rule_read : (w : World) (r : Rule) (chosen : List ℕ) (action : Action) → due_by w r ≡ Some action
      → IsReadable w.server
      → AreReadAs w (did_in w (record { action = action; chosen = chosen })) (clock_behind w action)
      (move w (record { action = action; chosen = chosen })).lines
  rule_read w r chosen (Delivers number) due readable =
      leads_read on w readable chosen _ w.clock (delivers w chosen number)
      (acts_serve w chosen (Delivers number)) _ refl
      (delivers_lead w chosen number)
  rule_read w r chosen (TimesOut c component) due readable =
      leads_read on w readable chosen None w.clock (times_out w c component)
      (acts_serve w chosen (TimesOut c component)) _ refl
      (timeout_leads w c component)
  rule_read w r chosen (Pends c) due readable =
      pending_read on w readable chosen None w.clock (pends w c) (acts_serve w chosen (Pends c)) _ refl refl
      (pends_pending w c)
  rule_read w r chosen (Opens e) due readable = absurd (never_opens w r e due)

  -- an event behind whose line no step begins
  flat_read : (w : World) (chosen : List ℕ) (e : Event) → IsReadable w.server → IsNew w e → leads e ≡ false
      → AreReadAs w (did_in w (opening e chosen)) (clock_after w.clock (line.Event e))
      (line.Event e ∷ (move w (opening e chosen)).lines)
  flat_read w chosen e readable new p =
      headed_read on w readable chosen _ _ (begins w chosen e) (acts_serve w chosen (Opens e)) _ (line.Event e)
      (begins w chosen e).told refl refl (opened_input w e p new) (begins_flat w chosen e p)

  leading_read : (w : World) (chosen : List ℕ) (e : Event) → IsReadable w.server → leads e ≡ true
      → AreReadAs w (did_in w (opening e chosen)) (clock_after w.clock (line.Event e))
      (line.Event e ∷ (move w (opening e chosen)).lines)
  unfolding begins
  leading_read w chosen (event.Deliver number) readable p =
      opened_read on w readable chosen _ w.clock (delivers w chosen number) (acts_serve w chosen (Delivers number)) _
      (event.Deliver number) refl refl refl refl refl refl (delivers_lead w chosen number)
  leading_read w chosen (event.Timeout c component) readable p =
      opened_read on w readable chosen None w.clock (times_out w c component)
      (acts_serve w chosen (TimesOut c component)) _
      (event.Timeout c component) refl refl refl refl refl refl (timeout_leads w c component)
  leading_read w chosen (event.Inject d bytes) readable p =
      opened_read on w readable chosen None w.clock (injects w d bytes)
      (acts_serve w chosen (Opens (event.Inject d bytes))) _
      (event.Inject d bytes) refl refl refl refl refl refl (injects_lead w d bytes)
  leading_read w chosen e readable p = absurd (cc p)

  pub opens_read : (w : World) (chosen : List ℕ) (e : Event) → IsReadable w.server → IsNew w e
      → AreReadAs w (did_in w (opening e chosen)) (clock_after w.clock (line.Event e))
      (line.Event e ∷ (move w (opening e chosen)).lines)
  opens_read w chosen e readable new = elim (cases_Bool (leads e)) [
    | inl t ↦ leading_read w chosen e readable t
    | inr f ↦ flat_read w chosen e readable new f
  ]

-- ---- a moment

-- The server is read off the lines; what it sends can be told and read, and each drive that it knows is there.
pub record IsServerRead (w : World) (h : List Line) : Type 0 where
  pub seen : server_seen h ≡ server_of w
  pub readable : IsReadable w.server
  pub known : (d : ℕ) → knows_drive w.server d ≡ true → is_some (drive_after h d) ≡ true

-- so it is where the events are those of a scenario's text
pub record IsFollowed (w : World) (h : List Line) : Type 0 where
  pub read : IsRead w h
  pub server : AreWritten h → IsServerRead w h

-- before the first line
seen_first : server_seen [] ≡ server_of empty_world
unfolding grouped
seen_first = refl

-- what is seen, part by part
same_seen : (w v : World) (did : Option ServerStep) (time : ℕ) (sent : List Sent)
    → v.server ≡ server_behind w.server did
    → v.clock ≡ time → sent ≡ view v → seen_as w did time sent ≡ server_of v
same_seen w v did time sent server clock messages =
    ap (λ (s : Server). record { server = s; clock = time; sent = sent }) (sym server)
    ∙ ap (λ (k : ℕ). record { server = v.server; clock = k; sent = sent }) (sym clock)
    ∙ ap (λ (ss : List Sent). record { server = v.server; clock = v.clock; sent = ss }) messages

module _ (on : ServerGoesOn) (all : AllLinesGoOn) where
  went_on : (w : World) (h : List Line) (m : Move) (lines : List Line) → IsRead w h
      → IsRead (move w m).world (h ++ lines)
      → IsServerRead w h → AreReadAs w (did_in w m) (clock_behind w m.action) lines → FitsAny (input_in w m.action)
      → ((d : ℕ) → TellsAny (input_in w m.action) d → is_some (drive_after (h ++ lines) d) ≡ true)
      → IsServerRead (move w m).world (h ++ lines)
  went_on w h m lines before behind s a fits tells =
      let serves = acts_serve w m.chosen m.action in
      record {
        seen =
            a.goes h ∙ ap (λ (x : ServerSeen). fold sees_server x (steps_of lines)) s.seen ∙ a.sees
            ∙ same_seen w (move w m).world (did_in w m) (clock_behind w m.action) _ serves.server serves.clock
            (ap (λ (ss : List Sent). fold sent_after ss lines) (sym (sent_read w before.injected h before.drives))
            ∙ sym (all h lines).messages ∙ sent_read (move w m).world behind.injected (h ++ lines) behind.drives);
        readable =
            subst IsReadable (sym serves.server)
            (readable_behind w.server m.chosen (input_in w m.action) s.readable fits);
        known =
            λ d e. elim (known_behind w.server m.chosen (input_in w m.action) d s.readable fits
            (ap (λ (x : Server). knows_drive x d) (sym serves.server) ∙ e)) [
              | inl k ↦ ap (λ (x : DriveSeen). is_some x.drive) ((all h lines).drives d)
                  ∙ drive_stays d (drive_seen d h) lines (s.known d k)
              | inr t ↦ tells d t
            ];
      }

  -- a drive that is made wasn't there, so the server doesn't know it
  not_known : (w : World) (h : List Line) (d : ℕ) → IsRead w h → IsServerRead w h → of_new_drive w d ≡ None
      → knows_drive w.server d ≡ false
  not_known w h d r s allowed = elim (cases_Bool (knows_drive w.server d)) [
    | inl t ↦ absurd (cc (sym (s.known d t) ∙ ap (λ (o : Option DriveAt). is_some o)
        (drive_read w r.injected h d r.drives ∙ new_there (at_number w.drives d) w allowed)))
    | inr f ↦ f
  ]

  pub is_new : (w : World) (h : List Line) (e : Event) → IsRead w h → IsServerRead w h → refusal w e ≡ None → IsNew w e
  unfolding refusal
  is_new w h (event.Drive d key capacity) r s allowed = not_known w h d r s allowed
  is_new w h (event.Disk d key capacity) r s allowed = not_known w h d r s allowed
  is_new w h e r s allowed = tt

  opened_tells : (w : World) (h : List Line) (e : Event) (ls : List Line) (d : ℕ) → TellsAny (input_in w (Opens e)) d
      → is_some (drive_after (h ++ line.Event e ∷ ls) d) ≡ true
  opened_tells w h e ls d t =
      ap (λ (x : DriveSeen). is_some x.drive) ((all h (line.Event e ∷ ls)).drives d)
      ∙ drive_stays d (sees_drive d (drive_seen d h) (line.Event e)) ls
      (made_there d (drive_seen d h) e (event_tells w e d t))

  rule_fits : (w : World) (r : Rule) (action : Action) → due_by w r ≡ Some action → FitsAny (input_in w action)
  rule_fits w r (Delivers number) due = fit_brought w (slice_get w.network.messages number)
  rule_fits w r (TimesOut c component) due = tt
  rule_fits w r (Pends c) due = tt
  rule_fits w r (Opens e) due = absurd (never_opens w r e due)

  rule_tells : (w : World) (r : Rule) (action : Action) (d : ℕ) → due_by w r ≡ Some action
      → TellsAny (input_in w action) d → ⊥
  rule_tells w r (Delivers number) d due t = brought_tells w (slice_get w.network.messages number) d t
  rule_tells w r (TimesOut c component) d due t = t
  rule_tells w r (Pends c) d due t = t
  rule_tells w r (Opens e) d due t = absurd (never_opens w r e due)

  pub followed : IsKept IsFollowed
  followed = record {
    starts = record {
      read = kept.starts;
      server = λ x. record {
        seen = seen_first;
        readable = record { drives = tt; format = refl; files = tt };
        known = λ d e. absurd (cc e);
      };
    };
    opens = λ w h e chosen p allowed.
        let lines = (move w (opening e chosen)).lines in
        let behind = kept.opens w h e chosen p.read allowed in
        record {
          read = behind;
          server = λ x.
              let s = p.server (written_front h (line.Event e ∷ lines) x) in
              went_on w h (opening e chosen) (line.Event e ∷ lines) p.read behind s
              (opens_read on w chosen e s.readable (is_new w h e p.read s allowed))
              (fit_event w e (written_behind h (line.Event e ∷ lines) x).0) (opened_tells w h e lines);
        };
    moves = λ w h r m p due.
        let behind = kept.moves w h r m p.read due in
        record {
          read = behind;
          server = λ x.
              let s = p.server (written_front h (move w m).lines x) in
              went_on w h m (move w m).lines p.read behind s (rule_read on w r m.chosen m.action due s.readable)
              (rule_fits w r m.action due) (λ d t. absurd (rule_tells w r m.action d due t));
        };
  }
