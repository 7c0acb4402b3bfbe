-- At each cut of a move of a drive, or of nobody, what disturbs a column of the machine has its mark.
-- Towards `DrivesShowMarks` (`specs/MarksShown.antt`).
use Rattle.std.proofs.Common.{◌≡◌, ◌++◌, ℕ, zero, suc, Bool, true, false, List, [], ◌∷◌, take, find, position, slice_get, Option, Some, None, refl, sym, ap, subst, ◌∙◌, inl, inr, append-nil}
use Rattle.std.specs.List.{fold}
use Rattle.std.proofs.lemmas.Bool.{and_parts}
use Rattle.std.proofs.Math.Seq.{take-nil}
use Rattle.osd_commands.specs.Commands as commands
use Rattle.scenario_text.specs.declared.event.Event.{Event as Told}
use Rattle.scenario_text.specs.declared.event.Event.TheVariants as scenario
use Rattle.scenario_text.specs.declared.line.CallKind.{CallKind}
use Rattle.scenario_text.specs.declared.line.Verdict.TheVariants as verdict
use Rattle.scenario_text.specs.declared.line.Line.{Line}
use Rattle.scenario_text.specs.declared.line.Line.TheVariants as line
use Rattle.server_rules.specs.Files.{file_at}
use Rattle.server_rules.specs.Laws.{In}
use Rattle.world_history.specs.declared.messages.Posted.{Posted}
use Rattle.world_history.specs.ServerNames.{File, Server}
use Rattle.world_history.specs.State.{World, DriveAt, ClientAt, at_number}
use Rattle.world_history.specs.Spelled.{spelled}
use Rattle.world_history.specs.Stripes.{Mark, Moment}
use Rattle.world_history.specs.Book.{ServerSeen, server_seen, input_of, input_at}
use Rattle.world_history.specs.Reading.{Step, steps_of}
use Rattle.world_history.specs.Told.{kind_of}
use Rattle.world_history.specs.ClientNames.{CallOp}
use Rattle.client_rules.specs.History.{TimesOut as TimesOutAt}
use Rattle.world_history.specs.Calm as calm
use Rattle.world_history.specs.Calm.{Seen, first_seen, sees, seen, moment_of, marks_at}
use Rattle.world_history.specs.Drives.{judges}
use Rattle.world_history.specs.Laws.{MomentGoesOn}
use Rattle.world_history.specs.Moves as moves
use Rattle.world_history.specs.Moves.{Opens, Delivers, TimesOut, Pends, acts, begins, by_client, delivers, delivers_found, marked, times_out, pends, pends_as, injects, injects_at, knows_drive}
use Rattle.world_history.specs.Handed.{handed_to, pending_op}
use Rattle.world_history.specs.ReadLog.{Log, log_in}
use Rattle.world_history.specs.Sending.{Move, move, sends_all, sent_lines}
use Rattle.history_law.specs.BookMoments.{with_event, lines_in}
use Rattle.history_law.specs.Doing.{input_in, brought}
use Rattle.history_law.specs.Read.{AreWritten, BookIsRead, server_of, leads}
use Rattle.history_law.proofs.Leading.{Leads, Silent, Heads, delivers_lead}
use Rattle.component_law.proofs.MoveOpening.{begins_bare}
use Rattle.component_law.proofs.SeenServer.{seen_server}
use Rattle.component_law.proofs.Shapes.{IsHeaded, found_headed, sent_bare}
use Rattle.exchange_law.proofs.HeldWorlds.{next_moment}
use Rattle.component_law.specs.LeftPending.{left_pending}
use Rattle.fence_law.specs.Machine.{Lawful, after_all}
use Rattle.fence_law.specs.State.{State, Event}
use Rattle.file_simulation.specs.ClientEvents.{going, going_in}
use Rattle.file_simulation.specs.DriveEvents as drive
use Rattle.file_simulation.specs.EventLists.{Lines}
use Rattle.file_simulation.specs.Events.{joined, events_of, led_by}
use Rattle.file_simulation.specs.Showing.{Pairs}
use Rattle.relation_law.specs.Frames.{AreAll}
use Rattle.relation_law.specs.Steps.{Follows, owed}
use Rattle.relation_law.proofs.DriveMoves.{found_in, for_drive, same_numbers}
use Rattle.headline_law.specs.MarksShown.{IsKept, DrivesShowMarks}
use Rattle.file_simulation.specs.Tied.{WritesAreTied}
use Rattle.headline_law.specs.Parts.{CutShown, lines_to}
use Rattle.headline_law.proofs.CalmCodes.{one_alone, server_shown, server_seen_is, server_there, code_of}
use Rattle.headline_law.proofs.CalmCuts.{not_opening}
use Rattle.headline_law.proofs.CalmDrives.{none_joined, delivered_so}
use Rattle.headline_law.proofs.CalmEvents.{PerformsNone}
use Rattle.headline_law.proofs.CalmStay.{gone_all}
use Rattle.headline_law.proofs.EntriesRead.{moment_plain}
use Rattle.headline_law.proofs.EntriesShown.{ReadingLaws}
use Rattle.headline_law.proofs.MarksDrivesFailing.{failing_stays, failing_none, fails_all}
use Rattle.headline_law.proofs.MarksDrivesHear.{heard_as}
use Rattle.headline_law.proofs.MarksDrivesLines.{HasMore, IsDriven, driven, led_driven, led_alone, led_seen}
use Rattle.headline_law.proofs.MarksDrivesMarks.{IsFirst, first_sent, delivered_marks, injected_marks, judged}
use Rattle.headline_law.proofs.MarksDrivesShown.{Shows, Effects, none_performed, one_performed}
use Rattle.headline_law.proofs.MarksQuiet.{no_lines}

-- ---- laws of the world

pub record DriveMarkLaws : Type 0 where
  pub book : BookIsRead
  pub reading : ReadingLaws

-- ---- each move

module _ (laws : DriveMarkLaws) (w : World) (h : List Line) (m : Move) (count : ℕ) (f g : File) (s : State) (pairs : Pairs)
    (k : CutShown w h m count f g s pairs) (writes : WritesAreTied w h s f pairs) (new : Pairs)
    (more : (i j : ℕ) → In (i, j) pairs → In (i, j) new) where
  abbrev follows : Follows w h m count f g s
  follows = k.shown.follows

  abbrev e : ℕ → ℕ
  e = owed follows.related

  abbrev Seems : State → Moment → Type 0
  Seems = Shows laws.book w h m count f g s pairs k writes new more

  abbrev Gives : List Event → List Mark → Type 0
  Gives = Effects laws.book w h m count f g s pairs k writes new more

  here : (seen h).server ≡ server_of w
  here = server_seen_is laws.book w h m count f g s follows

  there : (moment_of h).server ≡ w.server
  there = server_there laws.book w h m count f g s follows

  goes : MomentGoesOn
  goes = laws.reading.moments

  -- of which messages WRITEs are the log has it as the lines have
  log_writes : (moment_of h).log.writes ≡ (log_in h).writes
  log_writes =
      ap (λ (l : Log). l.writes)
      (moment_plain laws.reading.moments laws.reading.pending laws.reading.lines laws.reading.more w h follows.moment)

  -- ---- by lines and events

  nothing : (n : Moment) → HasMore w h [] n → Seems s n
  nothing n has = none_performed laws.book w h m count f g s pairs k writes new more [] [] tt (λ l q c d gone. gone) n has tt

  first_moment : (n : Moment) → IsKept w h n → Seems s n
  first_moment n kept = nothing n (kept.0 ∙ sym (append-nil (moment_of h).marks), kept.1)

  no_events : (c : ℕ) (n : Moment) → HasMore w h [] n → Seems (after_all s (joined (take c ([] ∷ [])))) n
  no_events zero n has = nothing n has
  no_events (suc c) n has =
      subst (λ (ys : List Event). Seems (after_all s ys) n) (sym (none_joined c)) (nothing n has)

  one_line : (c : ℕ) (es : List Event) → es ++ joined (take c []) ≡ es
  one_line c es = ap (λ (ys : List Event). es ++ ys) (none_joined c) ∙ append-nil es

  unled : (ls : List Line) (es : List Event) (q : IsDriven w ls) → Gives es (marks_at (seen h) q.head) → (c : ℕ) →
      Lawful s (joined (take c (es ∷ []))) → Seems (after_all s (joined (take c (es ∷ [])))) (moment_of (h ++ take c ls))
  unled ls es q gives zero l = first_moment (moment_of (h ++ [])) (no_lines goes w h here there)
  unled ls es q gives (suc c) l =
      subst (λ (ys : List Event). Seems (after_all s ys) (moment_of (h ++ take (suc c) ls))) (sym (one_line c es))
      (gives (moment_of (h ++ take (suc c) ls)) (driven goes w h here there c ls q)
      (subst (Lawful s) (one_line c es) l))

  nothing_more : (n : Moment) → IsKept w h n → HasMore w h [] n
  nothing_more n kept = (kept.0 ∙ sym (append-nil (moment_of h).marks), kept.1)

  abbrev LedAt : List Event → List Line → ℕ → Type 0
  LedAt es ls c =
      Lawful s (joined (take c ([] ∷ es ∷ []))) →
      Seems (after_all s (joined (take c ([] ∷ es ∷ [])))) (moment_of (h ++ take c ls))

  module _ (ev : Told) (still : (led_seen h ev).server ≡ server_of w)
      (same : (led_seen h ev).moment.marks ≡ (moment_of h).marks) where
    alone_marks : HasMore w h [] (moment_of (h ++ line.Event ev ∷ []))
    alone_marks = led_alone goes w h here there ev still same

    led : (ls : List Line) (es : List Event) (q : IsDriven w ls) → Gives es (marks_at (led_seen h ev) q.head) → (c : ℕ) →
        LedAt es (line.Event ev ∷ ls) c
    led ls es q gives zero l = first_moment (moment_of (h ++ [])) (no_lines goes w h here there)
    led ls es q gives (suc zero) l = nothing (moment_of (h ++ line.Event ev ∷ [])) alone_marks
    led ls es q gives (suc (suc c)) l =
        subst (λ (ys : List Event). Seems (after_all s ys) (moment_of (h ++ take (suc (suc c)) (line.Event ev ∷ ls))))
        (sym (one_line c es))
        (gives (moment_of (h ++ take (suc (suc c)) (line.Event ev ∷ ls))) (led_driven goes w h here there ev still same c ls q)
        (subst (Lawful s) (one_line c es) l))

    -- where nothing comes of it
    led_none : (es : List Event) (ls : List Line) → es ≡ [] → ls ≡ [] → (c : ℕ) → LedAt es (line.Event ev ∷ ls) c
    led_none es ls none empty c l =
        subst
        (λ (ys : List Event).
        Seems (after_all s (joined (take c ([] ∷ ys ∷ [])))) (moment_of (h ++ take c (line.Event ev ∷ ls))))
        (sym none)
        (subst
        (λ (xs : List Line).
        Seems (after_all s (joined (take c ([] ∷ [] ∷ [])))) (moment_of (h ++ take c (line.Event ev ∷ xs))))
        (sym empty) (by c))
      where
        by : (c : ℕ) → Seems (after_all s (joined (take c ([] ∷ [] ∷ [])))) (moment_of (h ++ take c (line.Event ev ∷ [])))
        by zero = first_moment (moment_of (h ++ [])) (no_lines goes w h here there)
        by (suc c) =
            subst (λ (ls : List Line). Seems (after_all s (joined (take c ([] ∷ [])))) (moment_of (h ++ line.Event ev ∷ ls)))
            (sym (take-nil c)) (no_events c (moment_of (h ++ line.Event ev ∷ [])) alone_marks)

  -- ---- what comes to a drive

  gives_none : (es : List Event) (extra : List Mark) → AreAll PerformsNone es → (p : Posted) →
      es ≡ drive.delivered s w e f (Some p) → Gives es extra
  gives_none es extra none p is =
      none_performed laws.book w h m count f g s pairs k writes new more es extra none
      (λ l q plain d gone.
      gone_all s es (code_of laws.book w h m count f g s follows) follows.run
      (subst (AreAll _) (sym is) (delivered_so s w e f (Some p))) none l q plain d gone)

  -- a message that is delivered, as its line is seen
  delivered_gives : (n : ℕ) (p : Posted) → slice_get w.network.messages n ≡ Some p → (b : Seen) → b.server ≡ server_of w →
      b.moment.server ≡ w.server → b.moment.log.writes ≡ (log_in h).writes →
      Gives (drive.delivered s w e f (Some p))
      (marks_at b (line.Delivered n (handed_to (marked w n p) m.chosen p.message p.message.to).receipt))
  delivered_gives n p at b server moment log = elim (heard_as s w e f p.message p.message.to refl) [
    | inl none ↦ gives_none _ _ none p refl
    | inr x ↦
        one_performed laws.book w h m count f g s pairs k writes new more p _ x n at _
        (λ i logged.
        delivered_marks s w f p _ x n at b server moment i (ap (λ (ws : List (ℕ × ℕ)). at_number ws n) log ∙ logged)
        (marked w n p) m.chosen x.there)
  ]

  -- bytes that are injected
  injected_gives : (d : ℕ) (bytes : List ℕ) (a : DriveAt) → at_number w.drives d ≡ Some a →
      Gives (drive.delivered s w e f (find (drive.is_sent_as d bytes) w.network.messages))
      (marks_at (led_seen h (scenario.Inject d bytes)) (line.Judged d (judges a (commands.reading bytes)).verdict))
  injected_gives d bytes a known = by (find (drive.is_sent_as d bytes) w.network.messages) refl
    where
      by : (o : Option Posted) → find (drive.is_sent_as d bytes) w.network.messages ≡ o →
          Gives (drive.delivered s w e f o)
          (marks_at (led_seen h (scenario.Inject d bytes)) (line.Judged d (judges a (commands.reading bytes)).verdict))
      by None first = none_performed laws.book w h m count f g s pairs k writes new more [] _ tt (λ l q c d gone. gone)
      by (Some p) first = elim (heard_as s w e f p.message p.message.to refl) [
        | inl none ↦ gives_none _ _ none p refl
        | inr x ↦
            let its : IsFirst w d bytes p = first_sent w d bytes p first in
            let is = found_in (drive.is_sent_as d bytes) w.network.messages p first in
            let both = and_parts (drive.is_for d p.message.to) _ is.1 in
            let same : x.drive ≡ d = cc (sym x.receiver ∙ for_drive d p.message.to both.0) in
            let spelled_as : spelled p.message.body ≡ bytes = same_numbers (spelled p.message.body) bytes both.1 in
            let state : a ≡ x.state = cc (sym known ∙ ap (at_number w.drives) (sym same) ∙ x.there) in
            let verdict : (judges a (commands.reading bytes)).verdict ≡ verdict.Perform =
            ap (λ (y : DriveAt). (judges y (commands.reading bytes)).verdict) state
            ∙ ap (λ (bs : List ℕ). (judges x.state (commands.reading bs)).verdict) (sym spelled_as)
            ∙ judged s w f p _ x its.number its.there in
            one_performed laws.book w h m count f g s pairs k writes new more p _ x its.number its.there _
            (λ i logged.
            ap (λ (j : ℕ).
            marks_at (led_seen h (scenario.Inject d bytes)) (line.Judged j (judges a (commands.reading bytes)).verdict))
            (sym same)
            ∙ injected_marks s w f p _ x its.number its.there (led_seen h (scenario.Inject d bytes)) here
            (ap (λ (y : ServerSeen). y.server) here) i
            (ap (λ (ws : List (ℕ × ℕ)). at_number ws its.number) log_writes ∙ logged) _ verdict
            (ap (λ (j : ℕ). position (calm.is_sent_as j bytes) (seen h).server.sent) same
            ∙ ap (λ (y : ServerSeen). position (calm.is_sent_as d bytes) y.sent) here ∙ its.first))
      ]

  -- ---- a message is delivered

  found_driven : (n : ℕ) (p : Posted) → slice_get w.network.messages n ≡ Some p → brought w (Some p) ≡ None →
      (x : IsHeaded (sends_all (delivers_found w m.chosen n (Some p))).lines) →
      (q : IsDriven w (sends_all (delivers_found w m.chosen n (Some p))).lines)
      × (q.head ≡ line.Delivered n (handed_to (marked w n p) m.chosen p.message p.message.to).receipt)
  unfolding delivers
  found_driven n p at none x = (
    record {
      head = line.Delivered n (handed_to (marked w n p) m.chosen p.message p.message.to).receipt;
      rest = x.rest;
      begins = refl;
      bare = x.bare;
      are = x.are ∙ ap (λ (l : Line). l ∷ x.rest) same;
      none = brings
          (subst (λ (o : Option Posted). Leads w (brought w o) (delivers_found w m.chosen n o)) at (delivers_lead w m.chosen n));
    },
    refl,
  )
    where
      same : x.head ≡ line.Delivered n (handed_to (marked w n p) m.chosen p.message p.message.to).receipt
      same = cc (sym x.are)

      brings : Leads w (brought w (Some p)) (delivers_found w m.chosen n (Some p)) →
          input_at (server_of w) (line.Delivered n (handed_to (marked w n p) m.chosen p.message p.message.to).receipt) ≡ None
      brings (Silent told posts nothing_) = absurd (cc told)
      brings (Heads l rest told head clock input flat) =
          let first : line.Delivered n (handed_to (marked w n p) m.chosen p.message p.message.to).receipt ≡ l = cc told in
          ap (input_at (server_of w)) first ∙ input ∙ none

  given_as : (es : List Event) (b : Seen) (l r : Line) → l ≡ r → Gives es (marks_at b r) → Gives es (marks_at b l)
  given_as es b l r same = subst (λ (x : Line). Gives es (marks_at b x)) (sym same)

  abbrev DeliveredAt : ℕ → Option Posted → ℕ → Type 0
  DeliveredAt n o c =
      Lawful s (joined (take c (drive.delivered s w e f o ∷ []))) →
      Seems (after_all s (joined (take c (drive.delivered s w e f o ∷ []))))
      (moment_of (h ++ take c (sends_all (delivers_found w m.chosen n o)).lines))

  found_unled : (n : ℕ) (o : Option Posted) → slice_get w.network.messages n ≡ o → brought w o ≡ None → (c : ℕ) →
      DeliveredAt n o c
  unfolding sent_lines
  found_unled n None at none c l =
      subst (λ (ls : List Line). Seems (after_all s (joined (take c ([] ∷ [])))) (moment_of (h ++ ls))) (sym (take-nil c))
      (no_events c (moment_of (h ++ [])) (nothing_more (moment_of (h ++ [])) (no_lines goes w h here there)))
  found_unled n (Some p) at none c l =
      let q = found_driven n p at none (found_headed w m.chosen n p) in
      unled (sends_all (delivers_found w m.chosen n (Some p))).lines (drive.delivered s w e f (Some p)) q.0
      (given_as _ (seen h) q.0.head _ q.1 (delivered_gives n p at (seen h) here there log_writes)) c l

  found_led : (n : ℕ) (o : Option Posted) → slice_get w.network.messages n ≡ o → brought w o ≡ None → (c : ℕ) →
      LedAt (drive.delivered s w e f o)
      (line.Event (scenario.Deliver n) ∷ (sends_all (delivers_found w m.chosen n o)).lines) c
  unfolding sent_lines
  found_led n None at none c = led_none (scenario.Deliver n) here (append-nil (moment_of h).marks) [] [] refl refl c
  found_led n (Some p) at none c =
      let q = found_driven n p at none (found_headed w m.chosen n p) in
      led (scenario.Deliver n) here (append-nil (moment_of h).marks)
      (sends_all (delivers_found w m.chosen n (Some p))).lines (drive.delivered s w e f (Some p)) q.0
      (given_as _ (led_seen h (scenario.Deliver n)) q.0.head _ q.1
      (delivered_gives n p at (led_seen h (scenario.Deliver n)) here (ap (λ (y : ServerSeen). y.server) here) log_writes)) c

  -- ---- bytes are injected

  injected_led : (d : ℕ) (bytes : List ℕ) (o : Option DriveAt) → at_number w.drives d ≡ o → (c : ℕ) →
      LedAt (drive.delivered s w e f (find (drive.is_sent_as d bytes) w.network.messages))
      (line.Event (scenario.Inject d bytes) ∷ (sends_all (injects_at w d bytes o)).lines) c
  unfolding sent_lines
  injected_led d bytes None known c =
      led_none (scenario.Inject d bytes) here (append-nil (moment_of h).marks) _ []
      (by (find (drive.is_sent_as d bytes) w.network.messages) refl) refl c
    where
      by : (o : Option Posted) → find (drive.is_sent_as d bytes) w.network.messages ≡ o → drive.delivered s w e f o ≡ []
      by None first = refl
      by (Some p) first =
          let is = found_in (drive.is_sent_as d bytes) w.network.messages p first in
          let both = and_parts (drive.is_for d p.message.to) _ is.1 in
          ap (drive.heard_at s w e f p.message) (for_drive d p.message.to both.0)
          ∙ ap (drive.heard s w e f d p.message) known
  injected_led d bytes (Some a) known c =
      led (scenario.Inject d bytes) here (append-nil (moment_of h).marks)
      (line.Judged d (judges a (commands.reading bytes)).verdict ∷ []) _
      (record {
        head = line.Judged d (judges a (commands.reading bytes)).verdict;
        rest = [];
        begins = refl;
        bare = tt;
        are = refl;
        none = refl;
      })
      (injected_gives d bytes a known) c

  -- ---- other events

  other_event : (ev : Told) → leads ev ≡ false → input_of ev ≡ None → (es : List Event) → Gives es [] → (c : ℕ) →
      Lawful s (joined (take c (es ∷ []))) →
      Seems (after_all s (joined (take c (es ∷ []))))
      (moment_of (h ++ take c (line.Event ev ∷ (sends_all (begins w m.chosen ev)).lines)))
  other_event ev alone none es gives c l =
      unled (line.Event ev ∷ (sends_all (begins w m.chosen ev)).lines) es (record {
        head = line.Event ev;
        rest = (sends_all (begins w m.chosen ev)).lines;
        begins = refl;
        bare = sent_bare (begins w m.chosen ev) (begins_bare w m.chosen ev (not_opening ev alone));
        are = refl;
        none = none;
      }) gives c l

  gives_nothing : Gives [] []
  gives_nothing = none_performed laws.book w h m count f g s pairs k writes new more [] [] tt (λ l q c d gone. gone)

  -- a drive that the server knows
  known_event : (ev : Told) → m.action ≡ Opens ev → (sends_all (begins w m.chosen ev)).lines ≡ [] →
      (begins w m.chosen ev).world.server ≡ w.server → (c : ℕ) → count ≡ c →
      Seems (after_all s (joined (take c ([] ∷ []))))
      (moment_of (h ++ take c (line.Event ev ∷ (sends_all (begins w m.chosen ev)).lines)))
  known_event ev act none same zero at = first_moment (moment_of (h ++ [])) (no_lines goes w h here there)
  known_event ev act none same (suc c) at =
      no_events (suc c) (moment_of (h ++ line.Event ev ∷ take c (sends_all (begins w m.chosen ev)).lines))
      (subst (λ (ls : List Line). HasMore w h [] (moment_of (h ++ line.Event ev ∷ take c ls))) (sym none)
      (subst (λ (ls : List Line). HasMore w h [] (moment_of (h ++ line.Event ev ∷ ls))) (sym (take-nil c))
      (ap (λ (x : Seen). x.moment.marks) behind, server)))
    where
      lines : lines_in w m ≡ line.Event ev ∷ []
      lines =
          ap (λ (a : moves.Action). with_event a (sends_all (acts w m.chosen a)).lines) act
          ∙ ap (λ (ls : List Line). line.Event ev ∷ ls) none

      behind : seen (h ++ line.Event ev ∷ []) ≡ led_seen h ev
      behind =
          goes h (line.Event ev ∷ []) refl
          ∙ ap (λ (ts : List Step). fold sees (seen h) ts) (one_alone (line.Event ev) [] refl tt)

      whole : take count (lines_in w m) ≡ lines_in w m
      whole =
          ap (λ (n : ℕ). take n (lines_in w m)) at ∙ ap (take (suc c)) lines
          ∙ ap (λ (ls : List Line). line.Event ev ∷ ls) (take-nil c) ∙ sym lines

      written : AreWritten (h ++ lines_in w m)
      written = subst (λ (ls : List Line). AreWritten (h ++ ls)) whole follows.calm.scenario.written

      read : server_seen (h ++ line.Event ev ∷ []) ≡ server_of (move w m).world
      read =
          subst (λ (ls : List Line). server_seen (h ++ ls) ≡ server_of (move w m).world) lines
          (laws.book (move w m).world (h ++ lines_in w m) (next_moment w h follows.moment m follows.is_due) written)

      server : (moment_of (h ++ line.Event ev ∷ [])).server ≡ w.server
      server =
          server_shown first_seen (steps_of (h ++ line.Event ev ∷ [])) refl
          ∙ ap (λ (y : ServerSeen). y.server) (seen_server first_seen (steps_of (h ++ line.Event ev ∷ [])) ∙ read)
          ∙ ap (λ (a : moves.Action). (acts w m.chosen a).world.server) act ∙ same

  added_known : (d : ℕ) (key : List ℕ) (capacity : ℕ) → knows_drive w.server d ≡ true →
      ((sends_all (begins w m.chosen (scenario.Drive d key capacity))).lines ≡ [])
      × ((begins w m.chosen (scenario.Drive d key capacity)).world.server ≡ w.server)
  unfolding begins sent_lines
  added_known d key capacity is = (rw is refl, rw is refl)

  stored_known : (d : ℕ) (key : List ℕ) (capacity : ℕ) → knows_drive w.server d ≡ true →
      ((sends_all (begins w m.chosen (scenario.Disk d key capacity))).lines ≡ [])
      × ((begins w m.chosen (scenario.Disk d key capacity)).world.server ≡ w.server)
  unfolding begins sent_lines
  stored_known d key capacity is = (rw is refl, rw is refl)

  -- ---- a component times out at a client that isn't there, or a call is left pending

  idle : (j i : ℕ) (o : Option ClientAt) → going j (TimesOutAt i) o ≡ None → o ≡ None
  idle j i None e = refl
  idle j i (Some a) e = absurd (cc e)

  timed_none : (j i : ℕ) → at_number w.clients j ≡ None → (sends_all (times_out w j i)).lines ≡ []
  unfolding times_out sent_lines
  timed_none j i is = rw is refl

  no_act : (c : ℕ) (n : Moment) → HasMore w h [] n → Seems (after_all s (joined (take c []))) n
  no_act c n has = subst (λ (ys : List Event). Seems (after_all s ys) n) (sym (none_joined c)) (nothing n has)

  none_told : (c : ℕ) (ls : List Line) → ls ≡ [] → HasMore w h [] (moment_of (h ++ take c ls))
  none_told c ls is =
      subst (λ (xs : List Line). HasMore w h [] (moment_of (h ++ take c xs))) (sym is)
      (subst (λ (xs : List Line). HasMore w h [] (moment_of (h ++ xs))) (sym (take-nil c))
      (nothing_more (moment_of (h ++ [])) (no_lines goes w h here there)))

  pending_told : (c j : ℕ) (call : CallKind) → HasMore w h [] (moment_of (h ++ take c (left_pending j call ∷ [])))
  pending_told zero j call = nothing_more (moment_of (h ++ [])) (no_lines goes w h here there)
  pending_told (suc c) j call =
      subst (λ (xs : List Line). HasMore w h [] (moment_of (h ++ left_pending j call ∷ xs))) (sym (take-nil c))
      (subst (λ (x : Seen). HasMore w h [] x.moment) (sym (laws.reading.pending h j call))
      (sym (append-nil (moment_of h).marks), there))

  pended : (j c : ℕ) → HasMore w h [] (moment_of (h ++ take c (sends_all (pends w j)).lines))
  unfolding pends sent_lines
  pended j c = by (at_number w.clients j)
    where
      by_op : (o : Option CallOp) → HasMore w h [] (moment_of (h ++ take c (sends_all (pends_as w j o)).lines))
      by_op None = none_told c [] refl
      by_op (Some op) = pending_told c j (kind_of op)

      by : (o : Option ClientAt) →
          HasMore w h [] (moment_of (h ++ take c (sends_all (by_client w (λ a. pends_as w j (pending_op a.state)) o)).lines))
      by None = none_told c [] refl
      by (Some a) = by_op (pending_op a.state)

  abbrev GoalAt : moves.Action → ℕ → Type 0
  GoalAt a c =
      Lawful s (joined (take c (led_by a (drive.drive_events s w e f a)))) →
      Seems (after_all s (joined (take c (led_by a (drive.drive_events s w e f a)))))
      (moment_of (h ++ take c (with_event a (sends_all (acts w m.chosen a)).lines)))

  by_event : (ev : Told) → m.action ≡ Opens ev → going_in w (Opens ev) ≡ None → input_in w (Opens ev) ≡ None → (c : ℕ) →
      count ≡ c → GoalAt (Opens ev) c
  unfolding begins delivers injects times_out sent_lines
  by_event (scenario.Deliver n) act rests none c at = found_led n (slice_get w.network.messages n) refl none c
  by_event (scenario.Inject d bytes) act rests none c at = injected_led d bytes (at_number w.drives d) refl c
  by_event (scenario.Fail d) act rests none c at =
      let all = fails_all d f.kept.components 0 in
      other_event (scenario.Fail d) refl refl (drive.fails_from d f.kept.components 0)
      (none_performed laws.book w h m count f g s pairs k writes new more _ [] (failing_none _ all)
      (λ l q c_ d_ gone. failing_stays s _ q all gone)) c
  by_event (scenario.Timeout j i) act rests none c at =
      led_none (scenario.Timeout j i) here (append-nil (moment_of h).marks) [] (sends_all (times_out w j i)).lines refl
      (timed_none j i (idle j i (at_number w.clients j) rests)) c
  by_event (scenario.Drive d key capacity) act rests none c at = by (knows_drive w.server d) refl
    where
      by : (b : Bool) → knows_drive w.server d ≡ b → GoalAt (Opens (scenario.Drive d key capacity)) c
      by true is =
          let x = added_known d key capacity is in
          λ l. known_event (scenario.Drive d key capacity) act x.0 x.1 c at
      by false is = absurd (cc (rw is at none))
  by_event (scenario.Disk d key capacity) act rests none c at = by (knows_drive w.server d) refl
    where
      by : (b : Bool) → knows_drive w.server d ≡ b → GoalAt (Opens (scenario.Disk d key capacity)) c
      by true is =
          let x = stored_known d key capacity is in
          λ l. known_event (scenario.Disk d key capacity) act x.0 x.1 c at
      by false is = absurd (cc (rw is at none))
  by_event ev act rests none c at = other_event ev refl none [] gives_nothing c

  by_action : (a : moves.Action) → m.action ≡ a → going_in w a ≡ None → input_in w a ≡ None → GoalAt a count
  unfolding delivers times_out sent_lines
  by_action (Opens ev) act rests none = by_event ev act rests none count refl
  by_action (Delivers n) act rests none = found_unled n (slice_get w.network.messages n) refl none count
  by_action (TimesOut c i) act rests none =
      λ l.
      no_act count (moment_of (h ++ take count (sends_all (times_out w c i)).lines))
      (none_told count (sends_all (times_out w c i)).lines (timed_none c i (idle c i (at_number w.clients c) rests)))
  by_action (Pends c) act rests none =
      λ l. no_act count (moment_of (h ++ take count (sends_all (pends w c)).lines)) (pended c count)

  pub each : (rests : going_in w m.action ≡ None) → input_in w m.action ≡ None →
      Seems (after_all s (joined (take count (events_of s w e f m)))) (moment_of (lines_to w h m count))
  each rests none =
      subst (λ (ls : Lines). Seems (after_all s (joined (take count ls))) (moment_of (lines_to w h m count))) (sym lines)
      (by_action m.action refl rests none (subst (λ (ls : Lines). Lawful s (joined (take count ls))) lines k.lawful))
    where
      lines : events_of s w e f m ≡ led_by m.action (drive.drive_events s w e f m.action)
      lines = rw (rests, none) refl

pub drives_show_marks : DriveMarkLaws → DrivesShowMarks
drives_show_marks laws w h m count f g s pairs k writes rests none more x there =
    let r = each laws w h m count f g s pairs k writes more.pairs more.more rests none in (
      (let one : Some x ≡ Some f =
          sym there ∙ ap (λ (z : Server). file_at z.files f.kept.number) r.0 ∙ k.shown.follows.there in
          let is : x ≡ f = cc one in
          ap (λ (z : File). z.kept.map) is),
      r.1,
    )
