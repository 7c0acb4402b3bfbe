-- A drive that the server has offline has failed, at each moment.
use Rattle.std.proofs.Common.{◌≡◌, ◌∷◌, [], true≢false, ℕ, List, Bool, true, false, Option, Some, None, Result, Ok, Err, IsSome, slice_get, refl, sym, ap, subst, ◌∙◌, inl, inr, if◌then◌else◌}
use Rattle.std.proofs.lemmas.Bool.{cases_eq}
use Rattle.osd_lists.specs.declared.node.Node.TheVariants as node
use Rattle.osd_commands.specs.declared.commands.Command.{Command}
use Rattle.osd_commands.specs.declared.commands.CommandErr.{CommandErr}
use Rattle.osd_commands.specs.Commands.{reading}
use Rattle.osd_objects.proofs.Entries.{lookup_set, lookup_set_beside, lookup_beside}
use Rattle.server_rules.specs.History as server_input
use Rattle.scenario_text.specs.declared.event.Event.{Event}
use Rattle.scenario_text.specs.declared.event.Event.TheVariants as event
use Rattle.scenario_text.specs.declared.event.Sender.TheVariants as sender
use Rattle.scenario_text.specs.declared.event.Machine.TheVariants as machine
use Rattle.scenario_text.specs.declared.line.Line.{Line}
use Rattle.world_history.specs.ServerNames as server_rules
use Rattle.world_history.specs.declared.messages.Posted.{Posted}
use Rattle.world_history.specs.State.{DriveAt, World, at_number, with_number, and_number, and_drive, empty_world}
use Rattle.world_history.specs.Spelled.{party_of}
use Rattle.world_history.specs.Drives.{judges, command_in, made_drive}
use Rattle.world_history.specs.Moves.{Act, Action, Opens, gives, changed, knows_drive, known_drive, adds_drive, begins, acts}
use Rattle.world_history.specs.Sending.{Move}
use Rattle.world_history.specs.Plans.{Plan, due, due_in, went_on, plan_of}
use Rattle.world_history.specs.Runs.{world_after, plan_after}
use Rattle.world_history.specs.History.{OneEventMore}
use Rattle.world_history.specs.Laws.{shown}
use Rattle.world_history.specs.Refusals.{refusal, if_failed, unless_down, of_new_drive}
use Rattle.world_history.proofs.ReadMessages.{shown_get, never_opens}
use Rattle.world_history.proofs.Runs.{no_opening}
use Rattle.world_history.proofs.Causes.{no_cause}
use Rattle.history_law.specs.Moves.{given_in, IsForServer, Turns, Raised, Timed, Falls, Crashed, Reopened, drive_event, MoveCases}
use Rattle.history_law.proofs.Moves.{none_added, each_act}
use Rattle.history_law.specs.BookMoments.{IsMoment, plan_at}
use Rattle.history_law.proofs.DriveEvents.{new_there}
use Rattle.exchange_law.proofs.SlotMoments.{always}
use Rattle.component_law.specs.Moments.{WritesToOthers, ServerWritesToOthers}
use Rattle.component_law.proofs.Failed.{has_failed, not_alive}
use Rattle.component_law.specs.Listed.{is_offline, IsOffline}
use Rattle.component_law.specs.Offline.{OfflineHaveFailed}
use Rattle.component_law.proofs.OfflineServer.{DeclaresNone, step_back, declared_back}

-- ---- a move

-- drives that failed are failed, and no further drive is offline
record Stays (w v : World) : Type 0 where
  drives : (d : ℕ) → has_failed (at_number w.drives d) ≡ true → has_failed (at_number v.drives d) ≡ true
  known : (d : ℕ) → IsOffline v.server.drives d → IsOffline w.server.drives d

-- ---- what a drive does

judged_fails : (a : DriveAt) (r : Result Command CommandErr) → a.failed ≡ true → (judges a r).drive.failed ≡ true
unfolding judges
judged_fails a (Ok c) e = e
judged_fails a (Err x) e = e

turned_fails : (a b : DriveAt) → Turns a b → a.failed ≡ true → b.failed ≡ true
turned_fails a b (Raised format is) e = ap (λ (x : DriveAt). x.failed) is ∙ e
turned_fails a b (Timed time is) e = ap (λ (x : DriveAt). x.failed) is ∙ e
turned_fails a b (Falls is) e = ap (λ (x : DriveAt). x.failed) is
turned_fails a b (Crashed is) e = ap (λ (x : DriveAt). x.failed) is ∙ e
turned_fails a b (Reopened is) e = ap (λ (x : DriveAt). x.failed) is ∙ e

-- ---- any action

-- an action that makes no drive and declares none
abbrev MakesNone : Action → Type 0
MakesNone (Opens (event.Drive d key capacity)) = ⊥
MakesNone (Opens (event.Disk d key capacity)) = ⊥
MakesNone (Opens (event.Declare d)) = ⊥
MakesNone action = Unit {0}

makes_one : (d : ℕ) (key : List ℕ) (capacity : ℕ) (stored : Bool)
    → MakesNone (Opens (drive_event d key capacity stored)) → ⊥
makes_one d key capacity true none = none
makes_one d key capacity false none = none

-- so it gives the server no order to declare one
none_declared : (action : Action) (d : ℕ) → MakesNone action
    → given_in action ≡ Some (server_input.Obeys server_rules.ToDeclare d) → ⊥
none_declared (Opens (event.File f m tag)) d none is = cc is
none_declared (Opens (event.ZonedFile f m tag)) d none is = cc is
none_declared (Opens (event.Format format)) d none is = cc is
none_declared (Opens (event.Zone n zone)) d none is = cc is
none_declared (Opens (event.Resend sender.Server)) d none is = cc is
none_declared (Opens (event.Recall f)) d none is = cc is
none_declared (Opens (event.Revoke f)) d none is = cc is
none_declared (Opens (event.Rebuild f)) d none is = cc is
none_declared (Opens (event.Audit f)) d none is = cc is
none_declared (Opens (event.Declare n)) d none is = none
none_declared (Opens (event.Crash machine.Server)) d none is = cc is
none_declared (Opens (event.Reopen machine.Server)) d none is = cc is
none_declared action d none is = cc is

-- no message of the server is for itself
abbrev GoToOthers : World → Type 0
GoToOthers w =
    (n : ℕ) (p : Posted) → slice_get w.network.messages n ≡ Some p → p.message.to ≡ node.Server
    → p.message.from ≡ node.Server → ⊥

module _ (w : World) where
  same : (v : World) → v.drives ≡ w.drives → v.server ≡ w.server → Stays w v
  same v drives server = record {
    drives = λ d f. ap (λ (ds : List (ℕ × DriveAt)). has_failed (at_number ds d)) drives ∙ f;
    known = λ d o. subst (λ (s : server_rules.Server). IsOffline s.drives d) server o;
  }

  -- one drive changes, and stays failed where it was
  put_drive : (k : ℕ) (a b : DriveAt) → at_number w.drives k ≡ Some a → (a.failed ≡ true → b.failed ≡ true)
      → (v : World) → v.drives ≡ with_number w.drives k b → v.server ≡ w.server → Stays w v
  put_drive k a b found keeps v drives server = record {
    drives = λ d f. ap (λ (ds : List (ℕ × DriveAt)). has_failed (at_number ds d)) drives ∙ each d f;
    known = λ d o. subst (λ (s : server_rules.Server). IsOffline s.drives d) server o;
  }
    where
      each : (d : ℕ) → has_failed (at_number w.drives d) ≡ true → has_failed (at_number (with_number w.drives k b) d) ≡ true
      each d f = elim (cases_eq d k) [
        | inl it ↦
            ap (λ (j : ℕ). has_failed (at_number (with_number w.drives k b) j)) it
            ∙ ap has_failed (lookup_set w.drives k b (subst IsSome (sym found) refl))
            ∙ keeps (sym (ap has_failed found) ∙ sym (ap (λ (j : ℕ). has_failed (at_number w.drives j)) it) ∙ f)
        | inr other ↦ ap has_failed (lookup_set_beside w.drives k d b other) ∙ f
      ]

  module _ (others : GoToOthers w) (action : Action) (none : MakesNone action) where
    declares_none : (i : server_input.Input) → IsForServer w action i → DeclaresNone i
    declares_none (server_input.Hears now from m) (d, now_is, from_is, read, number, awake) =
        λ e. others d.number d.posted d.there d.receiver (sym from_is ∙ e)
    declares_none (server_input.Obeys server_rules.ToDeclare d) is = none_declared action d none is
    declares_none (server_input.Adds d) is = absurd (none_added w action d is)
    declares_none i is = tt

    cases : (chosen : List ℕ) → MoveCases w chosen action (λ (a : Act). Stays w a.world)
    cases chosen = record {
      rests = λ ms said told quiet. same _ refl refl;
      refused = λ c a found op is e why. same _ refl refl;
      clock = λ time. same _ refl refl;
      serves = λ ms said i is. record {
        drives = λ d f. f;
        known = λ d. step_back w.server chosen i (declares_none i is) d;
      };
      goes = λ ms said c a found i is. same _ refl refl;
      comes = λ c is. same _ refl refl;
      stops = λ c a found. same _ refl refl;
      judged = λ ms said d a found deaf m number.
          put_drive d a (judges a (command_in m.posted.message.body)).drive found
          (judged_fails a (command_in m.posted.message.body)) _ refl refl;
      injected = λ d bytes is a found.
          put_drive d a (judges a (reading bytes)).drive found (judged_fails a (reading bytes)) _ refl refl;
      turns = λ d a b found turns. put_drive d a b found (turned_fails a b turns) _ refl refl;
      known = λ d key capacity stored is knows. absurd (makes_one d key capacity stored (subst MakesNone is none));
      adds = λ d key capacity stored is knows. absurd (makes_one d key capacity stored (subst MakesNone is none));
    }

  acts_stay : GoToOthers w → (chosen : List ℕ) (action : Action) → MakesNone action → Stays w (acts w chosen action).world
  acts_stay others chosen action none =
      each_act w chosen (λ (a : Act). Stays w a.world) action (cases others action none chosen)

-- ---- at a moment

abbrev AllFailed : World → List Line → Type 0
AllFailed w h = (d : ℕ) → IsOffline w.server.drives d → has_failed (at_number w.drives d) ≡ true

not_refused : (v w : World) (e x : Event) (ms : List Move) → w ≡ world_after v ms → refusal v e ≡ None
    → due (plan_after (plan_of v e) ms) w ≡ Some (Opens x) → refusal w x ≡ None
not_refused v w e x [] is allowed d =
    let same_action : Opens e ≡ Opens x = cc d in
    let its : e ≡ x = cc same_action in
    subst (λ (y : Event). refusal w y ≡ None) its (subst (λ (u : World). refusal u e ≡ None) (sym is) allowed)
not_refused v w e x (m ∷ ms) is allowed d =
    let p : Plan = plan_after (went_on (plan_of v e) m.action) ms in
    absurd (never_opens w p.rule x (sym (ap (due_in w p.rule) (no_opening (went_on (plan_of v e) m.action) ms refl)) ∙ d))

declared_at : (w : World) (d : ℕ) → refusal w (event.Declare d) ≡ None → has_failed (at_number w.drives d) ≡ true
unfolding refusal
declared_at w d e = not_alive (at_number w.drives d) (no_cause (if_failed (at_number w.drives d)) (unless_down w) e).0

-- a drive that comes is new
comes : (w : World) (d : ℕ) (key : List ℕ) (capacity : ℕ) (stored : Bool) → of_new_drive w d ≡ None
    → Stays w (adds_drive w d key capacity stored).world
unfolding gives
comes w d key capacity stored allowed = by (knows_drive w.server d)
  where
    new : at_number w.drives d ≡ None
    new = new_there (at_number w.drives d) w allowed

    still_failed : (q : ℕ) → has_failed (at_number w.drives q) ≡ true
        → has_failed (at_number (and_number w.drives d (made_drive d key capacity stored)) q) ≡ true
    still_failed q f = elim (cases_eq q d) [
      | inl it ↦ absurd (true≢false (sym f ∙ ap (λ (j : ℕ). has_failed (at_number w.drives j)) it ∙ ap has_failed new))
      | inr other ↦ ap has_failed (lookup_beside w.drives d q (made_drive d key capacity stored) other) ∙ f
    ]

    by : (b : Bool) → Stays w (if b then changed (and_drive w d (made_drive d key capacity stored))
        else gives (and_drive w d (made_drive d key capacity stored)) [] (server_input.Adds (known_drive d key capacity))).world
    by true = record { drives = still_failed; known = λ q o. o }
    by false = record {
      drives = still_failed;
      known = λ q o. step_back w.server [] (server_input.Adds (known_drive d key capacity)) refl q o;
    }

declares : (w : World) (h : List Line) (chosen : List ℕ) (d : ℕ) → has_failed (at_number w.drives d) ≡ true
    → AllFailed w h → AllFailed (begins w chosen (event.Declare d)).world h
unfolding begins gives
declares w h chosen d failed all n o = elim (cases_eq n d) [
  | inl it ↦ ap (λ (j : ℕ). has_failed (at_number w.drives j)) it ∙ failed
  | inr other ↦ all n (declared_back w.server chosen d n other o)
]

stayed : (w v : World) (h : List Line) → Stays w v → AllFailed w h → AllFailed v h
stayed w v h s all d o = s.drives d (all d (s.known d o))

module _ (one_more : OneEventMore) (apart : ServerWritesToOthers) where
  go_to_others : (w : World) (h : List Line) → IsMoment w h → GoToOthers w
  go_to_others w h k n p found to from =
      let others : WritesToOthers w =
      subst WritesToOthers (sym k.world_is) (apart k.before k.history k.moves k.stands) in
      others n (shown p) (shown_get w.network.messages n p found) (ap party_of from) (ap party_of to)

  goes : (w : World) (h : List Line) (k : IsMoment w h) (chosen : List ℕ) (action : Action)
      → due (plan_at k) w ≡ Some action → AllFailed w h → AllFailed (acts w chosen action).world h
  unfolding refusal begins
  goes w h k chosen (Opens (event.Drive d key capacity)) s all =
      stayed w _ h (comes w d key capacity false (not_refused k.before w k.event _ k.moves k.world_is k.allowed s)) all
  goes w h k chosen (Opens (event.Disk d key capacity)) s all =
      stayed w _ h (comes w d key capacity true (not_refused k.before w k.event _ k.moves k.world_is k.allowed s)) all
  goes w h k chosen (Opens (event.Declare d)) s all =
      declares w h chosen d (declared_at w d (not_refused k.before w k.event _ k.moves k.world_is k.allowed s)) all
  goes w h k chosen (Opens e) s all = stayed w _ h (acts_stay w (go_to_others w h k) chosen (Opens e) tt) all
  goes w h k chosen action s all = stayed w _ h (acts_stay w (go_to_others w h k) chosen action tt) all

  none_offline : AllFailed empty_world []
  unfolding is_offline
  none_offline d o = absurd (true≢false (sym o))

  all_failed : (w : World) (h : List Line) → IsMoment w h → AllFailed w h
  all_failed w h k =
      always AllFailed (record {
        starts = none_offline;
        moves = λ u g j m d all. goes u g j m.chosen m.action d all;
      }) one_more w h k

  failed_there : (o : Option DriveAt) → has_failed o ≡ true → (a : DriveAt) × (o ≡ Some a) × (a.failed ≡ true)
  failed_there None e = absurd (cc e)
  failed_there (Some a) e = (a, refl, e)

  pub offline_have_failed : OfflineHaveFailed
  offline_have_failed w h k d o = failed_there (at_number w.drives d) (all_failed w h k d o)
