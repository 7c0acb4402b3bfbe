-- The machine at a cut of a move shows the components that were there before the move, if nothing comes to the server, or its
-- step hasn't begun.
-- Towards `OthersShowComponents` (`specs/Parts.antt`).
use Rattle.std.proofs.Common.{◌≡◌, ◌⊎◌, ◌<◌, ◌≤◌, ◌||◌, ◌++◌, ℕ, zero, suc, Bool, true, false, List, [], ◌∷◌, take, nat_lt, drop, length, slice_get, Option, Some, None, refl, sym, ap, subst, ◌∙◌, inl, inr, arith, if◌then◌else◌}
use Rattle.std.specs.Prelude.{◌-◌}
use Rattle.std.proofs.lemmas.Bool.{cases_lt}
use Rattle.std.proofs.lemmas.Bool.Decides.{nat_tests}
use Rattle.scenario_text.specs.declared.line.Line.{Line}
use Rattle.server_rules.specs.Files.{Step as ServerStep}
use Rattle.server_rules.specs.History.{Input}
use Rattle.server_rules.specs.Numbers.{among}
use Rattle.world_history.specs.Book.{step_by}
use Rattle.world_history.specs.Calm.{moment_of}
use Rattle.world_history.specs.Moves.{Action, Opens, Delivers, TimesOut, Pends}
use Rattle.world_history.specs.ReadDrives.{drive_after}
use Rattle.world_history.specs.Sending.{Move, move}
use Rattle.world_history.specs.ServerNames.{Component, File, Note}
use Rattle.world_history.specs.State.{World, DriveAt, at_number}
use Rattle.world_history.specs.Stripes.{is_lost}
use Rattle.history_law.specs.BookMoments.{IsMoment, lines_in}
use Rattle.history_law.specs.Doing.{did_in, input_in}
use Rattle.history_law.specs.Read.{leads}
use Rattle.history_law.proofs.Ending.{next_moment}
use Rattle.fence_law.specs.Machine.{after_all}
use Rattle.fence_law.specs.State.{State, Event}
use Rattle.file_simulation.specs.ClientEvents.{Going, going_in}
use Rattle.file_simulation.specs.Claim.{byte_stored}
use Rattle.file_simulation.specs.Components.{has_failed}
use Rattle.file_simulation.specs.Cuts.{lines_before, notes_behind, rebuilt_ahead}
use Rattle.file_simulation.specs.DriveEvents.{drive_events}
use Rattle.file_simulation.specs.EventLists.{Lines}
use Rattle.file_simulation.specs.Events.{events_at, events_of, joined, led_by}
use Rattle.file_simulation.specs.Showing.{Pairs, ShowsComponent}
use Rattle.relation_law.specs.Frames.{IsOfClient, ServerStays}
use Rattle.relation_law.specs.Steps.{Follows, behind, owed}
use Rattle.relation_law.proofs.FramesParties.{by_client_lines, client_goes}
use Rattle.relation_law.proofs.FramesStay.{all_joined, lines_taken, server_stays_all}
use Rattle.headline_law.specs.Parts.{CutShown, OthersShowComponents, ShowsAll, cut_at, lines_to}
use Rattle.headline_law.proofs.CalmCodes.{file_there}
use Rattle.headline_law.proofs.DriveLawful.{DriveLaws, goes_well, none_guessed}
use Rattle.headline_law.proofs.Lines.{led_alone}
use Rattle.headline_law.proofs.LinesWhole.{before_led}
use Rattle.headline_law.proofs.OtherCutsLines.{TellAlike, begun_alike, early_alike}
use Rattle.headline_law.proofs.ShownWhole.{ShownLaws, drive_is, lost_is, shows}

-- ---- what lines show of a component

-- what is lost by lines is so by others that tell the same of drives
lost_alike : (h u : List Line) → TellAlike h u → (at : Component) → is_lost (moment_of u) at ≡ is_lost (moment_of h) at
lost_alike h u alike at = ap (λ (ds : List ℕ). at.missing || among at.drive ds) alike.failed

-- other lines and another machine show it, if they have of it what these have
shown_as : (h u : List Line) (s t : State) (i : ℕ) (at : Component) → is_lost (moment_of u) at ≡ is_lost (moment_of h) at →
    drive_after u at.drive ≡ drive_after h at.drive → t.lost ≡ s.lost → t.cell ≡ s.cell → ShowsComponent h s i at →
    ShowsComponent u t i at
shown_as h u s t i at lost drive gone cell shown = record {
  lost = λ e. lost ∙ shown.lost (sym (ap (λ (q : ℕ → Bool). q i) gone) ∙ e);
  cells = λ stands z.
      ap (λ (q : ℕ → ℕ → ℕ). q i z) cell ∙ shown.cells (sym lost ∙ stands) z
      ∙ ap (λ (o : Option DriveAt). byte_stored o at.object z) (sym drive);
}

-- ---- events of the first lines

-- before the step begins there are none
early_joined : (a : Action) (lines : Lines) (n : ℕ) → n < lines_before a → joined (take n (led_by a lines)) ≡ []
early_joined (Opens e) lines n low = by (leads e) n low
  where
    by : (b : Bool) (n : ℕ) → n < (if b then 2 else 1) → joined (take n (if b then [] ∷ lines else lines)) ≡ []
    by b zero few = refl
    by true (suc zero) few = refl
    by true (suc (suc n)) few = absurd (omega (arith, few))
    by false (suc n) few = absurd (omega (arith, few))
early_joined a lines zero low = refl
early_joined (Delivers j) lines (suc n) low = absurd (omega (arith, low))
early_joined (TimesOut c j) lines (suc n) low = absurd (omega (arith, low))
early_joined (Pends c) lines (suc n) low = absurd (omega (arith, low))

-- no note is still to be told
early_notes : (a : Action) (o : Option ServerStep) (n : ℕ) → n < lines_before a → notes_behind n a o ≡ []
early_notes a None n low = refl
early_notes a (Some did) n low =
    let early : nat_lt n (lines_before a) ≡ true = grind (arith, nat_tests, low) in
    ap (λ (b : Bool). if b then [] else drop (n - lines_before a) did.notes) early

-- a move of a drive has events at one line at most
one_line : (s : State) (w : World) (e : ℕ → ℕ) (f : File) (a : Action) → length (drive_events s w e f a) ≤ 1
one_line s w e f (Opens x) = omega arith
one_line s w e f (Delivers n) = omega arith
one_line s w e f (TimesOut c n) = omega arith
one_line s w e f (Pends c) = omega arith

-- ---- laws of histories

pub record ShownCutLaws : Type 0 where
  pub shown : ShownLaws
  pub drives : DriveLaws

-- ---- a cut

module _ (laws : ShownCutLaws) (w : World) (h : List Line) (m : Move) (count : ℕ) (f g : File) (s : State) (pairs : Pairs)
    (k : CutShown w h m count f g s pairs) where
  abbrev follows : Follows w h m count f g s
  follows = k.shown.follows

  abbrev events : Lines
  events = events_of s w (owed follows.related) f m

  before : (i : ℕ) (at : Component) → slice_get f.kept.components i ≡ Some at → ShowsComponent h s i at
  before = (k.shown.shown.shown f (file_there laws.shown.book w h m count f g s follows)).components

  -- if no note is still to be told, the machine is the one behind the lines
  as_behind : notes_behind count m.action (did_in w m) ≡ [] → cut_at follows ≡ behind follows.related m count
  unfolding rebuilt_ahead
  as_behind none =
      ap
      (λ (ns : List Note).
      after_all (behind follows.related m count) (rebuilt_ahead (behind follows.related m count) w f ns)) none

  -- ---- before the step begins

  early : count < lines_before m.action → ShowsAll k f.kept.components
  early low i at found =
      let alike = early_alike w h m count low in
      let machine : cut_at follows ≡ s =
      as_behind (early_notes m.action (did_in w m) count low)
      ∙ ap (λ (es : List Event). after_all s es)
      (early_joined m.action (events_at s w (owed follows.related) f m (going_in w m.action)) count low) in
      shown_as h (lines_to w h m count) s (cut_at follows) i at (lost_alike h (lines_to w h m count) alike at)
      (alike.drives at.drive) (ap (λ (t : State). t.lost) machine) (ap (λ (t : State). t.cell) machine) (before i at found)

  -- ---- from the line on with which it begins

  module _ (low : lines_before m.action ≤ count) (nothing : input_in w m.action ≡ None) where
    alike : TellAlike (lines_to w h m count) (h ++ lines_in w m)
    alike = begun_alike w h m follows.moment follows.is_due count low

    next : IsMoment (move w m).world (h ++ lines_in w m)
    next = next_moment w h follows.moment m follows.is_due

    machine : cut_at follows ≡ behind follows.related m count
    machine = as_behind (ap (λ (o : Option Input). notes_behind count m.action (step_by w.server m.chosen o)) nothing)

    -- a client's move leaves drives and cells
    client_shows : (j : Going) → going_in w m.action ≡ Some j → ShowsAll k f.kept.components
    client_shows j goes i at found =
        let stay : ServerStays s (behind follows.related m count) =
        server_stays_all j.client s (joined (take count events))
        (all_joined (IsOfClient j.client) (take count events)
        (lines_taken (IsOfClient j.client) count events (by_client_lines s w (owed follows.related) f m j goes))) in
        let drives : (move w m).world.drives ≡ w.drives =
        (client_goes w h follows.moment m follows.is_due j goes).drives in
        shown_as h (lines_to w h m count) s (cut_at follows) i at
        (sym (lost_alike (lines_to w h m count) (h ++ lines_in w m) alike at)
        ∙ lost_is laws.shown.more laws.shown.grow (move w m).world (h ++ lines_in w m) next at
        ∙ ap (λ (ds : List (ℕ × DriveAt)). at.missing || has_failed (at_number ds at.drive)) drives
        ∙ sym (lost_is laws.shown.more laws.shown.grow w h follows.moment at))
        (sym (alike.drives at.drive)
        ∙ drive_is laws.shown.more laws.shown.grow (move w m).world (h ++ lines_in w m) next at.drive
        ∙ ap (λ (ds : List (ℕ × DriveAt)). at_number ds at.drive) drives
        ∙ sym (drive_is laws.shown.more laws.shown.grow w h follows.moment at.drive))
        (ap (λ (t : State). t.lost) machine ∙ stay.lost) (ap (λ (t : State). t.cell) machine ∙ stay.cell) (before i at found)

    -- at a cut of a drive's move, or of nobody's, all has happened of it
    drive_shows : going_in w m.action ≡ None → ShowsAll k f.kept.components
    drive_shows rests i at found =
        let well =
        goes_well laws.drives w h m count f g s follows rests nothing
        (none_guessed laws.drives w h m count f g s follows rests nothing low) in
        let are : events ≡ led_by m.action (drive_events s w (owed follows.related) f m.action) = rw (rests, nothing) refl in
        let all : joined (take count events) ≡ joined events =
        subst (λ (x : Lines). joined (take count x) ≡ joined x) (sym are)
        (led_alone m.action count (drive_events s w (owed follows.related) f m.action)
        (omega (arith, before_led m.action, one_line s w (owed follows.related) f m.action, low))) in
        let whole : cut_at follows ≡ after_all s (joined events) = machine ∙ ap (λ (es : List Event). after_all s es) all in
        shown_as (h ++ lines_in w m) (lines_to w h m count) (after_all s (joined events)) (cut_at follows) i at
        (sym (lost_alike (lines_to w h m count) (h ++ lines_in w m) alike at)) (sym (alike.drives at.drive))
        (ap (λ (t : State). t.lost) whole) (ap (λ (t : State). t.cell) whole)
        (shows laws.shown.more laws.shown.grow (move w m).world (h ++ lines_in w m) next (after_all s (joined events)) f i at
        well.components found)

    begun : ShowsAll k f.kept.components
    begun = by (going_in w m.action) refl
      where
        by : (o : Option Going) → going_in w m.action ≡ o → ShowsAll k f.kept.components
        by None rests = drive_shows rests
        by (Some j) goes = client_shows j goes

  all_shown : (input_in w m.action ≡ None) ⊎ (count < lines_before m.action) → ShowsAll k f.kept.components
  all_shown (inr few) = early few
  all_shown (inl nothing) = elim (cases_lt count (lines_before m.action)) [
    | inl few ↦ early few
    | inr low ↦ begun (omega (arith, low)) nothing
  ]

pub others_show_components : ShownCutLaws → OthersShowComponents
others_show_components laws w h m count f g s pairs k other = all_shown laws w h m count f g s pairs k other
