-- The drives that are read off the lines are those of each moment, so those that failed are among those that the lines tell.
use Rattle.std.proofs.Common.{◌≡◌, ◌++◌, ℕ, true, false, List, Option, Some, None, refl, sym, ap, subst, ◌∙◌}
use Rattle.std.proofs.lemmas.Bool.{true≢false}
use Rattle.scenario_text.specs.declared.event.Event.{Event}
use Rattle.scenario_text.specs.declared.event.Event.TheVariants as event
use Rattle.scenario_text.specs.declared.line.Line.{Line}
use Rattle.world_history.specs.History.{OneEventMore}
use Rattle.world_history.specs.Moves.{Action, Opens}
use Rattle.world_history.specs.Plans.{due, due_in, due_by}
use Rattle.world_history.specs.Refusals.{refusal, if_failed, unless_down, first_of}
use Rattle.world_history.specs.Sending.{Move, move}
use Rattle.world_history.specs.State.{World, DriveAt, at_number, with_down}
use Rattle.history_law.specs.BookMoments.{IsMoment, plan_at, lines_in}
use Rattle.history_law.proofs.DriveEvents.{IsRead, kept}
use Rattle.history_law.proofs.DriveLines.{drive_read}
use Rattle.history_law.proofs.Moments.{no_event}
use Rattle.exchange_law.proofs.SlotMoments.{always}
use Rattle.component_law.proofs.Failed.{declared_have_failed}
use Rattle.component_law.proofs.NextMoves.{first_begun}
use Rattle.file_simulation.specs.Components.{has_failed}
use Rattle.headline_law.specs.Ending.{FailedAreRead}

-- ---- at each moment

read_on : (w : World) (h : List Line) (k : IsMoment w h) (m : Move) → due (plan_at k) w ≡ Some m.action → IsRead w h →
    IsRead (move w m).world (h ++ lines_in w m)
read_on w h k m d r = by (plan_at k).opening refl
  where
    first : (e : Event) → Opens e ≡ m.action → IsRead (move w m).world (h ++ lines_in w m)
    first e is =
        subst (λ (a : Action). IsRead (move w (record { action = a; chosen = m.chosen })).world
        (h ++ lines_in w (record { action = a; chosen = m.chosen }))) is
        (kept.opens w h e m.chosen r (first_begun w h k e (d ∙ ap (λ (a : Action). Some a) (sym is))).allowed)

    by : (o : Option Event) → (plan_at k).opening ≡ o → IsRead (move w m).world (h ++ lines_in w m)
    by (Some e) is = first e (cc (sym (ap (due_in w (plan_at k).rule) is) ∙ d))
    by None is =
        let later : due_by w (plan_at k).rule ≡ Some m.action = sym (ap (due_in w (plan_at k).rule) is) ∙ d in
        subst (λ (ls : List Line). IsRead (move w m).world (h ++ ls))
        (sym (no_event w (plan_at k).rule m.action (move w m).lines later)) (kept.moves w h (plan_at k).rule m r later)

pub read_there : OneEventMore → (w : World) (h : List Line) → IsMoment w h → IsRead w h
read_there more w h k =
    always IsRead (record { starts = kept.starts; moves = λ u g n m d r. read_on u g n m d r }) more w h k

-- ---- drives that failed

declarable : (w : World) (d : ℕ) → has_failed (at_number w.drives d) ≡ true →
    refusal (with_down w false) (event.Declare d) ≡ None
unfolding refusal
declarable w d dead = by (at_number w.drives d) dead
  where
    by : (o : Option DriveAt) → has_failed o ≡ true → first_of (if_failed o) (unless_down (with_down w false)) ≡ None
    by None e = absurd (true≢false (sym e))
    by (Some a) e = rw e refl

pub failed_are_read : OneEventMore → FailedAreRead
failed_are_read more w h m count f g s k d dead =
    let r : IsRead w h = read_there more w h k.moment in
    declared_have_failed (with_down w false) h d (drive_read w r.injected h d r.drives) (declarable w d dead)
