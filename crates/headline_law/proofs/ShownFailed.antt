-- The drives that failed by the lines are at each moment those of the world that failed.
use Rattle.std.proofs.Common.{◌≡◌, ◌⊎◌, ℕ, ◌++◌, ◌∷◌, [], List, true, false, Option, Some, None, IsSome, refl, sym, ap, subst, ◌∙◌, inl, inr}
use Rattle.std.specs.List.{fold}
use Rattle.std.proofs.lemmas.Bool.{cases_eq, ne_eqb}
use Rattle.std.proofs.lemmas.List.Sums.{fold-append}
use Rattle.server_rules.specs.Numbers.{among}
use Rattle.osd_objects.proofs.Entries.{lookup_set}
use Rattle.scenario_text.specs.declared.event.Event.{Event}
use Rattle.scenario_text.specs.declared.event.Event.TheVariants as event
use Rattle.scenario_text.specs.declared.line.Line.{Line}
use Rattle.scenario_text.specs.declared.line.Line.TheVariants as line
use Rattle.world_history.specs.Calm.{seen, failed_after}
use Rattle.world_history.specs.History.{OneEventMore}
use Rattle.world_history.specs.Moves.{Action, Opens, Delivers, TimesOut, Pends, acts, begins, by_drive}
use Rattle.world_history.specs.Plans.{due, due_in}
use Rattle.world_history.specs.Drives.{fallen}
use Rattle.world_history.specs.Refusals.{refusal, unless_failed}
use Rattle.world_history.specs.Sending.{Move, move, sends_all}
use Rattle.world_history.specs.State.{World, DriveAt, at_number}
use Rattle.history_law.specs.BookMoments.{IsMoment, plan_at, lines_in, with_event}
use Rattle.component_law.proofs.Failed.{failed_in}
use Rattle.component_law.proofs.Shapes.{is_event}
use Rattle.cause_law.proofs.Eventless.{NoEvent, first_plain, opens_plain, later_plain}
use Rattle.exchange_law.proofs.SlotMoments.{always}
use Rattle.file_simulation.specs.Components.{has_failed}
use Rattle.relation_law.specs.Growing.{DrivesGrow, Grows}
use Rattle.exchange_law.proofs.PendingMoves.{opening_allowed}

-- ---- lines

-- the drives that failed by some lines
abbrev failed_by : List ℕ → List Line → List ℕ
failed_by ds h = fold failed_after ds h

plain_line : (ds : List ℕ) (l : Line) → is_event l ≡ false → failed_after ds l ≡ ds
plain_line ds (line.Event e) q = absurd (cc q)
plain_line ds l q = refl

plain_lines : (ds : List ℕ) (ls : List Line) → NoEvent ls → failed_by ds ls ≡ ds
plain_lines ds [] none = refl
plain_lines ds (l ∷ ls) none =
    let r = first_plain l ls none in
    plain_lines (failed_after ds l) ls r.1 ∙ plain_line ds l r.0

-- ---- a move

-- the lines of a move begin no event but its own
pub move_plain : (w : World) (h : List Line) (k : IsMoment w h) (m : Move) → due (plan_at k) w ≡ Some m.action →
    NoEvent (move w m).lines
move_plain w h k m d = by_opening (plan_at k).opening d
  where
    by_opening : (o : Option Event) → due_in w (plan_at k).rule o ≡ Some m.action → NoEvent (move w m).lines
    by_opening None is = later_plain w (plan_at k).rule m.chosen m.action is
    by_opening (Some e) is =
        let same : Opens e ≡ m.action = cc is in
        subst (λ (a : Action). NoEvent (sends_all (acts w m.chosen a)).lines) same (opens_plain w m.chosen e)

-- so a drive fails by them only if the event is its failure
one_more : (w : World) (h : List Line) (m : Move) (action : Action) → m.action ≡ action → NoEvent (move w m).lines →
    (d : ℕ) (ds : List ℕ) → among d (failed_by ds (with_event action (move w m).lines)) ≡ true →
    (among d ds ≡ true) ⊎ (action ≡ Opens (event.Fail d))
unfolding among
one_more w h m (Opens (event.Fail e)) is none d ds in_ =
    elim (cases_eq d e) [
      | inl same ↦ inr (ap (λ (n : ℕ). Opens (event.Fail n)) (sym same))
      | inr other ↦
          inl
          (rw (ne_eqb d e other) at
          (sym (ap (λ (xs : List ℕ). among d xs) (plain_lines (e ∷ ds) (move w m).lines none)) ∙ in_))
    ]
one_more w h m (Opens e) is none d ds in_ =
    inl (sym (ap (λ (xs : List ℕ). among d xs) (plain_lines ds (move w m).lines none)) ∙ in_)
one_more w h m (Delivers n) is none d ds in_ =
    inl (sym (ap (λ (xs : List ℕ). among d xs) (plain_lines ds (move w m).lines none)) ∙ in_)
one_more w h m (TimesOut c k) is none d ds in_ =
    inl (sym (ap (λ (xs : List ℕ). among d xs) (plain_lines ds (move w m).lines none)) ∙ in_)
one_more w h m (Pends c) is none d ds in_ =
    inl (sym (ap (λ (xs : List ℕ). among d xs) (plain_lines ds (move w m).lines none)) ∙ in_)

-- its failure fails it
fails : (w : World) (chosen : List ℕ) (d : ℕ) (o : Option DriveAt) → at_number w.drives d ≡ o → unless_failed o ≡ None →
    has_failed (at_number (acts w chosen (Opens (event.Fail d))).world.drives d) ≡ true
unfolding begins
fails w chosen d None there allowed = absurd (cc allowed)
fails w chosen d (Some a) there allowed =
    ap (λ (o : Option DriveAt). has_failed (at_number (by_drive w d fallen o).drives d)) there
    ∙ ap (λ (o : Option DriveAt). has_failed o) (lookup_set w.drives d (fallen a) (subst IsSome (sym there) refl))

still_failed : (a b : Option DriveAt) → Grows a b → has_failed a ≡ true → has_failed b ≡ true
still_failed None b g e = absurd (cc e)
still_failed (Some a) None g e = absurd g
still_failed (Some a) (Some b) g e = g.failed e

abbrev Failed : World → List Line → Type 0
Failed w h = (d : ℕ) → among d (failed_by [] h) ≡ true → has_failed (at_number w.drives d) ≡ true

goes_on : DrivesGrow → (w : World) (h : List Line) (k : IsMoment w h) (m : Move) → due (plan_at k) w ≡ Some m.action →
    Failed w h → Failed (move w m).world (h ++ lines_in w m)
unfolding refusal
goes_on grow w h k m d before n in_ =
    elim (one_more w h m m.action refl (move_plain w h k m d) n (failed_by [] h)
    (sym (ap (λ (xs : List ℕ). among n xs) (fold-append failed_after [] h (lines_in w m))) ∙ in_)) [
      | inl old ↦
          still_failed (at_number w.drives n) (at_number (move w m).world.drives n) (grow w h k m d n) (before n old)
      | inr now ↦
          subst (λ (a : Action). has_failed (at_number (acts w m.chosen a).world.drives n) ≡ true) (sym now)
          (fails w m.chosen n (at_number w.drives n) refl
          (opening_allowed w h k (event.Fail n) (d ∙ ap (λ (a : Action). Some a) now)))
    ]

none_among : (d : ℕ) → among d [] ≡ true → ⊥
unfolding among
none_among d e = cc e

pub failed_have : OneEventMore → DrivesGrow → (w : World) (h : List Line) → IsMoment w h → (d : ℕ) →
    among d (seen h).moment.failed ≡ true → has_failed (at_number w.drives d) ≡ true
failed_have more grow w h k d in_ =
    always Failed (record {
      starts = λ n none. absurd (none_among n none);
      moves = λ u g j m e before. goes_on grow u g j m e before;
    }) more w h k d (sym (ap (λ (xs : List ℕ). among d xs) (failed_in h)) ∙ in_)
