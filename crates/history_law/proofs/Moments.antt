-- What the empty world has, and each move that is due at a moment keeps, holds at each moment, with the lines so far.
use Rattle.std.proofs.Common.{◌≡◌, ◌++◌, ◌∷◌, [], List, Some, None, refl, sym, ap, subst, ◌∙◌, append_assoc}
use Rattle.std.proofs.lemmas.List.{append-nil}
use Rattle.scenario_text.specs.declared.event.Event.{Event}
use Rattle.scenario_text.specs.declared.line.Line.{Line}
use Rattle.scenario_text.specs.declared.line.Line.TheVariants as line
use Rattle.world_history.specs.State.{World, empty_world}
use Rattle.world_history.specs.Moves.{Action, Opens, Delivers, TimesOut, Pends}
use Rattle.world_history.specs.Sending.{Move, move}
use Rattle.world_history.specs.Plans.{Plan, Rule, due, due_by, went_on, rule_after, rule_of, plan_of}
use Rattle.world_history.specs.Runs.{world_after, lines_of, AreDue, plan_after, IsOver, Carries}
use Rattle.world_history.specs.History.{Step, AreCarried, end_of, lines_of_steps, StandsFor, OneEventMore}
use Rattle.world_history.specs.Refusals.{refusal}
use Rattle.world_history.proofs.Runs.{due_more, plan_more, world_more, lines_more}
use Rattle.world_history.proofs.ReadMessages.{never_opens}
use Rattle.history_law.specs.Moments.{IsMoment, with_event, lines_so_far, lines_in, plan_at}

-- ---- behind the first action of an event begins no other

later_rule : (r : Rule) (ms : List Move)
    → (q : Rule) × (plan_after (record { opening = None; rule = r }) ms ≡ record { opening = None; rule = q })
later_rule r [] = (r, refl)
later_rule r (m ∷ ms) = later_rule (rule_after r m.action) ms

pub no_event : (w : World) (r : Rule) (action : Action) (ls : List Line) → due_by w r ≡ Some action
    → with_event action ls ≡ ls
no_event w r (Delivers number) ls d = refl
no_event w r (TimesOut c component) ls d = refl
no_event w r (Pends c) ls d = refl
no_event w r (Opens e) ls d = absurd (never_opens w r e d)

pub so_far_more : (v : World) (e : Event) (ms : List Move) (m : Move)
    → due (plan_after (plan_of v e) ms) (world_after v ms) ≡ Some m.action
    → lines_so_far v e (ms ++ m ∷ []) ≡ lines_so_far v e ms ++ lines_in (world_after v ms) m
so_far_more v e [] m d =
    ap (λ (ls : List Line). line.Event e ∷ ls) (append-nil (move v m).lines)
    ∙ ap (λ (a : Action). with_event a (move v m).lines) (same d)
  where
    same : Some (Opens e) ≡ Some m.action → Opens e ≡ m.action
    same x = cc x
so_far_more v e (x ∷ ms) m d =
    let r = later_rule (rule_after (rule_of v e) x.action) ms in
    let w : World = world_after v (x ∷ ms) in
    ap (λ (ls : List Line). line.Event e ∷ ls) (lines_more v (x ∷ ms) m)
    ∙ ap (λ (ls : List Line). lines_so_far v e (x ∷ ms) ++ ls)
    (sym (no_event w r.0 m.action (move w m).lines (sym (ap (λ (q : Plan). due q w) r.1) ∙ d)))

-- ---- the induction

pub record IsKept (P : World → List Line → Type 0) : Type 0 where
  pub starts : P empty_world []
  pub moves : (w : World) (h : List Line) (k : IsMoment w h) (m : Move) → due (plan_at k) w ≡ Some m.action → P w h
      → P (move w m).world (h ++ lines_in w m)

module _ (P : World → List Line → Type 0) (kept : IsKept P) (more : OneEventMore) where
  module _ (v : World) (h : List Line) (stands : StandsFor v h) (e : Event) (allowed : refusal v e ≡ None) where
    abbrev plan : Plan
    plan = plan_of v e

    abbrev At : List Move → Type 0
    At ms = P (world_after v ms) (h ++ lines_so_far v e ms)

    one_more : (ms : List Move) (m : Move) → AreDue plan v ms
        → due (plan_after plan ms) (world_after v ms) ≡ Some m.action → At ms → At (ms ++ m ∷ [])
    one_more ms m a d x =
        let w : World = world_after v ms in
        let k : IsMoment w (h ++ lines_so_far v e ms) = record {
          before = v;
          history = h;
          stands = stands;
          event = e;
          allowed = allowed;
          moves = ms;
          are_due = a;
          world_is = refl;
          lines_are = refl;
        } in
        let y : P (move w m).world ((h ++ lines_so_far v e ms) ++ lines_in w m) =
        kept.moves w (h ++ lines_so_far v e ms) k m d x in
        subst (λ (u : World). P u (h ++ lines_so_far v e (ms ++ m ∷ []))) (sym (world_more v ms m))
        (subst (P (move w m).world)
        (append_assoc h (lines_so_far v e ms) (lines_in w m)
        ∙ ap (λ (l : List Line). h ++ l) (sym (so_far_more v e ms m d))) y)

    goes : (done ms : List Move) → AreDue plan v done → AreDue (plan_after plan done) (world_after v done) ms → At done
        → At (done ++ ms)
    goes done [] a b x = subst At (sym (append-nil done)) x
    goes done (m ∷ ms) a b x =
        subst At (append_assoc done (m ∷ []) ms)
        (goes (done ++ m ∷ []) ms (due_more plan v done m a b.0)
        (subst (λ (p : Plan). AreDue p (world_after v (done ++ m ∷ [])) ms) (sym (plan_more plan done m))
        (subst (λ (w : World). AreDue (went_on (plan_after plan done) m.action) w ms) (sym (world_more v done m)) b.1))
        (one_more done m a b.0 x))

    kept_event : (ms : List Move) → AreDue plan v ms → P v h → At ms
    kept_event ms a x = goes [] ms tt a (subst (P v) (sym (append-nil h)) x)

  carried : (v : World) (h : List Line) (e : Event) (lines : List Line) (w : World) (c : Carries v e lines w)
      (ms : List Move) → c.moves ≡ ms → StandsFor v h → P v h → P w (h ++ lines)
  carried v h e lines w c [] is s x =
      absurd (cc (subst (λ (l : List Move). IsOver (plan_after (plan_of v e) l) w) is c.over))
  carried v h e lines w c (m ∷ ms) is s x =
      let a : AreDue (plan_of v e) v (m ∷ ms) = subst (AreDue (plan_of v e) v) is c.are_due in
      let l : lines ≡ line.Event e ∷ lines_of v (m ∷ ms) = c.lines_are
      ∙ ap (λ (n : List Move). line.Event e ∷ lines_of v n) is in
      subst (λ (y : World). P y (h ++ lines)) (sym (c.world_is ∙ ap (world_after v) is))
      (subst (P (world_after v (m ∷ ms))) (ap (λ (n : List Line). h ++ n) (sym l))
      (kept_event v h s e c.allowed (m ∷ ms) a x))

  kept_steps : (w : World) (h : List Line) (steps : List Step) → AreCarried w steps → StandsFor w h → P w h
      → P (end_of w steps) (h ++ lines_of_steps steps)
  kept_steps w h [] c s x = subst (P w) (sym (append-nil h)) x
  kept_steps w h (t ∷ steps) c s x =
      subst (P (end_of t.after steps)) (append_assoc h t.lines (lines_of_steps steps))
      (kept_steps t.after (h ++ t.lines) steps c.1 (more w t.after h t.lines t.event s c.0)
      (carried w h t.event t.lines t.after c.0 c.0.moves refl s x))

  nothing : StandsFor empty_world []
  nothing = record { steps = []; carried = tt; world_is = refl; lines_are = refl }

  -- so it is of each world that stands for a history
  pub stands_kept : (w : World) (h : List Line) → StandsFor w h → P w h
  stands_kept w h s =
      subst (λ (x : World). P x h) (sym s.world_is)
      (subst (P (end_of empty_world s.steps)) (sym s.lines_are)
      (kept_steps empty_world [] s.steps s.carried nothing kept.starts))

  pub always : (w : World) (h : List Line) → IsMoment w h → P w h
  always w h k =
      subst (λ (v : World). P v h) (sym k.world_is)
      (subst (P (world_after k.before k.moves)) (sym k.lines_are)
      (kept_event k.before k.history k.stands k.event k.allowed k.moves k.are_due
      (stands_kept k.before k.history k.stands)))
