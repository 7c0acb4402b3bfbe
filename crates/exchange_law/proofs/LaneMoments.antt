-- What the empty history has, and each move that is due at a moment keeps, holds at each moment of a history.
use Rattle.std.proofs.Common.{◌≡◌, ◌++◌, ◌∷◌, [], List, None, refl, sym, ap, subst, ◌∙◌, append_assoc}
use Rattle.std.proofs.lemmas.List.{append-nil}
use Rattle.scenario_text.specs.declared.event.Event.{Event}
use Rattle.scenario_text.specs.declared.line.Line.{Line}
use Rattle.scenario_text.specs.declared.line.Line.TheVariants as line
use Rattle.world_history.specs.State.{World, empty_world}
use Rattle.world_history.specs.Sending.{Move, move}
use Rattle.world_history.specs.Plans.{Plan, plan_of}
use Rattle.world_history.specs.Runs.{world_after, lines_of, AreDue, plan_after, IsOver, Carries}
use Rattle.world_history.specs.History.{Step, AreCarried, end_of, lines_of_steps, StandsFor, OneEventMore}
use Rattle.world_history.specs.Refusals.{refusal}
use Rattle.world_history.proofs.Runs.{due_more, plan_more}
use Rattle.history_law.specs.BookMoments.{IsMoment, lines_so_far, lines_in}
use Rattle.history_law.proofs.Moments.{so_far_more, IsKept}

world_more : (w : World) (ms : List Move) (m : Move) → (move (world_after w ms) m).world ≡ world_after w (ms ++ m ∷ [])
world_more w [] m = refl
world_more w (x ∷ ms) m = world_more (move w x).world ms m

module _ (further : OneEventMore) (P : World → List Line → Type 0) (kept : IsKept P) where
  module _ (v : World) (h : List Line) (e : Event) (s : StandsFor v h) (allowed : refusal v e ≡ None) where
    -- the moves of an event, behind its first ones
    kept_moves : (front : List Move) → AreDue (plan_of v e) v front → (ms : List Move)
        → AreDue (plan_after (plan_of v e) front) (world_after v front) ms
        → P (world_after v front) (h ++ lines_so_far v e front)
        → P (world_after (world_after v front) ms) (h ++ lines_so_far v e (front ++ ms))
    kept_moves front made [] d x =
        subst (λ (ms : List Move). P (world_after v front) (h ++ lines_so_far v e ms)) (sym (append-nil front)) x
    kept_moves front made (m ∷ ms) d x =
        let w : World = world_after v front in
        let next : P (move w m).world ((h ++ lines_so_far v e front) ++ lines_in w m) =
        kept.moves w (h ++ lines_so_far v e front) (record {
          before = v;
          history = h;
          stands = s;
          event = e;
          allowed = allowed;
          moves = front;
          are_due = made;
          world_is = refl;
          lines_are = refl;
        }) m d.0 x in
        let lines : (h ++ lines_so_far v e front) ++ lines_in w m ≡ h ++ lines_so_far v e (front ++ m ∷ []) =
        append_assoc h (lines_so_far v e front) (lines_in w m)
        ∙ ap (λ (ls : List Line). h ++ ls) (sym (so_far_more v e front m d.0)) in
        let here : P (world_after v (front ++ m ∷ [])) (h ++ lines_so_far v e (front ++ m ∷ [])) =
        subst (λ (u : World). P u (h ++ lines_so_far v e (front ++ m ∷ []))) (world_more v front m)
        (subst (P (move w m).world) lines next) in
        let more : AreDue (plan_after (plan_of v e) (front ++ m ∷ [])) (world_after v (front ++ m ∷ [])) ms =
        subst (λ (u : World). AreDue (plan_after (plan_of v e) (front ++ m ∷ [])) u ms) (world_more v front m)
        (subst (λ (q : Plan). AreDue q (move w m).world ms) (sym (plan_more (plan_of v e) front m)) d.1) in
        subst (λ (u : World). P (world_after u ms) (h ++ lines_so_far v e (front ++ m ∷ ms))) (sym (world_more v front m))
        (subst (λ (ns : List Move). P (world_after (world_after v (front ++ m ∷ [])) ms) (h ++ lines_so_far v e ns))
        (append_assoc front (m ∷ []) ms)
        (kept_moves (front ++ m ∷ []) (due_more (plan_of v e) v front m made d.0) ms more here))

    -- from its begin on
    kept_event : (ms : List Move) → AreDue (plan_of v e) v ms → P v h → P (world_after v ms) (h ++ lines_so_far v e ms)
    kept_event ms d x = kept_moves [] tt ms d (subst (P v) (sym (append-nil h)) x)

  -- an event has a move
  kept_whole : (v u : World) (h : List Line) (s : Step) → StandsFor v h → (c : Carries v s.event s.lines u)
      → (ms : List Move) → c.moves ≡ ms → P v h → P u (h ++ s.lines)
  kept_whole v u h s stands c [] is x =
      absurd (cc (subst (λ (l : List Move). IsOver (plan_after (plan_of v s.event) l) u) is c.over))
  kept_whole v u h s stands c (m ∷ ms) is x =
      let due : AreDue (plan_of v s.event) v (m ∷ ms) = subst (AreDue (plan_of v s.event) v) is c.are_due in
      let lines : s.lines ≡ line.Event s.event ∷ lines_of v (m ∷ ms) =
      c.lines_are ∙ ap (λ (l : List Move). line.Event s.event ∷ lines_of v l) is in
      subst (λ (y : World). P y (h ++ s.lines)) (sym (c.world_is ∙ ap (world_after v) is))
      (subst (P (world_after v (m ∷ ms))) (ap (λ (l : List Line). h ++ l) (sym lines))
      (kept_event v h s.event stands c.allowed (m ∷ ms) due x))

  kept_steps : (w : World) (h : List Line) (steps : List Step) → StandsFor w h → AreCarried w steps → P w h
      → P (end_of w steps) (h ++ lines_of_steps steps)
  kept_steps w h [] stands carried x = subst (P w) (sym (append-nil h)) x
  kept_steps w h (s ∷ steps) stands carried x =
      subst (P (end_of s.after steps)) (append_assoc h s.lines (lines_of_steps steps))
      (kept_steps s.after (h ++ s.lines) steps (further w s.after h s.lines s.event stands carried.0) carried.1
      (kept_whole w s.after h s stands carried.0 carried.0.moves refl x))

  pub stands : (w : World) (h : List Line) → StandsFor w h → P w h
  stands w h s =
      subst (λ (v : World). P v h) (sym s.world_is)
      (subst (P (end_of empty_world s.steps)) (sym s.lines_are)
      (kept_steps empty_world [] s.steps
      (record { steps = []; carried = tt; world_is = refl; lines_are = refl }) s.carried kept.starts))

  -- of each moment
  pub moment : (w : World) (h : List Line) → IsMoment w h → P w h
  moment w h k =
      subst (λ (v : World). P v h) (sym k.world_is)
      (subst (P (world_after k.before k.moves)) (sym k.lines_are)
      (kept_event k.before k.history k.event k.stands k.allowed k.moves k.are_due
      (stands k.before k.history k.stands)))
