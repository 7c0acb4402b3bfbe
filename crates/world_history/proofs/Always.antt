-- What each event's beginning and each later move keep holds of every world that stands for a history.
use Rattle.std.proofs.Common.{◌≡◌, ℕ, ◌++◌, ◌∷◌, [], List, Some, None, refl, sym, ap, subst, ◌∙◌, append_assoc}
use Rattle.std.proofs.lemmas.List.{append-nil}
use Rattle.scenario_text.specs.declared.event.Event.{Event}
use Rattle.scenario_text.specs.declared.line.Line.{Line}
use Rattle.scenario_text.specs.declared.line.Line.TheVariants as line
use Rattle.world_history.specs.State.{World, empty_world}
use Rattle.world_history.specs.Moves.{Action, Opens}
use Rattle.world_history.specs.Sending.{Move, move}
use Rattle.world_history.specs.Plans.{Rule, due_by, rule_after, rule_of, plan_of}
use Rattle.world_history.specs.Runs.{world_after, lines_of, AreDue, plan_after, IsOver, Carries}
use Rattle.world_history.specs.History.{Step, AreCarried, end_of, lines_of_steps, StandsFor}
use Rattle.world_history.specs.Refusals.{refusal}

-- what an event begins with
abbrev pub opening : Event → List ℕ → Move
opening e chosen = record { action = Opens e; chosen = chosen }

-- it holds of the empty world; each event's line with what it begins with keeps it, and so does each later move
pub record IsKept (P : World → List Line → Type 0) : Type 0 where
  pub starts : P empty_world []
  pub opens : (w : World) (h : List Line) (e : Event) (chosen : List ℕ) → P w h → refusal w e ≡ None →
      P (move w (opening e chosen)).world (h ++ line.Event e ∷ (move w (opening e chosen)).lines)
  pub moves : (w : World) (h : List Line) (r : Rule) (m : Move) → P w h → due_by w r ≡ Some m.action →
      P (move w m).world (h ++ (move w m).lines)

module _ (P : World → List Line → Type 0) (k : IsKept P) where
  kept_moves : (r : Rule) (w : World) (h : List Line) (ms : List Move) → AreDue (record {
    opening = None;
    rule =
        r;
  }) w ms → P w h
      → P (world_after w ms) (h ++ lines_of w ms)
  kept_moves r w h [] b x = subst (P w) (sym (append-nil h)) x
  kept_moves r w h (m ∷ ms) b x =
      subst (P (world_after (move w m).world ms)) (append_assoc h (move w m).lines (lines_of (move w m).world ms))
      (kept_moves (rule_after r m.action) (move w m).world (h ++ (move w m).lines) ms b.1 (k.moves w h r m x b.0))

  opened : (w : World) (h : List Line) (e : Event) (m : Move) → Some (Opens e) ≡ Some m.action
      → refusal w e ≡ None → P w h
      → P (move w m).world (h ++ line.Event e ∷ (move w m).lines)
  opened w h e m s a x =
      let same : Opens e ≡ m.action = cc in
      subst (λ (b : Action). P (move w (record {
        action = b;
        chosen =
            m.chosen;
      })).world (h ++ line.Event e ∷ (move w (record { action = b; chosen = m.chosen })).lines)) same
      (k.opens w h e m.chosen x a)

  kept_event : (w : World) (h : List Line) (e : Event) (lines : List Line) (v : World) (ms : List Move)
      (c : Carries w e lines v) → c.moves ≡ ms → P w h
      → P v (h ++ lines)
  kept_event w h e lines v [] c s x =
      absurd (cc (subst (λ (l : List Move). IsOver (plan_after (plan_of w e) l) v) s c.over))
  kept_event w h e lines v (m ∷ ms) c s x =
      let d : AreDue (plan_of w e) w (m ∷ ms) = subst (AreDue (plan_of w e) w) s c.are_due in
      let l : lines ≡ line.Event e ∷ ((move w m).lines ++ lines_of (move w m).world ms) = c.lines_are
      ∙ ap (λ (n : List Move). line.Event e ∷ lines_of w n) s in
      subst (λ (y : World). P y (h ++ lines)) (sym (c.world_is ∙ ap (world_after w) s))
      (subst (P (world_after (move w m).world ms)) (append_assoc h (line.Event e ∷ (move w m).lines) (lines_of
      (move w m).world ms) ∙ ap (λ (n : List Line). h ++ n) (sym l))
      (kept_moves (rule_after (rule_of w e) m.action) (move w m).world (h ++ line.Event e ∷
      (move w m).lines) ms d.1 (opened w h e m d.0 c.allowed x)))

  kept_steps : (w : World) (h : List Line) (steps : List Step) → AreCarried w steps → P w h
      → P (end_of w steps) (h ++ lines_of_steps steps)
  kept_steps w h [] r x = subst (P w) (sym (append-nil h)) x
  kept_steps w h (s ∷ steps) r x =
      subst (P (end_of s.after steps)) (append_assoc h s.lines (lines_of_steps steps))
      (kept_steps s.after (h ++ s.lines) steps r.1 (kept_event w h s.event s.lines s.after r.0.moves r.0 refl x))

  pub always : (w : World) (h : List Line) → StandsFor w h → P w h
  always w h s =
      subst (λ (x : World). P x h) (sym s.world_is)
      (subst (P (end_of empty_world s.steps)) (sym s.lines_are) (kept_steps empty_world [] s.steps s.carried k.starts))
