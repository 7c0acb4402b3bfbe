-- What the empty history has, and each event's beginning and each later move keep, holds of every lawful history.
use Rattle.std.proofs.Common.{◌≡◌, ◌++◌, ◌∷◌, [], List, Some, None, refl, sym, ap, subst, ◌∙◌, append_assoc}
use Rattle.std.proofs.lemmas.List.{append-nil}
use Rattle.scenario_text.specs.declared.event.Event.{Event}
use Rattle.scenario_text.specs.declared.line.Line.{Line}
use Rattle.scenario_text.specs.declared.line.Line.TheVariants as line
use Rattle.world_history.specs.State.{World, empty_world}
use Rattle.world_history.specs.Moves.{Action, Opens}
use Rattle.world_history.specs.Sending.{Move, move}
use Rattle.world_history.specs.Plans.{Rule, rule_after, rule_of, plan_of}
use Rattle.world_history.specs.Runs.{world_after, lines_of, AreDue, plan_after, IsOver, Carries, CarriesPart}
use Rattle.world_history.specs.History.{Step, AreCarried, end_of, lines_of_steps, StandsFor, Begins, Lawful}
use Rattle.world_history.specs.History.Begins.{Nothing, Part}
use Rattle.world_history.specs.Refusals.{refusal}
use Rattle.world_history.proofs.Always.{opening, IsKept}

-- a history and what a front of the lines behind it leaves out
pub cut_at : (h whole last rest lines : List Line) → h ≡ whole ++ last → lines ≡ last ++ rest → whole ++ lines ≡ h ++ rest
cut_at h whole last rest lines is split =
    ap (λ (l : List Line). whole ++ l) split ∙ sym (append_assoc whole last rest)
    ∙ ap (λ (l : List Line). l ++ rest) (sym is)

module _ (P : World → List Line → Type 0) (k : IsKept P) where
  kept_moves : (r : Rule) (w : World) (h : List Line) (ms : List Move) → AreDue (record { opening = None; rule = r }) w ms
      → P w h → P (world_after w ms) (h ++ lines_of w ms)
  kept_moves r w h [] due x = subst (P w) (sym (append-nil h)) x
  kept_moves r w h (m ∷ ms) due x =
      subst (P (world_after (move w m).world ms)) (append_assoc h (move w m).lines (lines_of (move w m).world ms))
      (kept_moves (rule_after r m.action) (move w m).world (h ++ (move w m).lines) ms due.1 (k.moves w h r m x due.0))

  opened : (w : World) (h : List Line) (e : Event) (m : Move) → Some (Opens e) ≡ Some m.action → refusal w e ≡ None
      → P w h → P (move w m).world (h ++ line.Event e ∷ (move w m).lines)
  opened w h e m is allowed x =
      let same : Opens e ≡ m.action = cc in
      subst (λ (b : Action). P (move w (record { action = b; chosen = m.chosen })).world
      (h ++ line.Event e ∷ (move w (record { action = b; chosen = m.chosen })).lines)) same
      (k.opens w h e m.chosen x allowed)

  -- an event up to one of its moves
  pub kept_part : (w : World) (h : List Line) (e : Event) (m : Move) (ms : List Move) → AreDue (plan_of w e) w (m ∷ ms)
      → refusal w e ≡ None → P w h → P (world_after w (m ∷ ms)) (h ++ line.Event e ∷ lines_of w (m ∷ ms))
  kept_part w h e m ms due allowed x =
      subst (P (world_after (move w m).world ms))
      (append_assoc h (line.Event e ∷ (move w m).lines) (lines_of (move w m).world ms))
      (kept_moves (rule_after (rule_of w e) m.action) (move w m).world (h ++ line.Event e ∷ (move w m).lines) ms due.1
      (opened w h e m due.0 allowed x))

  kept_event : (w : World) (h : List Line) (e : Event) (lines : List Line) (v : World) (ms : List Move)
      (c : Carries w e lines v) → c.moves ≡ ms → P w h → P v (h ++ lines)
  kept_event w h e lines v [] c is x =
      absurd (cc (subst (λ (l : List Move). IsOver (plan_after (plan_of w e) l) v) is c.over))
  kept_event w h e lines v (m ∷ ms) c is x =
      let due : AreDue (plan_of w e) w (m ∷ ms) = subst (AreDue (plan_of w e) w) is c.are_due in
      let lines_are : lines ≡ line.Event e ∷ lines_of w (m ∷ ms) = c.lines_are
      ∙ ap (λ (l : List Move). line.Event e ∷ lines_of w l) is in
      subst (λ (y : World). P y (h ++ lines)) (sym (c.world_is ∙ ap (world_after w) is))
      (subst (P (world_after w (m ∷ ms))) (ap (λ (l : List Line). h ++ l) (sym lines_are))
      (kept_part w h e m ms due c.allowed x))

  kept_steps : (w : World) (h : List Line) (steps : List Step) → AreCarried w steps → P w h
      → P (end_of w steps) (h ++ lines_of_steps steps)
  kept_steps w h [] carried x = subst (P w) (sym (append-nil h)) x
  kept_steps w h (s ∷ steps) carried x =
      subst (P (end_of s.after steps)) (append_assoc h s.lines (lines_of_steps steps))
      (kept_steps s.after (h ++ s.lines) steps carried.1
      (kept_event w h s.event s.lines s.after carried.0.moves carried.0 refl x))

  -- so of each world that stands for a history
  pub stands : (w : World) (h : List Line) → StandsFor w h → P w h
  stands w h s =
      subst (λ (x : World). P x h) (sym s.world_is)
      (subst (P (end_of empty_world s.steps)) (sym s.lines_are)
      (kept_steps empty_world [] s.steps s.carried k.starts))

  part : (w : World) (whole last h : List Line) (e : Event) (c : CarriesPart w e last) (ms : List Move) → c.moves ≡ ms
      → P w whole → h ≡ whole ++ last → (v : World) × (more : List Line) × P v (h ++ more)
  part w whole last h e c [] none x is =
      let lines = (move w (opening e [])).lines in
      let rest = c.part.0 in
      let own : line.Event e ∷ [] ≡ last ++ rest = ap (λ (l : List Move). line.Event e ∷ lines_of w l) (sym none)
      ∙ c.part.1 in (
        (move w (opening e [])).world,
        rest ++ lines,
        subst (P (move w (opening e [])).world) (cut_at h whole last (rest ++ lines) (line.Event e ∷ lines) is
            (ap (λ (l : List Line). l ++ lines) own ∙ append_assoc last rest lines)) (k.opens w whole e [] x c.allowed),
      )
  part w whole last h e c (m ∷ ms) some x is =
      let due : AreDue (plan_of w e) w (m ∷ ms) = subst (AreDue (plan_of w e) w) some c.are_due in
      let lines : line.Event e ∷ lines_of w (m ∷ ms) ≡ last ++ c.part.0 =
      ap (λ (l : List Move). line.Event e ∷ lines_of w l) (sym some) ∙ c.part.1 in (
        world_after w (m ∷ ms),
        c.part.0,
        subst (P (world_after w (m ∷ ms))) (cut_at h whole last c.part.0 (line.Event e ∷ lines_of w (m ∷ ms)) is lines)
            (kept_part w whole e m ms due c.allowed x),
      )

  begun : (w : World) (whole last h : List Line) → P w whole → Begins w last → h ≡ whole ++ last
      → (v : World) × (more : List Line) × P v (h ++ more)
  begun w whole last h x (Nothing none) is = (
    w,
    [],
    subst (P w) (sym (append-nil h ∙ is ∙ ap (λ (l : List Line). whole ++ l) none ∙ append-nil whole)) x,
  )
  begun w whole last h x (Part e c) is = part w whole last h e c c.moves refl x is

  -- so of each lawful history, with the lines that are left out of its last move
  pub lawful : (h : List Line) → Lawful h → (w : World) × (more : List Line) × P w (h ++ more)
  lawful h l = begun l.world l.whole l.last h (stands l.world l.whole l.stands) l.begins l.lines_are
