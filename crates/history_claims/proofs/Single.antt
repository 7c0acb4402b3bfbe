-- An event behind whose first move nothing is due has just the lines of that move.
use Rattle.std.proofs.Common.{◌≡◌, ℕ, ◌++◌, ◌∷◌, [], List, refl, sym, ap, subst, ◌∙◌}
use Rattle.std.proofs.lemmas.List.{append-nil}
use Rattle.scenario_text.specs.declared.event.Event.{Event}
use Rattle.scenario_text.specs.declared.line.Line.{Line}
use Rattle.scenario_text.specs.declared.line.Line.TheVariants as line
use Rattle.world_history.specs.State.{World}
use Rattle.world_history.specs.Moves.{Action, Opens}
use Rattle.world_history.specs.Sending.{Move, move}
use Rattle.world_history.specs.Plans.{Alone, due, due_by, rule_after, rule_of, plan_of}
use Rattle.world_history.specs.Runs.{lines_of, AreDue, plan_after, IsOver, Carries}

pub record IsSingle (v : World) (e : Event) (body : List Line) : Type 0 where
  pub chosen : List ℕ
  pub lines_are : body ≡ (move v (record { action = Opens e; chosen = chosen })).lines

module _ (v : World) (e : Event) (body : List Line) (next : World) (c : Carries v e (line.Event e ∷ body) next)
    (alone : rule_of v e ≡ Alone) where
  by : (ms : List Move) → c.moves ≡ ms → IsSingle v e body
  by [] none = absurd (cc (subst (λ (l : List Move). IsOver (plan_after (plan_of v e) l) next) none c.over))
  by (m ∷ []) one =
      let d : AreDue (plan_of v e) v (m ∷ []) = subst (AreDue (plan_of v e) v) one c.are_due in
      let opens : Opens e ≡ m.action = cc d.0 in
      let all : line.Event e ∷ body ≡ line.Event e ∷ lines_of v (m ∷ []) =
      c.lines_are ∙ ap (λ (l : List Move). line.Event e ∷ lines_of v l) one in
      let own : body ≡ (move v m).lines ++ [] = cc all in
      record {
        chosen = m.chosen;
        lines_are =
            own ∙ append-nil (move v m).lines
            ∙ ap (λ (a : Action). (move v (record { action = a; chosen = m.chosen })).lines) (sym opens);
      }
  by (m ∷ n ∷ ms) more =
      let d : AreDue (plan_of v e) v (m ∷ n ∷ ms) = subst (AreDue (plan_of v e) v) more c.are_due in
      let opens : Opens e ≡ m.action = cc d.0 in
      let rule : rule_after (rule_of v e) m.action ≡ Alone =
      ap (rule_after (rule_of v e)) (sym opens) ∙ alone in
      absurd (cc (sym (ap (due_by (move v m).world) rule) ∙ d.1.0))

  pub single : IsSingle v e body
  single = by c.moves refl
