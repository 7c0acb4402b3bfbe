-- An event's moves one by one, and the events of a history one by one.
use Rattle.std.proofs.Common.{◌≡◌, List, [], ◌∷◌, map, ℕ, Some, None, refl, sym, subst, ◌∙◌}
use Rattle.scenario_text.specs.declared.event.Event.{Event}
use Rattle.world_history.specs.State.{World}
use Rattle.world_history.specs.Moves.{Action, Opens}
use Rattle.world_history.specs.Sending.{Move, move}
use Rattle.world_history.specs.Plans.{Plan, Rule, Alone, due, went_on, plan_of, rule_of}
use Rattle.world_history.specs.Runs.{world_after, AreDue, plan_after, IsOver}
use Rattle.world_history.specs.History.{Step, AreCarried, end_of}

-- ---- moves

-- from one world the plan's moves lead to the other, and nothing more is due there
pub record Goes (p : Plan) (w v : World) : Type 0 where
  pub moves : List Move
  pub are_due : AreDue p w moves
  pub over : IsOver (plan_after p moves) v
  pub world_is : v ≡ world_after w moves

-- the world after a move
abbrev pub moved : World → Action → (chosen : List ℕ) → World
moved w x chosen = (move w (record { action = x; chosen = chosen })).world

next_of : (p : Plan) (w v : World) (x : Action) (ms : List Move) → AreDue p w ms → IsOver (plan_after p ms) v
    → v ≡ world_after w ms → due p w ≡ Some x → (chosen : List ℕ) × Goes (went_on p x) (moved w x chosen) v
next_of p w v x [] d o is e = absurd (cc (sym e ∙ subst (λ (y : World). due p y ≡ None) is o))
next_of p w v x (m ∷ ms) d o is e =
    let both : Some m.action ≡ Some x = sym d.0 ∙ e in
    let same : m.action ≡ x = cc both in
    subst (λ (y : Action). (chosen : List ℕ) × Goes (went_on p y) (moved w y chosen) v) same
    (m.chosen, record { moves = ms; are_due = d.1; over = o; world_is = is })

-- what is due is done first
pub next : (p : Plan) (w v : World) (x : Action) → Goes p w v → due p w ≡ Some x
    → (chosen : List ℕ) × Goes (went_on p x) (moved w x chosen) v
next p w v x g e = next_of p w v x g.moves g.are_due g.over g.world_is e

none_of : (p : Plan) (w v : World) (ms : List Move) → AreDue p w ms → v ≡ world_after w ms → due p w ≡ None → v ≡ w
none_of p w v [] d is e = is
none_of p w v (m ∷ ms) d is e = absurd (cc (sym e ∙ d.0))

-- where nothing is due the event is over
pub none_due : (p : Plan) (w v : World) → Goes p w v → due p w ≡ None → v ≡ w
none_due p w v g e = none_of p w v g.moves g.are_due g.world_is e

-- ---- events

-- from one world on these events lead to the other
pub record Leads (w v : World) (es : List Event) : Type 0 where
  pub steps : List Step
  pub carried : AreCarried w steps
  pub events_are : map (λ (s : Step). s.event) steps ≡ es
  pub world_is : v ≡ end_of w steps

-- the first event, and the others
pub record First (w v : World) (e : Event) (es : List Event) : Type 0 where
  pub between : World
  pub goes : Goes (plan_of w e) w between
  pub others : Leads between v es

first_of : (w v : World) (e : Event) (es : List Event) (steps : List Step) → AreCarried w steps
    → map (λ (s : Step). s.event) steps ≡ e ∷ es → v ≡ end_of w steps → First w v e es
first_of w v e es [] c is end = absurd (cc is)
first_of w v e es (s ∷ steps) c is end =
    let same : s.event ≡ e = cc is in
    let rest : map (λ (s : Step). s.event) steps ≡ es = cc is in
    record {
      between = s.after;
      goes = subst (λ (x : Event). Goes (plan_of w x) w s.after) same (record {
        moves = c.0.moves;
        are_due = c.0.are_due;
        over = c.0.over;
        world_is = c.0.world_is;
      });
      others = record { steps = steps; carried = c.1; events_are = rest; world_is = end };
    }

pub first : (w v : World) (e : Event) (es : List Event) → Leads w v (e ∷ es) → First w v e es
first w v e es l = first_of w v e es l.steps l.carried l.events_are l.world_is

none_of_steps : (w v : World) (steps : List Step) → map (λ (s : Step). s.event) steps ≡ [] → v ≡ end_of w steps → v ≡ w
none_of_steps w v [] e is = is
none_of_steps w v (s ∷ steps) e is = absurd (cc e)

pub at_end : (w v : World) → Leads w v [] → v ≡ w
at_end w v l = none_of_steps w v l.steps l.events_are l.world_is

-- an event after which nothing is due leads to one world
pub alone : (w u v : World) (e : Event) (es : List Event) → rule_of w e ≡ Alone
    → ((chosen : List ℕ) → moved w (Opens e) chosen ≡ u) → Leads w v (e ∷ es) → Leads u v es
alone w u v e es rule is l =
    let f : First w v e es = first w v e es l in
    let n : (chosen : List ℕ) × Goes (went_on (plan_of w e) (Opens e)) (moved w (Opens e) chosen) f.between =
    next (plan_of w e) w f.between (Opens e) f.goes refl in
    let g : Goes (record { opening = None; rule = Alone }) (moved w (Opens e) n.0) f.between =
    subst (λ (r : Rule). Goes (record { opening = None; rule = r }) (moved w (Opens e) n.0) f.between) rule n.1 in
    subst (λ (x : World). Leads x v es)
    (none_due (record { opening = None; rule = Alone }) (moved w (Opens e) n.0) f.between g refl ∙ is n.0) f.others
