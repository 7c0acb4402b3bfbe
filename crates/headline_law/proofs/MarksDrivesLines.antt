-- What a cut of a move has whose first lines the server doesn't act at: the server, and the marks with those of the line.
use Rattle.std.proofs.Common.{◌≡◌, ◌++◌, ℕ, suc, true, List, [], ◌∷◌, take, None, refl, sym, ap, subst, ◌∙◌, append-nil}
use Rattle.std.specs.List.{fold}
use Rattle.scenario_text.specs.declared.event.Event.{Event}
use Rattle.scenario_text.specs.declared.line.Line.{Line}
use Rattle.scenario_text.specs.declared.line.Line.TheVariants as line
use Rattle.world_history.specs.State.{World}
use Rattle.world_history.specs.Reading.{Step, is_head}
use Rattle.world_history.specs.Book.{ServerSeen, input_at}
use Rattle.world_history.specs.Stripes.{Mark, Moment}
use Rattle.world_history.specs.Calm.{Seen, seen, sees, moment_of, marks_at}
use Rattle.world_history.specs.Laws.{MomentGoesOn}
use Rattle.history_law.specs.Read.{server_of}
use Rattle.history_law.proofs.BookLines.{two_steps}
use Rattle.component_law.proofs.Shapes.{Bare}
use Rattle.headline_law.proofs.CalmCodes.{one_alone}
use Rattle.headline_law.proofs.CalmCuts.{bare_taken}
use Rattle.headline_law.proofs.MarksClients.{does_none}
use Rattle.headline_law.proofs.MarksQuiet.{step_keeps, step_leaves}

-- lines of a step at whose first the server does nothing
pub record IsDriven (w : World) (ls : List Line) : Type 0 where
  pub head : Line
  pub rest : List Line
  pub begins : is_head head ≡ true
  pub bare : Bare rest
  pub are : ls ≡ head ∷ rest
  pub none : input_at (server_of w) head ≡ None

-- the marks are those at the end of a history with these, and the server is the one of the world
abbrev pub HasMore : World → List Line → List Mark → Moment → Type 0
HasMore w h more n = (n.marks ≡ (moment_of h).marks ++ more) × (n.server ≡ w.server)

-- what was seen behind the line of an event
abbrev pub led_seen : List Line → Event → Seen
led_seen h e = sees (seen h) (record { head = line.Event e; rest = [] })

module _ (goes : MomentGoesOn) (w : World) (h : List Line) (here : (seen h).server ≡ server_of w)
    (there : (moment_of h).server ≡ w.server) where
  driven_step : (b : Seen) → b.server ≡ server_of w → b.moment.marks ≡ (moment_of h).marks → (ls : List Line)
      (q : IsDriven w ls) (n : ℕ) →
      HasMore w h (marks_at b q.head) (sees b (record { head = q.head; rest = take n q.rest })).moment
  driven_step b at marks ls q n =
      let none = does_none goes w h here there b at q.head (take n q.rest) q.none in (
        step_keeps b (record { head = q.head; rest = take n q.rest }) none
            ∙ ap (λ (ks : List Mark). ks ++ marks_at b q.head) marks,
        step_leaves b (record { head = q.head; rest = take n q.rest }) none ∙ ap (λ (x : ServerSeen). x.server) at,
      )

  first_line : (n : ℕ) (ls : List Line) (q : IsDriven w ls) →
      HasMore w h (marks_at (seen h) q.head) (moment_of (h ++ take (suc n) (q.head ∷ q.rest)))
  first_line n ls q =
      subst (λ (x : Seen). HasMore w h (marks_at (seen h) q.head) x.moment)
      (sym (goes h (q.head ∷ take n q.rest) q.begins
      ∙ ap (λ (ts : List Step). fold sees (seen h) ts)
      (one_alone q.head (take n q.rest) q.begins (bare_taken n q.rest q.bare))))
      (driven_step (seen h) here refl ls q n)

  -- behind the first of these lines
  pub driven : (n : ℕ) (ls : List Line) (q : IsDriven w ls) →
      HasMore w h (marks_at (seen h) q.head) (moment_of (h ++ take (suc n) ls))
  driven n ls q =
      subst (λ (x : List Line). HasMore w h (marks_at (seen h) q.head) (moment_of (h ++ take (suc n) x))) (sym q.are)
      (first_line n ls q)

  -- and where the line of an event stands before it
  module _ (e : Event) (still : (led_seen h e).server ≡ server_of w)
      (same : (led_seen h e).moment.marks ≡ (moment_of h).marks) where
    led_line : (n : ℕ) (ls : List Line) (q : IsDriven w ls) →
        HasMore w h (marks_at (led_seen h e) q.head)
        (moment_of (h ++ take (suc (suc n)) (line.Event e ∷ q.head ∷ q.rest)))
    led_line n ls q =
        subst (λ (x : Seen). HasMore w h (marks_at (led_seen h e) q.head) x.moment)
        (sym (goes h (line.Event e ∷ q.head ∷ take n q.rest) refl
        ∙ ap (λ (ts : List Step). fold sees (seen h) ts)
        (two_steps e q.head (take n q.rest) q.begins (bare_taken n q.rest q.bare))))
        (driven_step (led_seen h e) still same ls q n)

    pub led_driven : (n : ℕ) (ls : List Line) (q : IsDriven w ls) →
        HasMore w h (marks_at (led_seen h e) q.head) (moment_of (h ++ take (suc (suc n)) (line.Event e ∷ ls)))
    led_driven n ls q =
        subst
        (λ (x : List Line).
        HasMore w h (marks_at (led_seen h e) q.head) (moment_of (h ++ take (suc (suc n)) (line.Event e ∷ x))))
        (sym q.are) (led_line n ls q)

  -- the line of an event alone
  pub led_alone : (e : Event) → (led_seen h e).server ≡ server_of w →
      (led_seen h e).moment.marks ≡ (moment_of h).marks →
      HasMore w h [] (moment_of (h ++ line.Event e ∷ []))
  led_alone e still same =
      subst (λ (x : Seen). HasMore w h [] x.moment)
      (sym (goes h (line.Event e ∷ []) refl
      ∙ ap (λ (ts : List Step). fold sees (seen h) ts) (one_alone (line.Event e) [] refl tt)))
      (same ∙ sym (append-nil (moment_of h).marks), ap (λ (x : ServerSeen). x.server) still)
