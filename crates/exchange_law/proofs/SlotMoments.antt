-- A client that comes is new.
use Rattle.std.proofs.Common.{◌≡◌, ℕ, ◌∷◌, [], List, Option, Some, None, is_some, refl, sym, ap, ◌∙◌}
use Rattle.scenario_text.specs.declared.event.Event.{Event}
use Rattle.scenario_text.specs.declared.event.Event.TheVariants as event
use Rattle.scenario_text.specs.declared.line.Line.{Line}
use Rattle.world_history.specs.State.{World, at_number}
use Rattle.world_history.specs.Moves.{Opens}
use Rattle.world_history.specs.Sending.{Move}
use Rattle.world_history.specs.Plans.{Plan, due, due_in, went_on, plan_of}
use Rattle.world_history.specs.Runs.{world_after, plan_after}
use Rattle.world_history.specs.Refusals.{refusal, unless_there}
use Rattle.history_law.specs.Moments.{IsMoment, plan_at}
pub use Rattle.history_law.proofs.Moments.{IsKept, always}
use Rattle.world_history.proofs.Runs.{no_opening}
use Rattle.world_history.proofs.ReadMessages.{never_opens}

pub not_opened : (w : World) (p : Plan) (e : Event) → p.opening ≡ None → due p w ≡ Some (Opens e) → ⊥
not_opened w p e none d =
    never_opens w p.rule e (sym (ap (due_in w p.rule) none) ∙ d)

pub not_there : {X : Type 0} (o : Option X) → unless_there (is_some o) ≡ None → o ≡ None
not_there None e = refl
not_there (Some x) e = absurd (cc e)

new_client_at : (w : World) (c : ℕ) → refusal w (event.Client c) ≡ None → at_number w.clients c ≡ None
unfolding refusal
new_client_at w c e = not_there (at_number w.clients c) e

new_by : (v w : World) (e : Event) (ms : List Move) (c : ℕ) → w ≡ world_after v ms → refusal v e ≡ None
    → due (plan_after (plan_of v e) ms) w ≡ Some (Opens (event.Client c)) → at_number w.clients c ≡ None
new_by v w e [] c is allowed d =
    let same : e ≡ event.Client c = opened d in
    new_client_at w c
    (ap (λ (x : Event). refusal w x) (sym same) ∙ ap (λ (u : World). refusal u e) is ∙ allowed)
  where
    opened : Some (Opens e) ≡ Some (Opens (event.Client c)) → e ≡ event.Client c
    opened x = cc x
new_by v w e (m ∷ ms) c is allowed d =
    absurd (not_opened w (plan_after (plan_of v e) (m ∷ ms)) (event.Client c)
    (no_opening (went_on (plan_of v e) m.action) ms refl) d)

pub comes_new : (w : World) (h : List Line) (k : IsMoment w h) (c : ℕ)
    → due (plan_at k) w ≡ Some (Opens (event.Client c)) → at_number w.clients c ≡ None
comes_new w h k c d = new_by k.before w k.event k.moves c k.world_is k.allowed d
