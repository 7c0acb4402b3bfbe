-- Events that are made one after another.
use Rattle.std.proofs.Common.{◌≡◌, ℕ, suc, ◌+◌, ◌-◌, ◌<◌, List, [], ◌∷◌, ◌++◌, refl, sym, ap, ◌∙◌, append_assoc, arith}
use Rattle.scenario_text.specs.declared.event.Event.{Event}
use Rattle.generate_law.specs.Scenario.{calls_from, call_event, next_random}

next_call : (n k x m : ℕ) → n ≡ suc m → calls_from n k x ≡ call_event k x ∷ calls_from m (k + 1) (next_random x)
next_call n k x m e = rw e refl

-- one call more, of those that are left
pub one_call : (calls k x : ℕ) (events all : List Event) → k < calls → events ++ calls_from (calls - k) k x ≡ all →
    (events ++ call_event k x ∷ []) ++ calls_from (calls - (k + 1)) (k + 1) (next_random x) ≡ all
one_call calls k x events all below is =
    append_assoc events (call_event k x ∷ []) (calls_from (calls - (k + 1)) (k + 1) (next_random x))
    ∙ ap (λ (l : List Event). events ++ l) (sym (next_call (calls - k) k x (calls - (k + 1)) (omega (arith, below))))
    ∙ is
