-- Lists of the events of lines, and how many of them stand before the last that has an event.
use Rattle.std.proofs.Common.{◌≡◌, ◌≤◌, ℕ, ◌++◌, ◌∷◌, [], List, length, refl, sym, ap, subst, ◌∙◌, arith, suc, zero, ◌+◌, Bool, true, false, if◌then◌else◌}
use Rattle.std.specs.Prelude.{take}
use Rattle.std.proofs.lemmas.List.{append-nil}
use Rattle.world_history.specs.Moves.{Action, Opens}
use Rattle.history_law.specs.Read.{leads}
use Rattle.fence_law.specs.State.{Event}
use Rattle.file_simulation.specs.EventLists.{Lines}
use Rattle.file_simulation.specs.Events.{joined, led_by}
use Rattle.relation_law.specs.Frames.{AreAll, LinesAre}

-- no event
abbrev pub Never : Event → Type 0
Never e = ⊥

no_event : (es : List Event) → AreAll Never es → es ≡ []
no_event [] none = refl
no_event (e ∷ es) none = absurd none.0

pub none_joined : (x : Lines) → LinesAre Never x → joined x ≡ []
none_joined [] none = refl
none_joined (es ∷ x) none = ap (λ fs. fs ++ joined x) (no_event es none.0) ∙ none_joined x none.1

pub none_taken : (n : ℕ) (x : Lines) → LinesAre Never x → joined (take n x) ≡ []
none_taken zero [] none = refl
none_taken zero (es ∷ x) none = refl
none_taken (suc n) [] none = refl
none_taken (suc n) (es ∷ x) none = ap (λ fs. fs ++ joined (take n x)) (no_event es none.0) ∙ none_taken n x none.1

-- behind the first lists none has an event, so they have all events
pub all_joined : (n : ℕ) (x y : Lines) → length x ≤ n → LinesAre Never y → joined (take n (x ++ y)) ≡ joined (x ++ y)
all_joined n [] y low none = none_taken n y none ∙ sym (none_joined y none)
all_joined zero (es ∷ x) y low none = absurd (omega (arith, low))
all_joined (suc n) (es ∷ x) y low none = ap (λ fs. es ++ fs) (all_joined n x y (omega (arith, low)) none)

-- how many lists stand before the first of a party
unfoldable pub led : Action → ℕ
led (Opens e) = if leads e then 1 else 0
led action = 0

led_if : (n : ℕ) (x y : Lines) → length x + 1 ≤ n → LinesAre Never y → joined (take n ([] ∷ (x ++ y))) ≡ joined ([] ∷ (x ++ y))
led_if zero x y low none = absurd (omega (arith, low))
led_if (suc n) x y low none = all_joined n x y (omega (arith, low)) none

pub led_joined : (action : Action) (n : ℕ) (x y : Lines) → led action + length x ≤ n → LinesAre Never y →
    joined (take n (led_by action (x ++ y))) ≡ joined (led_by action (x ++ y))
unfolding led
led_joined (Opens e) n x y low none = by (leads e) low
  where
    by : (b : Bool) → (if b then 1 else 0) + length x ≤ n →
        joined (take n (if b then [] ∷ (x ++ y) else (x ++ y))) ≡ joined (if b then [] ∷ (x ++ y) else (x ++ y))
    by true low = led_if n x y (omega (arith, low)) none
    by false low = all_joined n x y (omega (arith, low)) none
led_joined action n x y low none = all_joined n x y (omega (arith, low)) none

pub led_alone : (action : Action) (n : ℕ) (x : Lines) → led action + length x ≤ n →
    joined (take n (led_by action x)) ≡ joined (led_by action x)
led_alone action n x low =
    subst (λ (y : Lines). joined (take n (led_by action y)) ≡ joined (led_by action y)) (append-nil x)
    (led_joined action n x [] low tt)
