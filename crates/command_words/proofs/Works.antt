-- What a line says of orders and calls, from the event that it spells.
use Rattle.std.proofs.Common.{◌≡◌, ◌++◌, ◌∷◌, ℕ, List, Some, None, ap, refl, sym, codes, arith}
use Rattle.std.specs.Fmt.{decimal}
use Rattle.std.proofs.lemmas.Fmt.{decimal_digit}
use Rattle.scenario_text.specs.declared.event.Call.{Call}
use Rattle.scenario_text.specs.declared.event.Event.{Event}
use Rattle.scenario_text.specs.declared.event.Event.TheVariants as event
use Rattle.command_words.specs.Work.{Gives, IsCall, IsLine, call_of}

never : {A : Type 0} {x : A} → None ≡ Some x → ⊥
never e = cc e

-- the line spells that event, and no other
abbrev pub Only : List ℕ → Event → Type 0
Only line e = (x : Event) → IsLine x line → e ≡ x

first_client : codes "c0" ≡ 99 ∷ decimal 0
first_client = sym (ap (λ (xs : List ℕ). 99 ∷ xs) (decimal_digit 0 (omega arith)))

-- it doesn't matter whose call it is
of_first : (text : List ℕ) (c : ℕ) (what : Call) → IsLine (event.Do c what) (codes "do c0 " ++ text) → IsCall text what
of_first text c what is = ((tt, (omega arith, is.0.1.1)), (refl, (first_client, is.1.1.1)))

pub call_told : (text : List ℕ) (e : Event) → IsLine e (codes "do c0 " ++ text) → Only (codes "do c0 " ++ text) e →
    Gives (IsCall text) (call_of e)
call_told text (event.Do c what) is only = of_first text c what is
call_told text e is only = λ what s. never (ap call_of (only (event.Do 0 what) s))
