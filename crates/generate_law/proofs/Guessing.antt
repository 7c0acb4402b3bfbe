-- Nothing is guessed where nothing is injected.
use Rattle.std.proofs.Common.{◌≡◌, Bool, true, false, ◌&&◌, not, List, [], ◌∷◌, refl, ap, ◌∙◌}
use Rattle.std.specs.List.{AllByRecursion, fold}
use Rattle.scenario_text.specs.declared.event.Event.TheVariants as event
use Rattle.scenario_text.specs.declared.line.Line.{Line}
use Rattle.scenario_text.specs.declared.line.Line.TheVariants as line
use Rattle.world_history.specs.Guesses.{Guarded, guards, guessed_at}
use Rattle.generate_law.specs.Quiet.{InjectsNone, UninjectedIsUnguessed}

not_guessed : (g : Guarded) (l : Line) → InjectsNone l → guessed_at g l ≡ false
not_guessed g (line.Event (event.Inject d bytes)) n = absurd n
not_guessed g l n = refl

stays : (g : Guarded) (ls : List Line) → AllByRecursion InjectsNone ls → g.unguessed ≡ true
    → (fold guards g ls).unguessed ≡ true
stays g [] n e = e
stays g (l ∷ ls) n e =
    stays (guards g l) ls n.1
    (ap (λ (b : Bool). g.unguessed && not b) (not_guessed g l n.0) ∙ ap (λ (b : Bool). b && true) e)

pub uninjected_is_unguessed : UninjectedIsUnguessed
uninjected_is_unguessed h n = stays _ h n refl
