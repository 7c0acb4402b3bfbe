-- The reading of a line of a scenario against what it spells, both ways.
use Rattle.std.proofs.Common.{◌≡◌, ℕ, inl, inr, List, Result, Ok, Err, sym, subst}
use Rattle.scenario_text.specs.declared.hexadecimal.Digits.TheVariants.{Either}
use Rattle.scenario_text.specs.declared.event.EventErr.{EventErr}
use Rattle.scenario_text.specs.declared.event.EventErr.TheVariants.{Memory}
use Rattle.scenario_text.specs.declared.event.Event.{Event}
use Rattle.scenario_text.specs.Words.{words_of}
use Rattle.scenario_text.specs.Spelling.{event_parts, Fits, Spells, GivesEvent}
use Rattle.scenario_text.specs.Reading.{GivesOrMemory}
use Rattle.scenario_text.specs.Form.{reads_line}
use Rattle.scenario_text.specs.EventForms.{event_form}
use Rattle.scenario_text.proofs.Forms.{line_found, line_again}
use Rattle.scenario_text.proofs.EventLaws.{event_exact, event_path}

pub event_found : (line : List ℕ) (e : Event) → reads_line (event_form Either) (words_of line) ≡ Ok e → Fits e × Spells e line
event_found line e h = line_found Either (event_form Either) event_parts (event_exact Either) (words_of line) e h

pub event_again : (line : List ℕ) (e : Event) → Fits e → Spells e line → reads_line (event_form Either) (words_of line) ≡ Ok e
event_again line e fits spells =
    line_again Either (event_form Either) event_parts (event_exact Either) (words_of line) e (event_path Either e) fits spells

-- ---- answers

pub ok_is_read : {A : Type 0} (expected : Result A EventErr) (x : A) → GivesOrMemory expected (Ok x) → expected ≡ Ok x
ok_is_read expected x (inl none) = cc none
ok_is_read expected x (inr h) = sym h

-- where a value was expected an error is want of memory
pub err_is_memory : {A : Type 0} (expected : Result A EventErr) (w : EventErr) (x : A) → GivesOrMemory expected (Err w) →
    expected ≡ Ok x → w ≡ Memory
err_is_memory expected w x (inl none) is = cc none
err_is_memory expected w x (inr h) is = cc (h, is)

pub err_is_read : (expected : Result Event EventErr) (w : EventErr) (e : Event) → GivesOrMemory expected (Err w) → expected ≡ Ok e
    → GivesEvent e (Err w)
err_is_read expected w e h is = subst (λ (v : EventErr). GivesEvent e (Err v)) (sym (err_is_memory expected w e h is)) tt
