-- Why a line of a scenario gave no event.
use Rattle.std.specs.Prelude.{◌≡◌, ℕ, List, ⊤, Err}
use Rattle.scenario_text.specs.declared.event.EventErr.{EventErr}
use Rattle.scenario_text.specs.declared.event.EventErr.TheVariants.{Memory}
use Rattle.scenario_text.specs.declared.hexadecimal.Digits.TheVariants.{Either}
use Rattle.scenario_text.specs.Words.{words_of}
use Rattle.scenario_text.specs.Spelling.{IsSkipped}
use Rattle.scenario_text.specs.Form.{reads_line}
use Rattle.scenario_text.specs.EventForms.{event_form}

-- want of memory, or the refusal of the first wrong word of a line that isn't skipped
abbrev pub IsRefusal : List ℕ → EventErr → Type 0
IsRefusal line Memory = ⊤
IsRefusal line e = (IsSkipped line → ⊥) × (reads_line (event_form Either) (words_of line) ≡ Err e)
