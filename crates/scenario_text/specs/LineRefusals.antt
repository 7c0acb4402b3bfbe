-- The answers of `read_line`.
use Rattle.std.specs.Prelude.{◌≡◌, ℕ, List, ⊤, Result, Ok, Err}
use Rattle.scenario_text.specs.declared.event.EventErr.{EventErr}
use Rattle.scenario_text.specs.declared.event.EventErr.TheVariants.{Memory}
use Rattle.scenario_text.specs.declared.line.Line.{Line}
use Rattle.scenario_text.specs.Words.{words_of}
use Rattle.scenario_text.specs.Form.{reads_line}
use Rattle.scenario_text.specs.LineForms.{line_form}

-- an answer for a text that spells a line
abbrev pub GivesLine : Line → Result Line EventErr → Type 0
GivesLine l (Ok x) = x ≡ l
GivesLine l (Err Memory) = ⊤
GivesLine l (Err e) = ⊥

-- want of memory, or the refusal of the first wrong word
abbrev pub IsLineRefusal : List ℕ → EventErr → Type 0
IsLineRefusal text Memory = ⊤
IsLineRefusal text e = reads_line line_form (words_of text) ≡ Err e
