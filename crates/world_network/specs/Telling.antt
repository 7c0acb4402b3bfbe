-- What the server notes, as lines.
use Rattle.std.specs.Prelude.{List, [], ◌∷◌, Option, Some, None}
use Rattle.scenario_text.specs.declared.line.Line.{Line}
use Rattle.server_rules.specs.declared.notes.Note.{Note}
use Rattle.server_rules.specs.declared.notes.NoteKind.TheVariants.{Ready}

-- what stands where a note was taken out
abbrev pub no_note : Note
no_note = record { file = 0; kind = Ready }

-- a note that no line can tell has none
abbrev pub told_as : Option Line → List Line
told_as None = []
told_as (Some l) = l ∷ []
