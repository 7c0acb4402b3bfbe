-- How the tag of a file goes on in a step of the server: as the lines of its notes tell.
use Rattle.std.specs.Prelude.{◌≡◌, ◌==◌, ◌+◌, ℕ, List, [], ◌∷◌, Option, Some, None, if◌then◌else◌}
use Rattle.std.specs.List.{filter_map, flat_map}
use Rattle.server_rules.specs.Files.{file_at}
use Rattle.server_rules.specs.History.{Input, Makes, step}
use Rattle.scenario_text.specs.declared.line.Note.TheVariants as note
use Rattle.scenario_text.specs.declared.line.Line.{Line}
use Rattle.scenario_text.specs.declared.line.Line.TheVariants as line
use Rattle.world_history.specs.ServerNames.{Server, File}
use Rattle.world_history.specs.Names.{known_note_line}
use Rattle.component_law.specs.Naming.{IsNamedInput}
use Rattle.component_law.specs.Sound.{IsSound}

-- ---- what lines tell

-- the tag in a line that a fence of the file is over
abbrev pub tag_told : (file : ℕ) → Line → List ℕ
tag_told n (line.Note f (note.Fenced tag)) = if f == n then tag ∷ [] else []
tag_told n l = []

-- those in several, in order
abbrev pub tags_told : (file : ℕ) → List Line → List ℕ
tags_told n lines = flat_map (tag_told n) lines

-- ---- a step

-- from a tag on each is the next one, and the last is this
abbrev pub Rise : (tag : ℕ) → List ℕ → (last : ℕ) → Type 0
Rise t [] u = u ≡ t
Rise t (v ∷ vs) u = (v ≡ t + 1) × Rise v vs u

-- a file of that number is to be made, with this tag
abbrev pub IsMakingWith : Input → (file tag : ℕ) → Type 0
IsMakingWith (Makes n m t zoned) file tag = (n ≡ file) × (t ≡ tag)
IsMakingWith i file tag = ⊥

-- The tag of file n, before and behind a step with these lines. It rises by one with each line that a fence of the file is
-- over, and is that line's tag then. A file that is made has the tag with which it is to be made, and no such line.
abbrev pub TagRises : Input → List Line → (file : ℕ) → Option File → Option File → Type 0
TagRises i lines n None None = tags_told n lines ≡ []
TagRises i lines n None (Some g) = (tags_told n lines ≡ []) × IsMakingWith i n g.kept.tag
TagRises i lines n (Some f) None = ⊥
TagRises i lines n (Some f) (Some g) = Rise f.kept.tag (tags_told n lines) g.kept.tag

-- so it is of each file in each step, with the lines of its notes
abbrev pub EachStepTellsTags : Type 0
EachStepTellsTags =
    (s : Server) (chosen : List ℕ) (i : Input) → IsSound s → IsNamedInput i → (n : ℕ)
    → TagRises i (filter_map known_note_line (step s chosen i).notes) n (file_at s.files n)
    (file_at (step s chosen i).state.files n)
