-- What a server tells of its files to whoever watches it: each note as the line that a transcript has for it.
use Rattle.std.specs.Prelude.{◌≡◌, ℕ, List, ◌++◌, map, Option}
use Rattle.std.specs.List.{filter_map}
use Rattle.osd_bytes.specs.Connections.{Traffic, after_notes}
use Rattle.scenario_text.specs.LineSpelling.{line_text}
use Rattle.server_rules.specs.declared.notes.Note.{Note}
use Rattle.world_history.specs.Names.{known_note_line}

-- the lines without their ends, in order; a note that no line can tell has none
abbrev pub note_texts : List Note → List (List ℕ)
note_texts notes = map line_text (filter_map known_note_line notes)

-- some first ones of these lines were told, perhaps none
abbrev pub TellsSome : List (List ℕ) → (before now : Option Traffic) → Type 0
TellsSome lines before now =
    (noted : List (List ℕ)) × (unnoted : List (List ℕ)) × (lines ≡ noted ++ unnoted) × (now ≡ after_notes noted before)
