-- Notes that are taken out of a list one after another.
use Rattle.std.proofs.Common.{◌≡◌, ℕ, ◌+◌, Option, Some, None, List, [], ◌∷◌, ◌++◌, drop, slice_get, slice_set, append_assoc}
use Rattle.std.specs.List.{filter_map, cons_option}
use Rattle.scenario_text.specs.declared.line.Line.{Line}
use Rattle.server_rules.specs.declared.notes.Note.{Note}
use Rattle.world_history.specs.Names.{known_note_line}
use Rattle.world_network.specs.Telling.{told_as}
use Rattle.world_network.proofs.Taking.{taken_out}

told_more : (told : List Line) (l : Option Line) (ns : List Note)
    → (told ++ told_as l) ++ filter_map known_note_line ns ≡ told ++ cons_option l (filter_map known_note_line ns)
told_more told None ns = append_assoc told [] _
told_more told (Some l) ns = append_assoc told (l ∷ []) _

-- the lines so far and those of the notes that are left are those of all notes
pub one_more : (before after : List Line) (ns : List Note) (i : ℕ) (n other : Note) → slice_get ns i ≡ Some n
    → after ≡ before ++ told_as (known_note_line n)
    → after ++ filter_map known_note_line (drop (i + 1) (slice_set ns i other))
    ≡ before ++ filter_map known_note_line (drop i ns)
one_more before after ns i n other e f =
    rw (f, taken_out ns i n other e) (told_more before (known_note_line n) (drop (i + 1) (slice_set ns i other)))
