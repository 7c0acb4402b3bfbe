use Rattle.std.proofs.Common.{◌+◌, ◌++◌, drop, ap, ◌∙◌, List}
use Rattle.std.specs.List.{filter_map}
use Rattle.server_rules.specs.declared.notes.Note.{Note}
use Rattle.world_history.specs.Names.{known_note_line}
use Rattle.world_network.specs.Telling.{no_note}
use Rattle.world_network.proofs.Noted.{one_more}
use Rattle.world_network.proofs.telling.lines_of.Goals as goal

pub loop-place-preserved : goal.loop-place-preserved
loop-place-preserved c =
    ap (λ (ns : List Note). c.tell.new.told ++ filter_map known_note_line (drop (c.loop-place.place + 1) ns))
    c.take_note-note.ensures.left
    ∙ one_more c.loop-place.told c.tell.new.told c.loop-place.left c.loop-place.place c.take_note-note.result no_note
    c.take_note-note.ensures.taken c.in_ok-tell.ensures
    ∙ c.loop-place.invariant
