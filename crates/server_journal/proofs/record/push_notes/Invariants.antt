use Rattle.std.proofs.Common.{◌++◌, ℕ, List, take}
use Rattle.gate_log.specs.Together.{HaveBodies}
use Rattle.server_journal.specs.Notes.{AllFit, note_bodies}
use Rattle.server_journal.proofs.record.push_notes.Given as goal

abbrev pub invariant-loop-note : goal.invariant-loop-note
invariant-loop-note l = record {
  pushed : (bodies : List (List ℕ)) → HaveBodies bodies l.fn.entries
      → HaveBodies (bodies ++ note_bodies (take l.note-index l.notes)) l.entries;
  fits : AllFit (take l.note-index l.notes);
}
