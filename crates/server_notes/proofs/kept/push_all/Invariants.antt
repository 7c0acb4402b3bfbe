use Rattle.std.proofs.Common.{◌≡◌, ◌++◌, take}
use Rattle.server_notes.proofs.kept.push_all.Given as goal

abbrev pub invariant-loop-note : goal.invariant-loop-note
invariant-loop-note l = l.told ≡ l.fn.told ++ take l.note-index l.notes
