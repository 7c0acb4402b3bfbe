use Rattle.std.proofs.Common.{◌≡◌, ◌++◌, take}
use Rattle.server_notes.specs.Asking.{asking}
use Rattle.server_notes.proofs.kept.keep_asking.Given as goal

abbrev pub invariant-loop-note : goal.invariant-loop-note
invariant-loop-note l = l.kept ≡ l.fn.kept ++ asking (take l.note-index l.notes)
