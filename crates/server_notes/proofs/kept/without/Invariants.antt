use Rattle.std.proofs.Common.{◌≡◌, take}
use Rattle.server_notes.specs.Asking.{without}
use Rattle.server_notes.proofs.kept.without.Given as goal

abbrev pub invariant-loop-note : goal.invariant-loop-note
invariant-loop-note l = l.left ≡ without (take l.note-index l.notes) l.file
