use Rattle.std.specs.Prelude.{◌↔◌}
use Rattle.server_differences.proofs.SameLaws.{Alike}
use Rattle.server_differences.proofs.sameness.are_kept_of.Given as goal

abbrev pub invariant-loop-file : goal.invariant-loop-file
invariant-loop-file l = Alike l.left l.file-iterator ↔ Alike l.idle.entries l.files.entries
