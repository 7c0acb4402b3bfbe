use Rattle.std.proofs.Common.{◌≡◌}
use Rattle.grant_table.proofs.TableLaws.{any_has}
use Rattle.grant_table.proofs.table.file_with.Given as goal

abbrev pub invariant-loop-file : goal.invariant-loop-file
invariant-loop-file l = any_has l.number l.file-iterator ≡ any_has l.number l.by_file.entries
