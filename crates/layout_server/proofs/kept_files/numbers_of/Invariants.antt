use Rattle.std.proofs.Common.{◌≡◌, ◌++◌}
use Rattle.std.specs.Prelude.{map}
use Rattle.server_rules.specs.declared.files.File.{File}
use Rattle.server_state.specs.Tables.{files_in}
use Rattle.layout_server.proofs.kept_files.numbers_of.Given as goal

abbrev pub invariant-loop-file : goal.invariant-loop-file
invariant-loop-file l =
    l.numbers ++ map (λ (f : File). f.kept.number) (files_in l.file-iterator) ≡ map (λ (f : File). f.kept.number)
    (files_in l.files.entries)
