use Rattle.std.proofs.Common.{◌≡◌}
use Rattle.std.specs.List.{list_any}
use Rattle.server_rules.specs.declared.files.File.{File}
use Rattle.server_entries.specs.Changes.{has_grant}
use Rattle.server_state.specs.Tables.{files_in}
use Rattle.entry_replay.proofs.in_use.has_grant.Given as goal

abbrev pub invariant-loop-file : goal.invariant-loop-file
invariant-loop-file l =
    list_any (λ (f : File). has_grant f.kept l.number) (files_in l.file-iterator)
    ≡ list_any (λ (f : File). has_grant f.kept l.number) (files_in l.files.entries)
