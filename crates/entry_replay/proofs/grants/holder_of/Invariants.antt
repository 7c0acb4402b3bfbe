use Rattle.std.proofs.Common.{◌≡◌}
use Rattle.server_entries.specs.Applying.{holder_of}
use Rattle.server_state.specs.Tables.{files_in}
use Rattle.entry_replay.proofs.grants.holder_of.Given as goal

abbrev pub invariant-loop-file : goal.invariant-loop-file
invariant-loop-file l = holder_of (files_in l.file-iterator) l.number ≡ holder_of (files_in l.files.entries) l.number
