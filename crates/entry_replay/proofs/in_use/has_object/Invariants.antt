use Rattle.std.proofs.Common.{◌≡◌}
use Rattle.server_entries.specs.Changes.{has_object}
use Rattle.server_state.specs.Tables.{files_in}
use Rattle.entry_replay.proofs.in_use.has_object.Given as goal

abbrev pub invariant-loop-file : goal.invariant-loop-file
invariant-loop-file l = has_object (files_in l.file-iterator) l.object ≡ has_object (files_in l.files.entries) l.object
