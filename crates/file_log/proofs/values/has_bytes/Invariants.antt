use Rattle.std.proofs.Common.{ℕ, ◌<◌, ◌+◌}
use Rattle.std.specs.Prelude.{slice_index, Contains}
use Rattle.file_log.specs.Held.{values_in}
use Rattle.file_log.proofs.values.has_bytes.Given as goal

abbrev pub invariant-loop-i : goal.invariant-loop-i
invariant-loop-i l = (k : ℕ) → k < l.i → Contains (values_in l.values.entries (l.offset + k)) (slice_index l.piece k)
