use Rattle.std.proofs.Common.{◌≡◌, ℕ, take}
use Rattle.file_log.specs.Judge.{byte_for, taken_byte}
use Rattle.file_log.specs.Held.{values_in}
use Rattle.file_log.proofs.values.put_piece.Given as goal

abbrev pub invariant-loop-i : goal.invariant-loop-i
invariant-loop-i l =
    (p : ℕ) → values_in l.values.entries p ≡ taken_byte l.settles (byte_for l.offset (take l.i l.piece) p)
    (values_in l.fn.values.entries p)
