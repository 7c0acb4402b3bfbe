-- What a call asks.
use Rattle.std.specs.Prelude.{ℕ, Bool, true, false, List, [], length}
use Rattle.client_rules.specs.State.{CallOp, Write, Read, Span}

-- its file
abbrev pub file_of : CallOp → ℕ
file_of (Write file offset bytes) = file
file_of (Read file offset count) = file

-- its range
abbrev pub span_of : CallOp → Span
span_of (Write file offset bytes) = record { offset = offset; length = length bytes }
span_of (Read file offset count) = record { offset = offset; length = count }

-- it writes
abbrev pub is_write : CallOp → Bool
is_write (Write file offset bytes) = true
is_write (Read file offset count) = false

-- what it writes
abbrev pub bytes_of : CallOp → List ℕ
bytes_of (Write file offset bytes) = bytes
bytes_of (Read file offset count) = []
