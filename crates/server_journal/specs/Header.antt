-- The bytes in front of a journal.
use Rattle.std.specs.Prelude.{ℕ, List, ◌++◌, replicate}
use Rattle.std.specs.Int.{w32, to_be_bytes}
use Rattle.server_journal.specs.declared.header.TheConstants.{MAGIC, UNUSED, VERSION}

-- that it is one; nothing else is said
unfoldable pub journal_header : List ℕ
journal_header = to_be_bytes w32 MAGIC ++ (to_be_bytes w32 VERSION ++ replicate UNUSED 0)
