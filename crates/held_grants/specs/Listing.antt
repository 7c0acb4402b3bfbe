-- Components listed so far.
use Rattle.std.specs.Prelude.{List, ◌++◌, Option, Some, None}
use Rattle.client_rules.specs.declared.grants.Listed.{Listed}

-- these before others, if none of those fails
abbrev pub listed_before : List Listed → Option (List Listed) → Option (List Listed)
listed_before ls None = None
listed_before ls (Some rest) = Some (ls ++ rest)
