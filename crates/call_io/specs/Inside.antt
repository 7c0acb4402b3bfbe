-- Which calls a client takes.
use Rattle.std.specs.Prelude.{◌≤◌, ◌+◌}
use Rattle.data_map.specs.declared.ranges.TheConstants.{MAX_FILE_SIZE}
use Rattle.call_io.specs.State.{CallOp}
use Rattle.client_rules.specs.Calls.{span_of}

-- the range doesn't pass the greatest size of a file
abbrev pub IsInside : CallOp → Type 0
IsInside op = (span_of op).offset + (span_of op).length ≤ MAX_FILE_SIZE
