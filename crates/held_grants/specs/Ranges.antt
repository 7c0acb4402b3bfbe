-- Calls whose range lies inside the greatest file.
use Rattle.std.specs.Prelude.{◌≤◌, ◌+◌}
use Rattle.data_map.specs.declared.ranges.TheConstants.{MAX_FILE_SIZE}
use Rattle.stripe_plan.specs.declared.plan.Span.{Span}
use Rattle.client_rules.specs.declared.calls.CallOp.{CallOp}
use Rattle.client_rules.specs.Calls.{span_of}

-- a range that ends where a file can
abbrev pub IsInFile : Span → Type 0
IsInFile r = r.offset + r.length ≤ MAX_FILE_SIZE

-- so does the call's
abbrev pub AsksInFile : CallOp → Type 0
AsksInFile op = IsInFile (span_of op)
