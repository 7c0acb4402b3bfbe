-- The report of a LAYOUTRETURN is no longer than its place allows, in every history, and the server reads each request.
use Rattle.std.specs.Prelude.{◌≡◌, ℕ, List, map, Some}
use Rattle.std.specs.Int.{w64, from_be_bytes, to_be_bytes}
use Rattle.layout_types.specs.declared.ioerrs.IoErr.{IoErr}
use Rattle.layout_ops.specs.declared.args.Args.{Args}
use Rattle.layout_ops.specs.declared.args.Args.TheVariants as args
use Rattle.layout_ops.specs.Spelling.{IsBody}
use Rattle.scenario_text.specs.declared.line.Line.{Line}
use Rattle.server_rules.specs.Envelopes.{asked_in}
use Rattle.world_history.specs.ClientNames.{Request}
use Rattle.world_history.specs.ServerNames.{RequestArgs}
use Rattle.world_history.specs.State.{World, at_number}
use Rattle.history_law.specs.BookMoments.{IsMoment}
use Rattle.exchange_law.specs.InStep.{state_of}

-- the body of a report is short
abbrev pub IsShort : Args → Type 0
IsShort (args.LayoutReturn v) = IsBody v.body
IsShort a = Unit {0}

-- at each moment of any history the report whose answer a client awaits, if any, is short
abbrev pub ReportsAreAlwaysShort : Type 0
ReportsAreAlwaysShort =
    (w : World) (g : List Line) → IsMoment w g → (c : ℕ) (r : Request) →
    (state_of c (at_number w.clients c)).outstanding ≡ Some r → IsShort r.args

-- ---- as it is read

-- a number, as 8 bytes have it
abbrev pub as_written : ℕ → ℕ
as_written n = from_be_bytes w64 (to_be_bytes w64 n)

-- an entry that was written and read
abbrev pub error_read : IoErr → IoErr
error_read e = record e {
  oer_component = record e.oer_component {
    oid_partition_id = as_written e.oer_component.oid_partition_id;
    oid_object_id = as_written e.oer_component.oid_object_id;
  };
  oer_comp_offset = as_written e.oer_comp_offset;
  oer_comp_length = as_written e.oer_comp_length;
}

-- a report
abbrev pub report_read : List IoErr → List IoErr
report_read report = map error_read report

-- ---- each request

-- the server reads what is asked
pub record CanBeRead (a : Args) : Type 0 where
  pub asks : RequestArgs
  pub read : asked_in a ≡ Some asks

-- so it is at each moment of any history of the request whose answer a client awaits
abbrev pub RequestsCanBeRead : Type 0
RequestsCanBeRead =
    (w : World) (g : List Line) → IsMoment w g → (c : ℕ) (r : Request) →
    (state_of c (at_number w.clients c)).outstanding ≡ Some r → CanBeRead r.args
