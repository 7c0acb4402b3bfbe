-- The error line and the status of a stop.
use Rattle.std.specs.Prelude.{ℕ, List, codes}
use Rattle.osd_bytes.specs.declared.lines.LineErr.{LineErr}
use Rattle.osd_bytes.specs.declared.lines.LineErr.TheVariants.{TooLong, InputFull, ReadFault as LineFault}
use Rattle.osd_bytes.specs.declared.lines.LineErr.TheVariants.{Memory as LineMemory}
use Rattle.osd_replay.specs.declared.status.Quantity.TheVariants.{Input, Line}
use Rattle.osd_replay.specs.Errors.{error_line, full_name, kind_name}
use Rattle.osd_replay.specs.declared.status.Status.{Status}
use Rattle.osd_replay.specs.declared.status.Status.TheVariants.{BadScenario, ReadFault, Memory as WantsMemory, Full as IsFull}
use Rattle.osd_replay.specs.declared.stop.Stop.{Stop}
use Rattle.osd_replay.specs.declared.stop.Stop.TheVariants.{Refused, Read, Memory, Full}

abbrev pub error_of : Stop → ℕ → List ℕ
error_of (Refused kind) number = error_line number (kind_name kind)
error_of Read number = error_line number (codes "read")
error_of Memory number = error_line number (codes "memory")
error_of (Full quantity) number = error_line number (full_name quantity)

abbrev pub status_of : Stop → ℕ → Status
status_of (Refused kind) number = BadScenario number kind
status_of Read number = ReadFault
status_of Memory number = WantsMemory
status_of (Full quantity) number = IsFull quantity

-- why no further line came
abbrev pub stop_of_line : LineErr → Stop
stop_of_line TooLong = Full Line
stop_of_line InputFull = Full Input
stop_of_line LineFault = Read
stop_of_line LineMemory = Memory
