-- The exit status of the program for each way to end.
use Rattle.std.specs.Prelude.{ℕ}
use Rattle.osd_replay.specs.declared.status.Status.{Status}
use Rattle.osd_replay.specs.declared.status.Status.TheVariants.{Done, BadWords, BadScenario, ReadFault, WriteFault}
use Rattle.osd_replay.specs.declared.status.Status.TheVariants.{Memory, Full}

abbrev pub exit_code_of : Status → ℕ
exit_code_of Done = 0
exit_code_of BadWords = 2
exit_code_of (BadScenario line kind) = 3
exit_code_of ReadFault = 4
exit_code_of WriteFault = 5
exit_code_of Memory = 6
exit_code_of (Full quantity) = 7
