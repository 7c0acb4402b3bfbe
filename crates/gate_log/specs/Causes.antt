-- What a log's call answers where a call of its disk failed.
use Rattle.osd_disk.specs.declared.disk.DiskErr.{DiskErr}
use Rattle.osd_disk.specs.declared.disk.DiskErr.TheVariants.{Fault, Memory}
use Rattle.gate_log.specs.declared.errors.LogErr.{LogErr}
use Rattle.gate_log.specs.declared.errors.LogErr.TheVariants as Log

abbrev pub told_by : DiskErr → LogErr
told_by Fault = Log.DiskFault
told_by Memory = Log.Memory
