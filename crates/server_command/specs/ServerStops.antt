-- Why a server that may be kept on a disk stops.
use Rattle.cluster_text.specs.declared.stop.CommandStop.TheVariants as cause
use Rattle.server_command.specs.declared.metadata_server.StepErr.{StepErr}
use Rattle.server_command.specs.declared.metadata_server.StepErr.TheVariants as step
use Rattle.server_command.specs.declared.serve_err.ServerServeErr.{ServerServeErr}
use Rattle.server_command.specs.declared.serve_err.ServerServeErr.TheVariants as serving
use Rattle.server_command.specs.declared.server_stop.ServerStop.{ServerStop}
use Rattle.server_command.specs.declared.server_stop.ServerStop.TheVariants.{Command, DiskFault}

-- where there was no memory
abbrev pub no_memory : ServerStop
no_memory = Command cause.Memory

-- where a step wasn't done
abbrev pub stop_of_step : StepErr → ServerStop
stop_of_step step.DiskFault = DiskFault
stop_of_step step.Memory = no_memory

-- why serving stops then
abbrev pub serve_err_of : StepErr → ServerServeErr
serve_err_of step.DiskFault = serving.DiskFault
serve_err_of step.Memory = serving.Memory

-- where serving stopped
abbrev pub stop_of_serving : ServerServeErr → ServerStop
stop_of_serving serving.LinkFault = Command cause.LinkFault
stop_of_serving serving.DiskFault = DiskFault
stop_of_serving serving.Memory = no_memory
