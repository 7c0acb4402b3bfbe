-- Errors of a disk under other names.
use Rattle.std.proofs.Common.{◌≡◌, refl}
use Rattle.server_command.specs.ServerStops.{serve_err_of, stop_of_step}
use Rattle.server_command.specs.declared.metadata_server.StepErr.{StepErr}
use Rattle.server_command.specs.declared.metadata_server.StepErr.TheVariants as step
use Rattle.server_command.specs.declared.serve_err.ServerServeErr.TheVariants as serving
use Rattle.server_command.specs.declared.server_stop.ServerStop.TheVariants.{DiskFault}

pub serve_fault : (e : StepErr) → serve_err_of e ≡ serving.DiskFault → e ≡ step.DiskFault
serve_fault step.DiskFault is = refl
serve_fault step.Memory is = absurd (cc is)

pub step_fault : (e : StepErr) → stop_of_step e ≡ DiskFault → e ≡ step.DiskFault
step_fault step.DiskFault is = refl
step_fault step.Memory is = absurd (cc is)
