use Rattle.std.proofs.Common.{inl, arith}
use Rattle.drive_command.proofs.device_server.DriveCoreDeviceServer.handle.Goals as goal

pub returns-in-Ok-clause-ok : goal.returns-in-Ok-clause-ok
returns-in-Ok-clause-ok c =
    record { state = c.in-Ok.ensures.state; few = omega arith; crash = λ kept. absurd kept; since = λ kept. absurd kept }

pub returns-in-Err-clause-err : goal.returns-in-Err-clause-err
returns-in-Err-clause-err c =
    inl (record { state = c.in-Err.ensures.err; few = omega arith; crash = λ kept. absurd kept; since = λ kept. absurd kept })
