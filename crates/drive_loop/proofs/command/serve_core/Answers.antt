use Rattle.std.proofs.Common.{rules, ◌≡◌}
use Rattle.drive_command.specs.declared.stored_stop.StoredStop.TheVariants.{Command}
use Rattle.drive_loop.proofs.command.serve_core.Goals as goal

pub returns-in-Ok-clause-serves : goal.returns-in-Ok-clause-serves
returns-in-Ok-clause-serves g c =
    let done = c.in-Ok.ensures.serves in (c.serve_told.new.handler.server, done.0, done.1)

pub returns-in-Err-Command-clause-stops : goal.returns-in-Err-Command-clause-stops
returns-in-Err-Command-clause-stops g c =
    let is : c.in-Err-Command.field-0 ≡ Command c.in-Err-Command.stop = search rules in
    let stops = rw is at c.in-Err-Command.ensures.stops in
    (c.serve_told.new.handler.server, stops.steps, stops.why)
