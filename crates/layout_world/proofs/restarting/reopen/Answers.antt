use Rattle.std.specs.Prelude.{refl}
use Rattle.scenario_text.specs.declared.event.Event.TheVariants as event
use Rattle.scenario_text.specs.declared.event.Machine.TheVariants as machine
use Rattle.world_history.specs.Moves.{begins}
use Rattle.layout_world.proofs.Acted.{none_ok}
use Rattle.layout_world.proofs.restarting.reopen.Goals as goal

pub returns-in-Drive : goal.returns-in-Drive
unfolding begins
returns-in-Drive c =
    rw c.in-Drive.is (none_ok c.reopen_drive.result (event.Reopen (machine.Drive c.in-Drive.drive)) c.args.parties.now
    c.reopen_drive.new.parties (λ w chosen. refl) c.reopen_drive.ensures)

pub returns-in-Server : goal.returns-in-Server
unfolding begins
returns-in-Server c = rw c.in-Server.is c.reopen_server.ensures
