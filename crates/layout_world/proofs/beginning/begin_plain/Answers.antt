use Rattle.world_history.specs.Moves.{begins}
use Rattle.layout_world.proofs.Acted.{held}
use Rattle.layout_world.proofs.beginning.begin_plain.Goals as goal

pub returns-in-Drive : goal.returns-in-Drive
unfolding begins
returns-in-Drive c = rw c.in-Drive.is (held c.add_drive.result _ _ c.add_drive.ensures)

pub returns-in-Disk : goal.returns-in-Disk
unfolding begins
returns-in-Disk c = rw c.in-Disk.is (held c.add_drive-in-Disk.result _ _ c.add_drive-in-Disk.ensures)

pub returns-in-Zone : goal.returns-in-Zone
unfolding begins
returns-in-Zone c = rw c.in-Zone.is (held c.set_zone.result _ _ c.set_zone.ensures)

pub returns-in-Client : goal.returns-in-Client
unfolding begins
returns-in-Client c = rw c.in-Client.is (held c.add.result _ _ c.add.ensures)

pub returns-in-Do : goal.returns-in-Do
unfolding begins
returns-in-Do c = rw c.in-Do.is (held c.call.result _ _ c.call.ensures)

pub returns-in-Call : goal.returns-in-Call
unfolding begins
returns-in-Call c = rw c.in-Call.is (held c.call-in-Call.result _ _ c.call-in-Call.ensures)

pub returns-in-Timeout : goal.returns-in-Timeout
unfolding begins
returns-in-Timeout c = rw c.in-Timeout.is (held c.time_out.result _ _ c.time_out.ensures.acts)

pub returns-in-Leave : goal.returns-in-Leave
unfolding begins
returns-in-Leave c = rw c.in-Leave.is (held c.leave.result _ _ c.leave.ensures)

pub returns-in-Inject : goal.returns-in-Inject
unfolding begins
returns-in-Inject c = rw c.in-Inject.is (held c.inject.result _ _ (rw c.as_slice.ensures at c.inject.ensures))
