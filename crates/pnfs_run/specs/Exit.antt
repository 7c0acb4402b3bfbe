-- How a run of the program ends, by how its command ended, and the exit status of the program then.
use Rattle.std.specs.Prelude.{ℕ}
use Rattle.cluster_text.specs.declared.stop.CommandStop.{CommandStop}
use Rattle.cluster_text.specs.declared.stop.CommandStop.TheVariants as stop
use Rattle.client_command.specs.declared.work_ends.ClientEnd.{ClientEnd}
use Rattle.client_command.specs.declared.work_ends.ClientEnd.TheVariants as client
use Rattle.drive_command.specs.declared.stored_stop.StoredStop.{StoredStop}
use Rattle.drive_command.specs.declared.stored_stop.StoredStop.TheVariants as stored
use Rattle.osd_replay.specs.declared.status.Quantity.TheVariants.{Input}
use Rattle.osd_replay.specs.declared.status.Status.{Status as ReplayStatus}
use Rattle.osd_replay.specs.declared.status.Status.TheVariants as replay
use Rattle.pnfs_run.specs.declared.status.Status.{Status}
use Rattle.pnfs_run.specs.declared.status.Status.TheVariants.{Done, BadWords, BadScenario, ReadFault, WriteFault, Memory}
use Rattle.pnfs_run.specs.declared.status.Status.TheVariants.{Full, LinkFault, BadCluster, Refused, Unnumbered, DiskFault, BadStore}

-- a command without a network
abbrev pub by_replay : ReplayStatus → Status
by_replay replay.Done = Done
by_replay replay.BadWords = BadWords
by_replay (replay.BadScenario line kind) = BadScenario line kind
by_replay replay.ReadFault = ReadFault
by_replay replay.WriteFault = WriteFault
by_replay replay.Memory = Memory
by_replay (replay.Full quantity) = Full quantity

-- a command over a network that stopped before its work was done
abbrev pub by_stop : CommandStop → Status
by_stop (stop.BadCluster kind) = BadCluster kind
by_stop stop.ReadFault = ReadFault
by_stop stop.WriteFault = WriteFault
by_stop stop.Memory = Memory
by_stop stop.Full = Full Input
by_stop stop.LinkFault = LinkFault

-- a drive or a server with a store that stopped before its work was done
abbrev pub by_stored : StoredStop → Status
by_stored (stored.Command stop) = by_stop stop
by_stored stored.DiskFault = DiskFault
by_stored (stored.BadStore at) = BadStore at

-- the work of a client that was told
abbrev pub by_client : ClientEnd → Status
by_client client.Done = Done
by_client (client.Refused outcome) = Refused outcome
by_client client.Unnumbered = Unnumbered

abbrev pub exit_code_of : Status → ℕ
exit_code_of Done = 0
exit_code_of BadWords = 2
exit_code_of (BadScenario line kind) = 3
exit_code_of ReadFault = 4
exit_code_of WriteFault = 5
exit_code_of Memory = 6
exit_code_of (Full quantity) = 7
exit_code_of LinkFault = 8
exit_code_of (BadCluster kind) = 9
exit_code_of (Refused outcome) = 10
exit_code_of Unnumbered = 8
exit_code_of DiskFault = 11
exit_code_of (BadStore at) = 12
