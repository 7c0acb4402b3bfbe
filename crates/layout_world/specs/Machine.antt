-- What there is of the server of a world: it runs over its journal, or is down to its disk.
use Rattle.std.specs.Prelude.{◌≡◌, ⊤, [], false}
use Rattle.osd_disk.specs.declared.disk.Disk.{Ghosts}
use Rattle.osd_disk.specs.Medium.{Medium, bytes_of}
use Rattle.server_rules.specs.declared.server.Server.{Server}
use Rattle.server_rules.specs.Making.{new_server}
use Rattle.server_rules.specs.Openings.{crash}
use Rattle.kept_server.specs.Views.{Keeping}
use Rattle.layout_server.specs.declared.new_files.FileErr.{FileErr}
use Rattle.layout_server.specs.declared.new_files.FileErr.TheVariants as file
use Rattle.server_journal.specs.declared.errors.JournalFileErr.{JournalFileErr}
use Rattle.server_journal.specs.declared.errors.JournalFileErr.TheVariants as made
use Rattle.server_journal.specs.declared.server.JournaledServer.{JournaledServer}
use Rattle.server_journal.specs.Journals.{IsJournalOf, IsKept, core_of, is_over_in}
use Rattle.layout_world.specs.declared.machine.Standing.{Standing}
use Rattle.layout_world.specs.declared.machine.Standing.TheVariants.{Up, Down, Gone}

-- the server
abbrev pub state_in : Standing → Server
state_in (Up j) = core_of j
state_in (Down was disk) = crash was.server
state_in Gone = new_server []

-- its disk has what it keeps through a crash, unless a call found no memory
abbrev pub IsWell : Ghosts Medium → JournaledServer Medium → Type 0
IsWell k j = is_over_in j ≡ false → IsKept k j

-- a disk has what this server kept
abbrev pub Rests : Keeping → Medium → Type 0
Rests was disk = IsJournalOf (crash was.server) (bytes_of disk)

abbrev pub Stands : Ghosts Medium → Standing → Type 0
Stands k (Up j) = IsWell k j
Stands k (Down was disk) = Rests was disk
Stands k Gone = ⊤

-- why a file isn't made, as a server without a journal tells it
abbrev pub told_back : JournalFileErr → FileErr
told_back made.FileExists = file.FileExists
told_back (made.BadMap why) = file.BadMap why
told_back (made.TooFewDrives online) = file.TooFewDrives online
told_back (made.NoSpread online) = file.NoSpread online
told_back (made.Journal e) = file.Memory
