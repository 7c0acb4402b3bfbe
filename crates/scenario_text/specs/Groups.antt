-- The kinds of events.
use Rattle.scenario_text.specs.declared.event.Event.{Event}
use Rattle.scenario_text.specs.declared.event.Event.TheVariants.{Drive, Disk, Client, File, ZonedFile, Zone, Least}
use Rattle.scenario_text.specs.declared.event.Event.TheVariants.{Format, Do, Call, Deliver, DropMessage, Settle}
use Rattle.scenario_text.specs.declared.event.Event.TheVariants.{Resend, Timeout, Leave, Inject}
use Rattle.scenario_text.specs.declared.group.Group.{Group}
use Rattle.scenario_text.specs.declared.group.Group.TheVariants.{Setup, Traffic, Upkeep}

-- the group of an event: what makes parties and settings, what concerns calls and messages, and the rest
abbrev pub group_of : Event → Group
group_of (Drive d key capacity) = Setup
group_of (Disk d key capacity) = Setup
group_of (Client c) = Setup
group_of (File f map tag) = Setup
group_of (ZonedFile f map tag) = Setup
group_of (Zone d z) = Setup
group_of (Least d format) = Setup
group_of (Format format) = Setup
group_of (Do c call) = Traffic
group_of (Call c call) = Traffic
group_of (Deliver n) = Traffic
group_of (DropMessage n) = Traffic
group_of Settle = Traffic
group_of (Resend who) = Traffic
group_of (Timeout c k) = Traffic
group_of (Leave c) = Traffic
group_of (Inject d bytes) = Traffic
group_of e = Upkeep
