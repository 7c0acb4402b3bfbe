-- The ends of a run: its input and its output, the links, the ports, who watches it, and the clock.
use Rattle.std.specs.Prelude.{◌≡◌, ℕ, List, Option}
use Rattle.osd_bytes.specs.Connections.{Standing, Traffic}
use Rattle.osd_bytes.specs.Counts.{Faults}
use Rattle.osd_bytes.specs.declared.clock.Clock.{Ghosts as ClockGhosts}
use Rattle.osd_bytes.specs.declared.links.Links.{Ghosts as LinksGhosts}
use Rattle.osd_bytes.specs.declared.sink.Sink.{Ghosts as SinkGhosts}
use Rattle.osd_bytes.specs.declared.source.Source.{Ghosts as SourceGhosts}
use Rattle.osd_bytes.specs.Asking as asking
use Rattle.drive_loop.specs.Service as drive
use Rattle.osd_replay.specs.Ends as replay
use Rattle.cluster_text.specs.Outside.{Streams, streams}
use Rattle.client_command.specs.OnLinks.{OnLinks, on_links}
use Rattle.port_loop.specs.declared.notes.Notes.{Ghosts as NotesGhosts}
use Rattle.port_loop.specs.declared.ports.Happening.{Happening}
use Rattle.port_loop.specs.declared.ports.Ports.{Ghosts as PortsGhosts}

-- how many connections the ports opened, what happened on them, how many of their calls failed, where they listen, and the lines
-- that were told to whoever watches
pub record OnPorts : Type 0 where
  pub opened : ℕ
  pub told : Option (List Happening)
  pub faults : ℕ
  pub listens : Option (List ℕ)
  pub noted : Option (List (List ℕ))

abbrev pub ports_at : {A B : Type 0} → PortsGhosts A → NotesGhosts B → (ports : A) → (notes : B) → OnPorts
ports_at p n ports notes = record {
  opened = p.opened ports;
  told = p.told ports;
  faults = p.faults ports;
  listens = p.listens ports;
  noted = n.noted notes;
}

-- the bytes that the source has left and that the sink has taken, what came and went on the links, and the times of the
-- clock, where they tell them; the counts of the calls that failed; the addresses of the links; and what is known of the ports
pub record Ends : Type 0 where
  pub left : Option (List ℕ)
  pub reads_failed : ℕ
  pub taken : Option (List ℕ)
  pub writes_failed : ℕ
  pub told : Option Traffic
  pub faults : Faults
  pub standing : Standing
  pub times : Option (List ℕ)
  pub ports : OnPorts

abbrev pub ends : Option (List ℕ) → ℕ → Option (List ℕ) → ℕ → Option Traffic → Faults → Standing → Option (List ℕ)
    → OnPorts → Ends
ends left reads_failed taken writes_failed told faults standing times ports = record {
  left = left;
  reads_failed = reads_failed;
  taken = taken;
  writes_failed = writes_failed;
  told = told;
  faults = faults;
  standing = standing;
  times = times;
  ports = ports;
}

abbrev pub ends_at : {A B D E : Type 0} → SourceGhosts A → SinkGhosts B → LinksGhosts D → ClockGhosts E
    → (source : A) → (sink : B) → (links : D) → (clock : E) → OnPorts → Ends
ends_at s k l c source sink links clock ports = ends (s.left source) (s.faults source) (k.taken sink) (k.faults sink)
    (l.told links) (l.faults links) (l.standing links) (c.times clock) ports

-- ---- what each command sees of them

abbrev pub replay_ends : Ends → replay.Ends
replay_ends e = replay.ends e.left e.reads_failed e.taken e.writes_failed

abbrev pub streams_of : Ends → Streams
streams_of e = streams e.left e.reads_failed e.taken e.writes_failed

abbrev pub drive_ends : Ends → drive.Ends
drive_ends e = drive.ends_of e.ports.told e.ports.faults e.ports.noted e.times

abbrev pub server_ends : Ends → asking.Ends
server_ends e = asking.ends_of e.told e.faults e.times

abbrev pub links_of : Ends → OnLinks
links_of e = on_links e.told e.faults

-- ---- what is left alone

-- the links were asked nothing
abbrev pub LeavesLinks : (before now : Ends) → Type 0
LeavesLinks before now =
    (now.told ≡ before.told) × (now.faults ≡ before.faults) × (now.standing ≡ before.standing)

-- the ports were asked nothing, and nothing was told
abbrev pub LeavesPorts : (before now : Ends) → Type 0
LeavesPorts before now = now.ports ≡ before.ports

-- neither the links, the ports nor the clock were asked anything
pub record AsksNobody (before now : Ends) : Type 0 where
  pub told : now.told ≡ before.told
  pub faults : now.faults ≡ before.faults
  pub standing : now.standing ≡ before.standing
  pub times : now.times ≡ before.times
  pub ports : now.ports ≡ before.ports

-- nothing was read, and the clock wasn't asked
pub record LeavesInput (before now : Ends) : Type 0 where
  pub left : now.left ≡ before.left
  pub reads_failed : now.reads_failed ≡ before.reads_failed
