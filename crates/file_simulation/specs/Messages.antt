-- What clients and the server sent to the objects of a file, and what drives replied.
use Rattle.std.specs.Prelude.{◌≡◌, ℕ, ◌+◌, ◌<◌, ◌≤◌, Bool, true, false, length, slice_get, slice_index, Some}
use Rattle.osd_lists.specs.declared.node.Node.TheVariants as node
use Rattle.osd_objects.specs.declared.lanes.LaneEntry.{LaneEntry}
use Rattle.osd_objects.specs.Store.{lane_or_none}
use Rattle.osd_commands.specs.declared.actions.Action.TheVariants.{Write, SetTag}
use Rattle.osd_commands.specs.declared.commands.Command.{Command}
use Rattle.osd_commands.specs.declared.replies.Reply.{Reply}
use Rattle.scenario_text.specs.declared.names.TheConstants.{CLIENTS}
use Rattle.server_rules.specs.Laws.{In}
use Rattle.client_rules.specs.declared.limits.TheConstants.{PERFORMED}
use Rattle.client_rules.specs.Replies.{answers}
use Rattle.client_rules.specs.Io.{awaited_in, got_of}
use Rattle.world_history.specs.ServerNames.{File, Component}
use Rattle.world_history.specs.ClientNames.{Awaited, Column, Io, Phase, Reads, Probes, Gathers, Scatters}
use Rattle.world_history.specs.declared.messages.Body.TheVariants.{Reply as OfReply}
use Rattle.world_history.specs.State.{World}
use Rattle.exchange_law.specs.Doing.{said}
use Rattle.exchange_law.specs.Sent.{HasSent}
use Rattle.component_law.specs.Sent.{commanded}
use Rattle.fence_law.specs.State as machine
use Rattle.fence_law.specs.Words.{In as InRun}
use Rattle.file_simulation.specs.Components.{object_of}

-- ---- what was sent

-- the server sent this command to the drive
abbrev pub HasCommanded : World → (drive : ℕ) → Command → Type 0
HasCommanded w d x = In (commanded d x) (said w.network.messages)

-- WRITE m of the machine carries just the bytes of command x to component k: they are the content of its entry in its part
pub record Carries (s : machine.State) (k : ℕ) (x : Command) (m : machine.Write) : Type 0 where
  pub content : (i : ℕ) → i < length x.payload →
      (s.start m.entry).content k (x.offset + i) ≡ Some (slice_index x.payload i)
  pub part : (i : ℕ) → i < length x.payload → (s.start m.entry).part k (x.offset + i) ≡ m.part
  pub just : (z v : ℕ) → (s.start m.entry).content k z ≡ Some v → (s.start m.entry).part k z ≡ m.part →
      (x.offset ≤ z) × (z < x.offset + length x.payload)

-- the machine's client c has sent command x to component k
pub record WasSent (s : machine.State) (c k : ℕ) (x : Command) : Type 0 where
  pub write : machine.Write
  pub sent : InRun write s.writes
  pub holder : write.holder ≡ c
  pub grant : write.grant ≡ x.capability.grant
  pub tag : write.tag ≡ x.capability.tag
  pub nonce : write.nonce ≡ x.nonce
  pub at_ : write.at ≡ k
  pub carries : Carries s k x write

-- Each WRITE that a client ever sent to the object of a component that isn't lost was sent in the machine, and so was each SET
-- TAG of the server; and the machine has a reply to what stands last in a client's lane.
pub record AreSent (s : machine.State) (w : World) (f : File) : Type 0 where
  pub writes : (c d k : ℕ) (x : Command) (at : Component) → HasSent w c d x → x.action ≡ Write →
      slice_get f.kept.components k ≡ Some at → x.object ≡ at.object → s.lost k ≡ false → WasSent s c k x
  pub replied : (c k : ℕ) (at : Component) (l : LaneEntry) → c < CLIENTS → slice_get f.kept.components k ≡ Some at →
      s.lost k ≡ false → lane_or_none (object_of w at) c ≡ Some l →
      InRun (record { holder = c; nonce = l.nonce; at = k }) s.replies
  pub raised : (d k : ℕ) (x : Command) (at : Component) → HasCommanded w d x → x.action ≡ SetTag →
      slice_get f.kept.components k ≡ Some at → x.object ≡ at.object → InRun x.capability.tag s.set_tags

-- ---- what was read

-- a drive replied so to a client
abbrev pub HasReplied : World → (drive client : ℕ) → Reply → Type 0
HasReplied w d c r =
    In (record { from = node.Drive d; to = node.Client c; body = OfReply r }) (said w.network.messages)

-- component k has shown these bytes of its position to entry j
pub record WasShown (s : machine.State) (j k : ℕ) (col : Column) : Type 0 where
  pub below : k < s.layout.components
  pub position : s.layout.position k ≡ col.position
  pub reply : machine.ReadReply
  pub shown : InRun reply s.shown
  pub entry : reply.entry ≡ j
  pub at_ : reply.at ≡ k
  pub cells : (i : ℕ) → i < length col.bytes → reply.cells (col.offset + i) ≡ slice_index col.bytes i

-- what a call got was shown to entry j, and so is what each performed reply to a READ that it awaits would give
pub record AreShown (s : machine.State) (w : World) (c j : ℕ) (io : Io) : Type 0 where
  pub got : (col : Column) → In col io.got → (k : ℕ) × WasShown s j k col
  pub replied : (a : Awaited) (r : Reply) → In a io.awaited → HasReplied w a.drive c r → answers a.drive r a ≡ true →
      r.verdict ≡ PERFORMED → WasShown s j a.ask.component (got_of a r)

-- so it is in each phase that reads, where its client is at entry j
abbrev pub ShownIn : machine.State → World → (c j : ℕ) → Phase → Type 0
ShownIn s w c j (Reads io) = AreShown s w c j io
ShownIn s w c j (Probes io) = AreShown s w c j io
ShownIn s w c j (Gathers io) = AreShown s w c j io
ShownIn s w c j phase = Unit {0}

-- ---- what drives told of WRITEs

-- a drive replied to a client's command that it performed it
pub record WasPerformed (w : World) (c : ℕ) (a : Awaited) (r : Reply) : Type 0 where
  pub told : HasReplied w a.drive c r
  pub answers : answers a.drive r a ≡ true
  pub performed : r.verdict ≡ PERFORMED

-- the phase sends WRITEs
abbrev pub is_scatter : Phase → Bool
is_scatter (Scatters io queue) = true
is_scatter p = false

-- Where a phase awaits a WRITE of which its drive replied that it was performed, the machine has a reply to it: also where the
-- component is lost since.
abbrev pub ToldIn : machine.State → World → (c : ℕ) → Phase → Type 0
ToldIn s w c phase =
    is_scatter phase ≡ true → (a : Awaited) (r : Reply) → In a (awaited_in phase) → WasPerformed w c a r →
    InRun (record { holder = c; nonce = a.command.nonce; at = a.ask.component }) s.replies
