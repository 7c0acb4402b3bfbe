-- What a history tells of the tags of objects, and of whose commands are performed under the server's holder.
use Rattle.std.specs.Prelude.{◌≡◌, ℕ, Bool, false, ◌^◌, ◌&&◌, ◌||◌, not, nat_le, nat_lt, List, slice_get, Option, Some, None, Ok}
use Rattle.osd_commands.specs.declared.commands.Command.{Command}
use Rattle.osd_commands.specs.Commands.{reading}
use Rattle.osd_objects.specs.declared.object.StoredObject.{StoredObject}
use Rattle.osd_objects.specs.Store.{object_at}
use Rattle.server_rules.specs.declared.limits.TheConstants.{SERVER_HOLDER}
use Rattle.scenario_text.specs.declared.line.Party.TheVariants.{Server, Drive}
use Rattle.scenario_text.specs.declared.line.Verdict.TheVariants.{Perform}
use Rattle.scenario_text.specs.declared.line.Delivery.TheVariants.{Judged}
use Rattle.scenario_text.specs.declared.line.Line.{Line}
use Rattle.scenario_text.specs.declared.line.Line.TheVariants as line
use Rattle.world_history.specs.declared.messages.Sent.{Sent}
use Rattle.world_history.specs.State.{DriveAt}
use Rattle.world_history.specs.Reading.{sent_in}
use Rattle.world_history.specs.ReadDrives.{drive_after}
use Rattle.history_law.specs.Judging.{injected_in}
use Rattle.history_law.specs.Safe.{AtEachLine}
use Rattle.history_law.specs.Fencing.{Reached}

-- ---- tags

-- an object has this tag or a later one
abbrev pub has_tag : (tag : ℕ) → Option StoredObject → Bool
has_tag tag None = false
has_tag tag (Some x) = nat_le tag x.tag

-- at a drive an object has this tag or a later one, or the drive has failed
abbrev pub has_reached : (object tag : ℕ) → Option DriveAt → Bool
has_reached object tag None = false
has_reached object tag (Some a) = a.failed || has_tag tag (object_at a.state.store object)

-- their numbers fit their places in a command
abbrev pub is_spellable : (object tag : ℕ) → Bool
is_spellable object tag = nat_lt object (2 ^ 64) && nat_lt tag (2 ^ 32)

-- so it is behind a history, where the numbers fit their places
abbrev pub reached_in : List Line → Reached
reached_in h drive object tag = not (is_spellable object tag) || has_reached object tag (drive_after h drive)

-- ---- the server's holder

-- the server sent these bytes to the drive
abbrev pub ServerSent : List Line → (drive : ℕ) → (bytes : List ℕ) → Type 0
ServerSent h drive bytes =
    (n : ℕ) × (m : Sent) × (slice_get (sent_in h) n ≡ Some m) × (m.from ≡ Server) × (m.to ≡ Drive drive)
    × (m.bytes ≡ bytes)

-- What a drive performs under the server's holder, the server sent to it: each message that is delivered, and what is
-- injected.
abbrev pub OwnAt : List Line → Line → Type 0
OwnAt before (line.Delivered number (Judged Perform)) =
    (m : Sent) (drive : ℕ) (c : Command) → slice_get (sent_in before) number ≡ Some m → m.to ≡ Drive drive →
    reading m.bytes ≡ Ok c → c.capability.holder ≡ SERVER_HOLDER → ServerSent before drive m.bytes
OwnAt before (line.Judged drive Perform) =
    (c : Command) → reading (injected_in before drive) ≡ Ok c → c.capability.holder ≡ SERVER_HOLDER →
    ServerSent before drive (injected_in before drive)
OwnAt before l = Unit {0}

-- so it is at each line
abbrev pub HolderIsServer : List Line → Type 0
HolderIsServer h = AtEachLine OwnAt h
