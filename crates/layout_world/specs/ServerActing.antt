-- What a call of the server did, as each world has it in which the server is this one.
use Rattle.std.specs.Prelude.{ℕ, Bool, true, List, map, filter, ◌≡◌, Result, Ok}
use Rattle.std.specs.List.{filter_map}
use Rattle.osd_lists.specs.declared.node.Node.{Node}
use Rattle.data_map.specs.declared.check.RawMap.{RawMap}
use Rattle.server_rules.specs.declared.notes.Mended.{Mended}
use Rattle.server_rules.specs.declared.server.Server.{Server}
use Rattle.server_rules.specs.declared.server.Refusal.{Refusal}
use Rattle.server_rules.specs.Files.{Step}
use Rattle.server_rules.specs.Making.{create_file}
use Rattle.server_rules.specs.Envelopes.{on_bytes}
use Rattle.server_rules.specs.History.{Input, step}
use Rattle.world_history.specs.declared.messages.Message.{Message}
use Rattle.world_history.specs.State.{World, with_server, and_drive}
use Rattle.world_history.specs.Spelled.{spelled}
use Rattle.world_history.specs.Names.{known_note_line}
use Rattle.world_history.specs.Drives.{made_drive}
use Rattle.world_history.specs.Handed.{is_addressed, server_post, for_server, server_takes}
use Rattle.world_history.specs.Moves.{Act as WorldAct, has_algorithm, makes, gives, adds_drive}
use Rattle.world_network.specs.declared.acts.Act.{Act}
use Rattle.world_network.specs.declared.acts.Handed.{Handed}
use Rattle.world_network.specs.Acts.{IsAct, IsHanded, IsDone}
use Rattle.layout_world.specs.ServerState.{WorldServerState}

-- ---- a step of the rules

-- the step left that state, its notes were told and its messages sent, and the repairs that it ended are kept
pub record Acts (s : Step) (new : WorldServerState) (act : Act) : Type 0 where
  pub state : new.state ≡ s.state
  pub act_is : IsAct (filter_map known_note_line s.notes) (filter is_addressed (map server_post s.sends)) act
  pub mended : new.mended ≡ s.mended

-- ---- what the world does

-- each world with that server does that, and has the new server then
abbrev pub Does : (old : Server) → (World → WorldAct) → (new : Server) → Act → Type 0
Does old does new act = (w : World) → w.server ≡ old → IsDone (does w) (with_server w new) act

-- the bytes of a message came to the server, at a time of its clock; the placer named some drives
pub record Hears (old : Server) (now : ℕ) (from : Node) (bytes : List ℕ) (new : WorldServerState) (h : Handed)
    : Type 0 where
  pub chosen : List ℕ
  pub heard : (w : World) (m : Message) → w.server ≡ old → w.clock ≡ now → m.from ≡ from → spelled m.body ≡ bytes
      → IsHanded (server_takes w chosen m.from (for_server m)) (with_server w new.state) h
  pub mended : new.mended ≡ (on_bytes old now chosen from bytes).mended

-- the server was given something to do; the placer named some drives
pub record Gives (old : Server) (i : Input) (new : WorldServerState) (act : Act) : Type 0 where
  pub chosen : List ℕ
  pub done : Does old (λ w. gives w chosen i) new.state act
  pub mended : new.mended ≡ (step old chosen i).mended

-- the repairs that are kept where a file is made; one that is refused leaves them
abbrev pub mended_then : (before : List Mended) → (known : Bool) → Result Step Refusal → List Mended
mended_then before true (Ok s) = s.mended
mended_then before known r = before

-- a file was made on drives that the placer named, spread over zones or not, or is refused
pub record Makes (old : WorldServerState) (file : ℕ) (raw : RawMap) (tag : ℕ) (zoned : Bool) (new : WorldServerState)
    (act : Act) : Type 0 where
  pub chosen : List ℕ
  pub done : Does old.state (λ w. makes w chosen file raw tag zoned) new.state act
  pub mended : new.mended ≡ mended_then old.mended (has_algorithm raw) (create_file old.state file raw tag zoned chosen)

-- a further drive was made, stored or not, and the server knows it
abbrev pub Adds : (old : Server) → (drive : ℕ) → (key : List ℕ) → (capacity : ℕ) → (new : Server) → Act → Type 0
Adds old drive key capacity new act =
    (w : World) (stored : Bool) → w.server ≡ old → IsDone (adds_drive w drive key capacity stored)
    (with_server (and_drive w drive (made_drive drive key capacity stored)) new) act
