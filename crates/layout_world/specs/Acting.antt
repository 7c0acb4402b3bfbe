-- What the code does in an action is what the world does.
use Rattle.std.specs.Prelude.{◌≡◌, ◌<◌, ◌++◌, ℕ, Bool, List, [], Some, length, slice_get}
use Rattle.osd_lists.specs.declared.node.Node.{Node}
use Rattle.scenario_text.specs.declared.line.Party.{Party}
use Rattle.data_map.specs.declared.check.RawMap.{RawMap}
use Rattle.server_rules.specs.History.{Input}
use Rattle.world_history.specs.declared.messages.Message.{Message}
use Rattle.world_history.specs.declared.messages.Sent.{Sent}
use Rattle.world_history.specs.ServerNames.{Mended}
use Rattle.world_history.specs.State.{World}
use Rattle.world_history.specs.Spelled.{spelled, party_of}
use Rattle.world_history.specs.Handed.{handed}
use Rattle.world_history.specs.Moves.{Act as WorldAct, Action}
use Rattle.world_history.specs.Book.{step_by, made_of}
use Rattle.world_history.specs.Calm.{mended_in}
use Rattle.world_network.specs.Network.{NetworkState, Delivers}
use Rattle.world_network.specs.declared.acts.Act.{Act}
use Rattle.world_network.specs.declared.acts.Handed.{Handed}
use Rattle.world_network.specs.Acts.{IsAct}
use Rattle.layout_world.specs.declared.parties.Parties.{Parties}
use Rattle.history_law.specs.Doing.{brought_to, did_in}
use Rattle.layout_world.specs.State.{ShowsWith, Shows}

-- ---- an action

-- the repairs that the server ends in a move
abbrev pub ends_in : Action → World → (chosen : List ℕ) → List Mended
ends_in action w chosen = mended_in (did_in w (record { action = action; chosen = chosen }))

-- the repairs that the server ends where this comes to it
abbrev pub ends_by : Input → World → (chosen : List ℕ) → List Mended
ends_by i w chosen = mended_in (step_by w.server chosen (Some i))

-- those that it ends where a file is made, spread over zones or not
abbrev pub ends_made : (file : ℕ) → RawMap → (tag : ℕ) → (zoned : Bool) → World → (chosen : List ℕ) → List Mended
ends_made f m tag zoned w chosen = mended_in (step_by w.server chosen (made_of f m tag zoned))

-- The world does this and ends these repairs, with some drives that the placer names: the parties show it then, and the
-- act is the code's.
pub record Doing (does : List ℕ → WorldAct) (ends : List ℕ → List Mended) (new : Parties) (act : Act) : Type 0 where
  pub chosen : List ℕ
  pub shows : ShowsWith (ends chosen) new (does chosen).world
  pub is : IsAct (does chosen).told (does chosen).posts act

-- so does each world that the parties showed
abbrev pub ActsWith : (does : World → List ℕ → WorldAct) → (ends : World → List ℕ → List Mended) → (old new : Parties)
    → Act → Type 0
ActsWith does ends old new act = (w : World) → Shows old w → Doing (does w) (ends w) new act

-- and no repair ends
abbrev pub Acts : (does : World → List ℕ → WorldAct) → (old new : Parties) → Act → Type 0
Acts does old new act = ActsWith does (λ w chosen. []) old new act

-- ---- a message

-- a message of the world, as the network has it
pub record IsOf (s : Sent) (m : Message) : Type 0 where
  pub from : s.from ≡ party_of m.from
  pub to : s.to ≡ party_of m.to
  pub bytes : s.bytes ≡ spelled m.body

-- the repairs that the server ends where a message comes to this party
abbrev pub ends_at : World → (chosen : List ℕ) → Message → Node → List Mended
ends_at w chosen m to = mended_in (step_by w.server chosen (brought_to w m to))

-- it comes to its receiver in the world, with some drives that the placer names
pub record Handing (w : World) (m : Message) (new : Parties) (h : Handed) : Type 0 where
  pub chosen : List ℕ
  pub shows : ShowsWith (ends_at w chosen m m.to) new (handed w chosen m).world
  pub receipt : h.receipt ≡ (handed w chosen m).receipt
  pub act : IsAct (handed w chosen m).told (handed w chosen m).posts h.act

-- so does each message of that text, in each world that the parties showed
abbrev pub Hands : Sent → (old new : Parties) → Handed → Type 0
Hands s old new h = (w : World) (m : Message) → Shows old w → IsOf s m → Handing w m new h

-- the message of that number comes to its receiver
abbrev pub HandsAt : (number : ℕ) → (old new : Parties) → Handed → Type 0
HandsAt number old new h = (s : Sent) → slice_get old.network.messages number ≡ Some s → Hands s old new h

-- the same, where it is for that party
abbrev pub HandsTo : (number : ℕ) → Party → (old new : Parties) → Handed → Type 0
HandsTo number to old new h =
    (s : Sent) → slice_get old.network.messages number ≡ Some s → s.to ≡ to → Hands s old new h

-- a message that was sent has its mark
abbrev pub Marked : (number : ℕ) → (old new : NetworkState) → Type 0
Marked number old new = number < length old.messages → Delivers old number new

-- messages were sent behind the others
abbrev pub Grows : (old new : List Sent) → Type 0
Grows old new = (more : List Sent) × (new ≡ old ++ more)
