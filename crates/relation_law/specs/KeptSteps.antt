-- What the machine has of a file in the middle of a step of the server.
use Rattle.std.specs.Prelude.{◌≡◌, ℕ, ◌≤◌, Bool, true, false, List, [], ◌∷◌, ◌++◌}
use Rattle.osd_lists.specs.declared.node.Node.TheVariants.{Server as FromServer}
use Rattle.server_rules.specs.Going.{Going}
use Rattle.server_rules.specs.History.{Input, Hears, Obeys, Opens}
use Rattle.server_rules.specs.Messages.{Orders}
use Rattle.world_history.specs.ServerNames.{File, Kept, Note, Still, Order}
use Rattle.world_history.specs.State.{World}
use Rattle.fence_law.specs.State.{State, Event}
use Rattle.fence_law.specs.State.Event.{Grants, Frees, Fences, Fenced, Refenced, Leaves, Commits, Repaired}
use Rattle.fence_law.specs.Machine.{Lawful, after_all}
use Rattle.file_simulation.specs.Phases.{PhaseIs, AreBelowHigh}
use Rattle.file_simulation.specs.ServerEvents.{noted, ordered, fences}
use Rattle.relation_law.specs.KeptHigh.{as_file}

-- ---- events that leave what is kept

-- Only these touch what the machine has of what the server keeps; all others leave it.
abbrev pub is_light : Event → Bool
is_light (Grants c number rw range extending) = false
is_light (Frees c) = false
is_light Fences = false
is_light Fenced = false
is_light Refenced = false
is_light (Leaves c g) = false
is_light (Commits c j g) = false
is_light (Repaired done e) = false
is_light e = true

abbrev pub AllLight : List Event → Type 0
AllLight [] = Unit {0}
AllLight (e ∷ es) = (is_light e ≡ true) × AllLight es

-- ---- notes

-- the events of some notes, each by the machine as it is then
unfoldable pub notes_events : State → World → File → Input → List Note → List Event
notes_events t w f i [] = []
notes_events t w f i (n ∷ ns) = noted t w f i n ++ notes_events (after_all t (noted t w f i n)) w f i ns

-- the machine behind them
abbrev pub behind_notes : State → World → File → Input → List Note → State
behind_notes t w f i ns = after_all t (notes_events t w f i ns)

-- ---- in the middle of a step

-- what is kept of a file, but for its components, its format, and whether it is zoned and made
abbrev pub core : Kept → File
core k = as_file (record k { zoned = false; components = []; format = 0; ready = false })

-- What the machine has of what is kept of the file so far. If a job runs, no grant was issued since the last fence.
pub record IsSoFar (next : ℕ) (busy : Bool) (s : State) (k : Kept) : Type 0 where
  pub tag : s.tag ≡ k.tag
  pub size : s.size ≡ k.size
  pub phase : PhaseIs s (core k) k.phase
  pub next_is : s.next ≤ next
  pub unused : busy ≡ true → k.phase ≡ Still → s.granted_since ≡ false
  pub unready : k.ready ≡ false → s.granted_since ≡ false
  pub low : AreBelowHigh s (core k)

-- ---- between two steps

-- what the machine has of what the server keeps of the file, where the next grant has that number or a greater one
pub record IsKeptAt (next : ℕ) (s : State) (f : File) : Type 0 where
  pub tag : s.tag ≡ f.kept.tag
  pub size : s.size ≡ f.kept.size
  pub phase : PhaseIs s f f.kept.phase
  pub next_is : s.next ≤ next
  pub unready : f.kept.ready ≡ false → s.granted_since ≡ false
  pub low : AreBelowHigh s f

-- ---- a step

-- What a step with these notes makes of file f. `t` is the machine behind the step's first line; what the notes are given with
-- makes their events lawful.
pub record GoesAs (next : ℕ) (t : State) (w : World) (f : File) (i : Input) (Given : Type 0) (ns : List Note) (g : File)
    : Type 0 where
  pub lawful : Given → Lawful t (notes_events t w f i ns)
  pub kept : Given → IsKeptAt next (behind_notes t w f i ns) g

-- So it is behind the file's own part of a step, with the notes so far.
pub record IsDone (next : ℕ) (t : State) (w : World) (f : File) (i : Input) (Given : List Note → Type 0) (g : Going) : Type 0
  where
    pub number : g.file.kept.number ≡ f.kept.number
    pub lawful : Given g.effects.notes → Lawful t (notes_events t w f i g.effects.notes)
    pub kept : Given g.effects.notes → IsKeptAt next (behind_notes t w f i g.effects.notes) g.file

-- the first line of a step that isn't of a client's request
abbrev pub first_of : (before after : File) → Input → List Event
first_of f g (Obeys kind n) = ordered f g kind n
first_of f g Opens = fences f g
first_of f g i = []

-- no order comes in a message
abbrev pub HearsNoOrder : Input → Type 0
HearsNoOrder i = (now : ℕ) (o : Order) → i ≡ Hears now FromServer (Orders o) → ⊥
