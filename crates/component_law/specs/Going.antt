-- How the components of a file go on in a step of the server.
use Rattle.std.specs.Prelude.{◌≡◌, ◌==◌, ℕ, false, List, Option, Some, None, find, is_some, if◌then◌else◌}
use Rattle.std.specs.List.{list_any, filter_map}
use Rattle.osd_lists.specs.declared.node.Node.TheVariants as node
use Rattle.server_rules.specs.Files.{file_at}
use Rattle.server_rules.specs.Messages.{Orders, counters_have_room}
use Rattle.server_rules.specs.History.{Input, Hears, Makes, Obeys, step}
use Rattle.scenario_text.specs.declared.line.Line.{Line}
use Rattle.world_history.specs.ServerNames.{Server, Drive, File, OrderKind, ToDeclare}
use Rattle.world_history.specs.Names.{known_note_line}
use Rattle.component_law.specs.Components.{Paired, StandAlike, told_in, tells_rebuilt, without_drive}
use Rattle.component_law.specs.Naming.{IsNamedInput}
use Rattle.component_law.specs.Sound.{IsSound}

-- the drive that an order declares
abbrev pub declared_by : OrderKind → (target : ℕ) → Option ℕ
declared_by ToDeclare n = Some n
declared_by kind n = None

-- the drive that is declared by what comes to the server
abbrev pub declared_in : Input → Option ℕ
declared_in (Obeys kind n) = declared_by kind n
declared_in (Hears now node.Server (Orders o)) = declared_by o.order o.target
declared_in i = None

-- the drive, if the server knows it
abbrev pub if_known : Server → (drive : Option ℕ) → Option ℕ
if_known s None = None
if_known s (Some n) = if is_some (find (λ (d : Drive). d.number == n) s.drives) then Some n else None

-- The drive whose components a step takes out: the declared one, if the server knows it. An order that comes in a message
-- is taken only while the counters have room.
abbrev pub taken_out : Server → Input → Option ℕ
taken_out s (Hears now from m) = if counters_have_room s then if_known s (declared_in (Hears now from m)) else None
taken_out s i = if_known s (declared_in i)

-- A file goes on with its map. Its components are as these lines tell, after those on the drive that is taken out became
-- missing, but for the objects of those that were rebuilt.
pub record GoesOn (out : Option ℕ) (lines : List Line) (n : ℕ) (f g : File) : Type 0 where
  pub map : g.kept.map ≡ f.kept.map
  pub alike : Paired StandAlike (told_in n (without_drive out f.kept.components) lines) g.kept.components
  pub exact : list_any (tells_rebuilt n) lines ≡ false
      → g.kept.components ≡ told_in n (without_drive out f.kept.components) lines

-- the file of that number is made
abbrev pub IsMaking : Input → (file : ℕ) → Type 0
IsMaking (Makes k m tag zoned) n = k ≡ n
IsMaking i n = ⊥

-- of file n before and behind a step with these lines
abbrev pub Goes : Input → (out : Option ℕ) → List Line → (file : ℕ) → Option File → Option File → Type 0
Goes i out lines n None None = Unit {0}
Goes i out lines n None (Some g) = IsMaking i n
Goes i out lines n (Some f) None = ⊥
Goes i out lines n (Some f) (Some g) = GoesOn out lines n f g

-- so goes each file in each step, with the lines of its notes
abbrev pub EachStepTells : Type 0
EachStepTells =
    (s : Server) (chosen : List ℕ) (i : Input) → IsSound s → IsNamedInput i → (n : ℕ)
    → Goes i (taken_out s i) (filter_map known_note_line (step s chosen i).notes) n (file_at s.files n)
    (file_at (step s chosen i).state.files n)
