-- What the lines of a step show of the files.
use Rattle.std.specs.Prelude.{◌≡◌, ℕ, true, false, List, [], ◌∷◌, filter, slice_get, Option, Some, None}
use Rattle.std.specs.List.{list_any, filter_map}
use Rattle.scenario_text.specs.declared.event.Event.TheVariants as event
use Rattle.scenario_text.specs.declared.line.Party.TheVariants as party
use Rattle.scenario_text.specs.declared.line.Line.{Line}
use Rattle.scenario_text.specs.declared.line.Line.TheVariants as line
use Rattle.server_rules.specs.Files.{Step as ServerStep, file_at}
use Rattle.server_rules.specs.Numbers.{among}
use Rattle.world_history.specs.declared.messages.Sent.{Sent}
use Rattle.world_history.specs.ServerNames.{File, Note}
use Rattle.world_history.specs.Names.{known_note_line}
use Rattle.world_history.specs.Reading.{Step}
use Rattle.world_history.specs.Stripes.{is_short_stripe}
use Rattle.world_history.specs.Book.{server_step, server_behind}
use Rattle.world_history.specs.Calm.{Seen, seen, through}
use Rattle.calm_law.specs.Words.{seen_in}
use Rattle.component_law.specs.Words.{is_there}
use Rattle.component_law.specs.ShownFiles.{shows_file}
use Rattle.calm_law.specs.Marks.{HaveMaps}
use Rattle.component_law.specs.Distinct.{AreDistinct, HaveComponents}
use Rattle.calm_law.specs.Following.{seen_then}
use Rattle.component_law.specs.Components.{tells_component}
use Rattle.component_law.specs.Naming.{IsNamed, AreNamed}

-- the notes of what the server did, if anything
abbrev pub notes_in : Option ServerStep → List Note
notes_in None = []
notes_in (Some did) = did.notes

-- The lines of a step are those of a move: what they tell of components the server noted; a drive that is declared has
-- failed; and no message was sent by the server to itself.
pub record IsMoveOf (s : Seen) (t : Step) : Type 0 where
  pub notes : filter tells_component t.rest
      ≡ filter tells_component (filter_map known_note_line (notes_in (server_step s.server t)))
  pub declared : (d : ℕ) → t.head ≡ line.Event (event.Declare d) → among d s.moment.failed ≡ true
  pub sent : (number : ℕ) (m : Sent) → slice_get s.server.sent number ≡ Some m → m.from ≡ party.Server
      → m.to ≡ party.Server → ⊥

-- What the server's rules give of a step, as it is read off the lines: files stay, each with its map; the lines show each
-- file whose components are others than its notes told; and behind the notes the same stripes are short.
pub record ShowsFiles (s : Seen) (t : Step) (did : Option ServerStep) : Type 0 where
  pub maps : HaveMaps s.moment.server.files (server_behind s.server.server did).files
  pub distinct : AreDistinct s.moment.server.files
  pub components : HaveComponents s.moment.server.files
  pub shown : (n : ℕ)
      → list_any (shows_file (is_there s.moment.server.files n) (server_behind s.server.server did).files n) (t.head ∷ t.rest)
      ≡ false
      → seen_in (file_at (server_behind s.server.server did).files n)
      ≡ seen_then s.moment.server.files (through s t did).moment.server.files n
  pub steady : (n stripe : ℕ) (f g : File) → is_there s.moment.server.files n ≡ true
      → file_at (through s t did).moment.server.files n ≡ Some f
      → file_at (server_behind s.server.server did).files n ≡ Some g
      → is_short_stripe (through s t did).moment g stripe ≡ is_short_stripe (through s t did).moment f stripe

-- so each step that is a move shows its files
abbrev pub MovesShowFiles : Type 0
MovesShowFiles =
    (h : List Line) (t : Step) → AreNamed h → IsNamed t.head → IsMoveOf (seen h) t
    → ShowsFiles (seen h) t (server_step (seen h).server t)
