-- What the parties of the scenario rest in between two of its calls.
use Rattle.std.specs.Prelude.{◌≡◌, ◌<◌, ◌≤◌, ◌%◌, ℕ, true, false, List, length, Some, None}
use Rattle.server_rules.specs.Files.{file_at}
use Rattle.server_rules.specs.Laws.{In}
use Rattle.scenario_text.specs.declared.line.Line.{Line}
use Rattle.world_history.specs.ServerNames.{File, Component, Grant}
use Rattle.world_history.specs.State.{World, DriveAt, ClientAt}
use Rattle.world_history.specs.Moves.{op_of, raw_of}
use Rattle.world_history.specs.History.{StandsFor}
use Rattle.ready_law.specs.Clear.{HasRoomTo}
use Rattle.ready_law.specs.Ready.{Scene, IsReady, scene_of}
use Rattle.ready_law.specs.Rested.{RestsAt, LeavesRest}
use Rattle.generate_law.specs.Scenario.{call_of, file_map, first_write}

-- ---- the file

-- the size of the file behind the first call: each range that is read later is below it
abbrev pub FILE_SIZE : ℕ
FILE_SIZE = 262144

-- where the objects of the components end: 16 stripes of 4,096 bytes a component
abbrev pub OBJECT_END : ℕ
OBJECT_END = 65536

-- The file of the scenario with this size: its five components are on drives of the scenario, none is missing, and no job runs.
pub record IsItsFile (size : ℕ) (f : File) : Type 0 where
  pub number : f.kept.number ≡ 0
  pub map : f.kept.map ≡ raw_of file_map
  pub size_is : f.kept.size ≡ size
  pub count : length f.kept.components ≡ 5
  pub there : (at : Component) → In at f.kept.components → (at.missing ≡ false) × (at.drive < 6)
  pub unspent : f.spent ≡ false
  pub quiet : f.job ≡ None

-- ---- drives

-- a drive that stands, whose clock is at 0, and that takes the file's format
pub record IsUp (f : File) (a : DriveAt) : Type 0 where
  pub works : a.failed ≡ false
  pub up : a.down ≡ false
  pub clock : a.clock ≡ 0
  pub format : a.state.least ≤ f.kept.format

-- ---- at rest

-- Between two calls: the server is up, its clock is at 0, and it has the file; the six drives stand, and those of the components
-- have room for their objects; the three clients are idle, and each holds what the server has of it.
pub record Rests (size : ℕ) (s : Scene) : Type 0 where
  pub unguessed : s.unguessed ≡ true
  pub up : s.down ≡ false
  pub clock : s.clock ≡ 0
  pub file : File
  pub found : file_at s.server.files 0 ≡ Some file
  pub its : IsItsFile size file
  pub drives : (d : ℕ) → d < 6 → (a : DriveAt) × (s.drive d ≡ Some a) × IsUp file a
  pub room : (at : Component) (a : DriveAt) → In at file.kept.components → s.drive at.drive ≡ Some a
      → HasRoomTo OBJECT_END a.state.store at.object
  pub clients : (c : ℕ) → c < 3 → (a : ClientAt) × (s.client c ≡ Some a) × RestsAt 0 file.kept c a
  pub granted : (g : Grant) → In g file.kept.grants → g.client < 3

-- ---- what is to be shown

-- a call of the scenario is ready where the parties rest
abbrev pub EachCallIsReady : Type 0
EachCallIsReady =
    (w : World) (h : List Line) (k x : ℕ) → StandsFor w h → Rests FILE_SIZE (scene_of w h)
    → IsReady (scene_of w h) (k % 3) (op_of (call_of k x))

-- so is its first one, where the file is new
abbrev pub FirstCallIsReady : Type 0
FirstCallIsReady =
    (w : World) (h : List Line) → StandsFor w h → Rests 0 (scene_of w h)
    → IsReady (scene_of w h) 0 (op_of first_write)

-- what it leaves is a rest again, and so it is of the first one
abbrev pub RestsGoOn : Type 0
RestsGoOn =
    (s t : Scene) (r : Rests FILE_SIZE s) (k x : ℕ) → t.unguessed ≡ true
    → LeavesRest s t (k % 3) (op_of (call_of k x)) r.file → Rests FILE_SIZE t

abbrev pub FirstRestBegins : Type 0
FirstRestBegins =
    (s t : Scene) (r : Rests 0 s) → t.unguessed ≡ true → LeavesRest s t 0 (op_of first_write) r.file → Rests FILE_SIZE t
