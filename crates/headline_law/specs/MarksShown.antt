-- What the marks at a cut are taken from: the cuts of clients' moves and early ones of the server's, and what drives perform.
use Rattle.std.specs.Prelude.{◌≡◌, ◌<◌, ℕ, List, Some, None}
use Rattle.scenario_text.specs.declared.line.Line.{Line}
use Rattle.server_rules.specs.Files.{file_at}
use Rattle.server_rules.specs.History.{Input}
use Rattle.world_history.specs.ServerNames.{File}
use Rattle.world_history.specs.State.{World}
use Rattle.world_history.specs.Sending.{Move}
use Rattle.world_history.specs.Stripes.{Moment}
use Rattle.world_history.specs.Calm.{moment_of}
use Rattle.history_law.specs.Doing.{input_in}
use Rattle.fence_law.specs.State.{State}
use Rattle.fence_law.specs.Columns.{Disturbed}
use Rattle.file_simulation.specs.ClientEvents.{Going, going_in}
use Rattle.file_simulation.specs.Cuts.{lines_before}
use Rattle.file_simulation.specs.Showing.{Pairs, HasMark}
use Rattle.relation_law.specs.Steps.{Follows, behind}
use Rattle.file_simulation.specs.Tied.{WritesAreTied}
use Rattle.headline_law.specs.Parts.{CutShown, EntriesShown, cut_at, lines_to}

-- The marks are those that there were, and the server is the one of the world.
abbrev pub IsKept : World → List Line → Moment → Type 0
IsKept w h n = (n.marks ≡ (moment_of h).marks) × (n.server ≡ w.server)

-- So it is at a cut of a client's move.
abbrev pub ClientsKeepMarks : Type 0
ClientsKeepMarks =
    (w : World) (h : List Line) (m : Move) (count : ℕ) (f g : File) (s : State) → Follows w h m count f g s → (j : Going) →
    going_in w m.action ≡ Some j → IsKept w h (moment_of (lines_to w h m count))

-- So it is at one of the server's move that ends before its step begins.
abbrev pub EarlyCutsKeepMarks : Type 0
EarlyCutsKeepMarks =
    (w : World) (h : List Line) (m : Move) (count : ℕ) (f g : File) (s : State) → Follows w h m count f g s → (i : Input) →
    input_in w m.action ≡ Some i → count < lines_before m.action → IsKept w h (moment_of (lines_to w h m count))

-- What disturbs a column at a cut of any other move has its mark: a drive may have performed it. The number of the WRITE's
-- message leads to its entry in the log, and that entry is the machine's, if WRITEs are tied to their entries.
abbrev pub DrivesShowMarks : Type 0
DrivesShowMarks =
    (w : World) (h : List Line) (m : Move) (count : ℕ) (f g : File) (s : State) (pairs : Pairs) →
    (k : CutShown w h m count f g s pairs) → WritesAreTied w h s f pairs → going_in w m.action ≡ None →
    input_in w m.action ≡ None →
    (more : EntriesShown (lines_to w h m count) (cut_at k.shown.follows) f.kept.number pairs) → (x : File) →
    file_at (moment_of (lines_to w h m count)).server.files f.kept.number ≡ Some x → (x.kept.map ≡ f.kept.map)
    × ((q : ℕ) (d : Disturbed (behind k.shown.follows.related m count) q) →
    HasMark (behind k.shown.follows.related m count) (moment_of (lines_to w h m count)) f more.pairs d.0 q)

-- So it is at each cut.
abbrev pub CutsShowTheirMarks : Type 0
CutsShowTheirMarks =
    (w : World) (h : List Line) (m : Move) (count : ℕ) (f g : File) (s : State) (pairs : Pairs) →
    (k : CutShown w h m count f g s pairs) → WritesAreTied w h s f pairs →
    (more : EntriesShown (lines_to w h m count) (cut_at k.shown.follows) f.kept.number pairs) → (x : File) →
    file_at (moment_of (lines_to w h m count)).server.files f.kept.number ≡ Some x →
    (q : ℕ) (d : Disturbed (cut_at k.shown.follows) q) →
    HasMark (cut_at k.shown.follows) (moment_of (lines_to w h m count)) x more.pairs d.0 q
