-- What a cut shows of the entries of a file, with pairs that are tied behind the whole move.
use Rattle.std.specs.Prelude.{◌≡◌, ℕ, List, length, Some}
use Rattle.scenario_text.specs.declared.line.Line.{Line}
use Rattle.server_rules.specs.History.{Input}
use Rattle.world_history.specs.ServerNames.{File}
use Rattle.world_history.specs.State.{World}
use Rattle.world_history.specs.Sending.{Move, move}
use Rattle.history_law.specs.BookMoments.{lines_in}
use Rattle.history_law.specs.Doing.{input_in}
use Rattle.fence_law.specs.State.{State}
use Rattle.file_simulation.specs.Showing.{Pairs}
use Rattle.file_simulation.specs.Tied.{IsSingle, AreTied}
use Rattle.headline_law.specs.Parts.{CutShown, EntriesShown, lines_to, cut_at}

-- What a cut shows of the entries, with pairs that are tied behind the whole move.
pub record EntriesKept (w : World) (h : List Line) (m : Move) (count : ℕ) (t : State) (file : ℕ) (before : Pairs) : Type 0
  where
    pub shown : EntriesShown (lines_to w h m count) t file before
    pub single : IsSingle shown.pairs
    pub tied : count ≡ length (lines_in w m) → AreTied (move w m).world (lines_to w h m count) t file shown.pairs

-- So it is of each cut, if the entries were tied before the move.
abbrev pub CutsKeepEntries : Type 0
CutsKeepEntries =
    (w : World) (h : List Line) (m : Move) (count : ℕ) (f g : File) (s : State) (pairs : Pairs) →
    (k : CutShown w h m count f g s pairs) → AreTied w h s f.kept.number pairs →
    EntriesKept w h m count (cut_at k.shown.follows) f.kept.number pairs

-- A step of the server keeps the entries.
abbrev pub ServersKeepEntries : Type 0
ServersKeepEntries =
    (w : World) (h : List Line) (m : Move) (count : ℕ) (f g : File) (s : State) (pairs : Pairs) →
    (k : CutShown w h m count f g s pairs) → AreTied w h s f.kept.number pairs → (i : Input) → input_in w m.action ≡ Some i →
    EntriesKept w h m count (cut_at k.shown.follows) f.kept.number pairs
