-- The WRITEs that clients sent stay tied to their entries behind a whole move.
use Rattle.std.specs.Prelude.{List, length}
use Rattle.scenario_text.specs.declared.line.Line.{Line}
use Rattle.world_history.specs.ServerNames.{File}
use Rattle.world_history.specs.State.{World}
use Rattle.world_history.specs.Sending.{Move, move}
use Rattle.history_law.specs.BookMoments.{lines_in}
use Rattle.fence_law.specs.State.{State}
use Rattle.file_simulation.specs.Showing.{Pairs}
use Rattle.file_simulation.specs.Tied.{AreTied, WritesAreTied}
use Rattle.headline_law.specs.Parts.{CutShown, cut_at, lines_to}
use Rattle.headline_law.specs.EntriesTied.{EntriesKept}

-- They stay tied behind a whole move, by the pairs that its cut shows.
abbrev pub WritesStayTied : Type 0
WritesStayTied =
    (w : World) (h : List Line) (m : Move) (f g : File) (s : State) (pairs : Pairs) →
    (k : CutShown w h m (length (lines_in w m)) f g s pairs) → AreTied w h s f.kept.number pairs →
    WritesAreTied w h s f pairs →
    (e : EntriesKept w h m (length (lines_in w m)) (cut_at k.shown.follows) f.kept.number pairs) →
    WritesAreTied (move w m).world (lines_to w h m (length (lines_in w m))) (cut_at k.shown.follows) g e.shown.pairs
