-- What the simulation has to show: each move takes the machine of each file further, a file that is made begins as its
-- machine does, and each cut of a move shows the lines. `headline_law` proves it.
use Rattle.std.specs.Prelude.{◌≡◌, ℕ, ◌++◌, ◌≤◌, ◌<◌, List, length, take, Some, None}
use Rattle.server_rules.specs.Laws.{In}
use Rattle.server_rules.specs.Files.{file_at}
use Rattle.scenario_text.specs.declared.line.Line.{Line}
use Rattle.world_history.specs.ServerNames.{File, Grant}
use Rattle.world_history.specs.State.{World}
use Rattle.world_history.specs.Sending.{Move, move}
use Rattle.world_history.specs.Plans.{due}
use Rattle.world_history.specs.Calm.{moment_of}
use Rattle.history_law.specs.BookMoments.{IsMoment, plan_at, lines_in}
use Rattle.fence_law.specs.State.{State}
use Rattle.fence_law.specs.Machine.{after_all}
use Rattle.file_simulation.specs.Claim.{IsCalmHistory}
use Rattle.file_simulation.specs.Relation.{Relates}
use Rattle.file_simulation.specs.Creation.{created}
use Rattle.file_simulation.specs.Events.{joined, events_of}
use Rattle.file_simulation.specs.Cuts.{at_cut}
use Rattle.file_simulation.specs.Showing.{Pairs, ShowsLines, IsRun, GoesAsRun}
use Rattle.file_simulation.specs.Tied.{AreTied, WritesAreTied}

-- The grants of entries of earlier tags are over: the file has them no more.
abbrev pub EarlierAreOver : State → File → Type 0
EarlierAreOver s f =
    (j : ℕ) (g : Grant) → j < s.count → (s.start j).tag < s.tag → In g f.kept.grants → g.number ≡ (s.start j).grant → ⊥

-- A machine stands for a file at a moment: it is reached by a lawful and calm run, it is related to the world, it shows the
-- lines, grants of earlier tags are over, and pending calls and WRITEs are tied to its entries.
pub record StandsAt (w : World) (h : List Line) (f : File) (s : State) (pairs : Pairs) : Type 0 where
  pub there : file_at w.server.files f.kept.number ≡ Some f
  pub run : IsRun s
  pub related : Relates s w f.kept.number
  pub shown : ShowsLines h s f.kept.number pairs
  pub over : EarlierAreOver s f
  pub tied : AreTied w h s f.kept.number pairs
  pub writes : WritesAreTied w h s f pairs

-- a move that is due at a moment, with its lines
pub record IsNext (w : World) (h : List Line) (m : Move) (more : List Line) : Type 0 where
  pub moment : IsMoment w h
  pub is_due : due (plan_at moment) w ≡ Some m.action
  pub lines : more ≡ lines_in w m

-- ---- a move

-- What a move makes of a file for which machine s stood before: with some bytes of which a repair's WRITE has the words,
-- the move's events lead to a machine that stands for the file behind it.
pub record StandsBehind (w : World) (h : List Line) (f : File) (s : State) (m : Move) : Type 0 where
  pub bytes : ℕ → ℕ
  pub pairs : Pairs
  pub file : File
  pub number : file.kept.number ≡ f.kept.number
  pub stands : StandsAt (move w m).world h file (after_all s (joined (events_of s w bytes f m))) pairs

-- Each move takes the machine of a file further.
abbrev pub EachMoveGoesOn : Type 0
EachMoveGoesOn =
    (w : World) (h more : List Line) (m : Move) → IsNext w h m more → IsCalmHistory (h ++ more) →
    (f : File) (s : State) (pairs : Pairs) → StandsAt w h f s pairs → StandsBehind w (h ++ more) f s m

-- For a file that a move makes stands the machine of a file that was just made.
abbrev pub EachFileIsCreated : Type 0
EachFileIsCreated =
    (w : World) (h more : List Line) (m : Move) → IsNext w h m more → IsCalmHistory (h ++ more) →
    (f : File) → file_at w.server.files f.kept.number ≡ None →
    file_at (move w m).world.server.files f.kept.number ≡ Some f →
    (pairs : Pairs) × StandsAt (move w m).world (h ++ more) f (created (move w m).world f) pairs

-- ---- a cut inside a move

-- what a history shows that is cut behind the first lines of a move, of a file for which machine s stood before
pub record ShowsCut (w : World) (h : List Line) (f : File) (s : State) (m : Move) (count : ℕ) : Type 0 where
  pub bytes : ℕ → ℕ
  pub pairs : Pairs
  pub run : IsRun (at_cut s w bytes f m count)
  pub shown : ShowsLines h (at_cut s w bytes f m count) f.kept.number pairs

-- Each cut of a move shows each file that was there before.
abbrev pub EachCutIsShown : Type 0
EachCutIsShown =
    (w : World) (h more : List Line) (m : Move) (count : ℕ) → IsNext w h m more → count ≤ length more →
    IsCalmHistory (h ++ take count more) → (f : File) (s : State) (pairs : Pairs) → StandsAt w h f s pairs →
    ShowsCut w (h ++ take count more) f s m count

-- Each cut of a move that makes a file shows it, by a machine of its own: as long as not all CREATEs of the step are told,
-- the lines have the file's components on other drives than the world.
abbrev pub EachCreationIsShown : Type 0
EachCreationIsShown =
    (w : World) (h more : List Line) (m : Move) (count : ℕ) → IsNext w h m more → count ≤ length more →
    IsCalmHistory (h ++ take count more) → (f : File) → file_at w.server.files f.kept.number ≡ None →
    file_at (moment_of (h ++ take count more)).server.files f.kept.number ≡ Some f →
    GoesAsRun (h ++ take count more) f.kept.number
