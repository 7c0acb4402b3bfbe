-- What the induction over the moves of a calm history stands on, part by part.
use Rattle.std.specs.Prelude.{◌≡◌, ◌⊎◌, ◌+◌, ◌++◌, ◌≤◌, ◌<◌, ℕ, List, [], ◌∷◌, length, slice_get, take, true, Some, None}
use Rattle.scenario_text.specs.declared.line.Line.{Line}
use Rattle.server_rules.specs.History.{Input, step}
use Rattle.server_rules.specs.Laws.{In}
use Rattle.server_rules.specs.Files.{file_at}
use Rattle.world_history.specs.ServerNames.{Component, File, Job, Note, Rebuilt, Repairing, Server}
use Rattle.world_history.specs.State.{World}
use Rattle.world_history.specs.Sending.{Move, move}
use Rattle.world_history.specs.Plans.{due}
use Rattle.world_history.specs.ReadLog.{log_of}
use Rattle.world_history.specs.Stripes.{Moment, is_calm}
use Rattle.world_history.specs.Calm.{moment_of}
use Rattle.history_law.specs.BookMoments.{IsMoment, plan_at, lines_in}
use Rattle.history_law.specs.Doing.{input_in, did_in}
use Rattle.exchange_law.specs.Text.{AreOfText}
use Rattle.component_law.specs.Distinct.{AreDistinct}
use Rattle.fence_law.specs.State.{State}
use Rattle.fence_law.specs.Columns.{IsCalm}
use Rattle.fence_law.specs.Log.{IsLog}
use Rattle.fence_law.specs.Machine.{Lawful as IsLawfulRun}
use Rattle.file_simulation.specs.ClientEvents.{Going, going_in}
use Rattle.file_simulation.specs.Components.{AreComponents}
use Rattle.file_simulation.specs.Claim.{IsOfScenario}
use Rattle.file_simulation.specs.Cuts.{at_cut, lines_before, rebuilt_ahead, notes_behind}
use Rattle.file_simulation.specs.Events.{joined, events_of}
use Rattle.file_simulation.specs.Jobs.{AreOwned, AreQuiet, OweWords, RowsIn, DoneIn, TargetIn}
use Rattle.file_simulation.specs.Messages.{AreSent}
use Rattle.file_simulation.specs.Phases.{IsKept, AreBelowHigh}
use Rattle.file_simulation.specs.Showing.{Pairs, IsPair, ArePaired, IsRun, ShowsComponent, ShowsLines, IsLastMoment}
use Rattle.file_simulation.specs.Simulation.{EarlierAreOver}
use Rattle.file_simulation.specs.Tied.{AreTied, WritesAreTied}
use Rattle.relation_law.specs.Steps.{HasRoom, Follows, FollowsWhole, behind, owed, whole_behind, AreRequests, AreCalls, AreReads}

-- ---- events that can happen

-- A move of a client: the events of each of its first lines can happen.
abbrev pub ClientsAreLawful : Type 0
ClientsAreLawful =
    (w : World) (h : List Line) (m : Move) (count : ℕ) (f g : File) (s : State) → (k : Follows w h m count f g s) → (j : Going) →
    going_in w m.action ≡ Some j → IsLawfulRun s (joined (take count (events_of s w (owed k.related) f m)))

-- A move in which no client goes on and nothing comes to the server: that of a drive, or of nobody.
abbrev pub DrivesAreLawful : Type 0
DrivesAreLawful =
    (w : World) (h : List Line) (m : Move) (count : ℕ) (f g : File) (s : State) → (k : Follows w h m count f g s) →
    going_in w m.action ≡ None → input_in w m.action ≡ None →
    IsLawfulRun s (joined (take count (events_of s w (owed k.related) f m)))

-- A move whose first lines are followed, of a file of which machine s shows the lines before it, with pending calls and
-- WRITEs that are tied to its entries.
pub record FollowsShown (w : World) (h : List Line) (m : Move) (count : ℕ) (f g : File) (s : State) (pairs : Pairs) : Type 0
  where
    pub follows : Follows w h m count f g s
    pub low : count ≤ length (lines_in w m)
    pub shown : ShowsLines h s f.kept.number pairs
    pub over : EarlierAreOver s f
    pub tied : AreTied w h s f.kept.number pairs
    pub writes : WritesAreTied w h s f pairs

-- the events of its first n lines can happen
abbrev pub AreLawful : {w : World} → {h : List Line} → {m : Move} → {count : ℕ} → {f g : File} → {s : State} →
    Follows w h m count f g s → (n : ℕ) → Type 0
AreLawful {w} {h} {m} {count} {f} {g} {s} k n = IsLawfulRun s (joined (take n (events_of s w (owed k.related) f m)))

-- A step of the server keeps a run of the machine calm, up to each of these lines whose events can happen.
abbrev pub ServersKeepRuns : Type 0
ServersKeepRuns =
    (w : World) (h : List Line) (m : Move) (count : ℕ) (f g : File) (s : State) (pairs : Pairs) →
    (k : FollowsShown w h m count f g s pairs) → (i : Input) → input_in w m.action ≡ Some i → (n : ℕ) → n ≤ count →
    AreLawful k.follows n → IsRun (behind k.follows.related m n)

-- So does a move of a drive.
abbrev pub DrivesKeepRuns : Type 0
DrivesKeepRuns =
    (w : World) (h : List Line) (m : Move) (count : ℕ) (f g : File) (s : State) (pairs : Pairs) →
    (k : FollowsShown w h m count f g s pairs) → going_in w m.action ≡ None → input_in w m.action ≡ None →
    AreLawful k.follows count → IsRun (behind k.follows.related m count)

-- A step of the server: the events of its first lines can happen, if it keeps runs calm.
abbrev pub ServersAreLawful : Type 0
ServersAreLawful =
    ServersKeepRuns → (w : World) (h : List Line) (m : Move) (count : ℕ) (f g : File) (s : State) (pairs : Pairs) →
    (k : FollowsShown w h m count f g s pairs) → (i : Input) → input_in w m.action ≡ Some i → AreLawful k.follows count

-- the rebuild that a step is still to tell of behind its first lines
abbrev pub ahead : {w : World} → {h : List Line} → {m : Move} → {count : ℕ} → {f g : File} → {s : State} →
    Follows w h m count f g s → Type 0
ahead {w} {h} {m} {count} {f} {g} {s} k =
    IsLawfulRun (behind k.related m count)
    (rebuilt_ahead (behind k.related m count) w f (notes_behind count m.action (did_in w m)))

-- It can happen there.
abbrev pub AheadIsLawful : Type 0
AheadIsLawful =
    ServersKeepRuns → (w : World) (h : List Line) (m : Move) (count : ℕ) (f g : File) (s : State) (pairs : Pairs) →
    (k : FollowsShown w h m count f g s pairs) → AreLawful k.follows count → ahead k.follows

-- the machine at a cut
abbrev pub cut_at : {w : World} → {h : List Line} → {m : Move} → {count : ℕ} → {f g : File} → {s : State} →
    Follows w h m count f g s → State
cut_at {w} {h} {m} {count} {f} {g} {s} k = at_cut s w (owed k.related) f m count

-- a cut of a move whose events can happen, with the run of the machine there
pub record CutShown (w : World) (h : List Line) (m : Move) (count : ℕ) (f g : File) (s : State) (pairs : Pairs) : Type 0
  where
    pub shown : FollowsShown w h m count f g s pairs
    pub lawful : AreLawful shown.follows count
    pub run : IsRun (behind shown.follows.related m count)
    pub ahead_lawful : ahead shown.follows

-- the lines up to a cut
abbrev pub lines_to : (w : World) → (h : List Line) → Move → (count : ℕ) → List Line
lines_to w h m count = h ++ take count (lines_in w m)

-- ---- what the lines show at a cut

-- The rebuild that is still to be told keeps the run calm.
abbrev pub CutsAreRuns : Type 0
CutsAreRuns =
    (w : World) (h : List Line) (m : Move) (count : ℕ) (f g : File) (s : State) (pairs : Pairs) →
    (k : CutShown w h m count f g s pairs) → IsRun (cut_at k.shown.follows)

-- these pairs have all of those
abbrev pub HasPairs : (old new : Pairs) → Type 0
HasPairs old new = (i j : ℕ) → IsPair old i j → IsPair new i j

-- The entries of the log are those of the machine.
pub record EntriesShown (h : List Line) (s : State) (file : ℕ) (before : Pairs) : Type 0 where
  pub pairs : Pairs
  pub more : HasPairs before pairs
  pub paired : ArePaired s file (moment_of h).log.entries pairs
  pub log : IsLog s s.count (log_of h file)

-- The machine is calm if the last moment is.
abbrev pub CutsShowCalm : Type 0
CutsShowCalm =
    (w : World) (h : List Line) (m : Move) (count : ℕ) (f g : File) (s : State) (pairs : Pairs) →
    (k : CutShown w h m count f g s pairs) → (last : Moment) → IsLastMoment (lines_to w h m count) last →
    is_calm last ≡ true → IsCalm (cut_at k.shown.follows)

-- ---- behind a whole move

-- the parts of the relation that are known behind a whole move
pub record PartsBehind {w : World} {h : List Line} {m : Move} {f g : File} {s : State} (k : FollowsWhole w h m f g s) : Type 0
  where
    pub run : IsRun (whole_behind k)
    pub components : AreComponents (whole_behind k) (move w m).world g
    pub kept : IsKept (whole_behind k) (move w m).world.server g
    pub high : AreBelowHigh (whole_behind k) g
    pub requests : AreRequests (whole_behind k) (move w m).world g
    pub calls : AreCalls (whole_behind k) (move w m).world g
    pub sent : AreSent (whole_behind k) (move w m).world g
    pub owned : AreOwned (whole_behind k) (move w m).world g
    pub quiet : AreQuiet (whole_behind k) (move w m).world g

-- so P holds where these do
abbrev pub FollowsIn : (State → World → File → Type 0) → Type 0
FollowsIn P =
    (w : World) (h : List Line) (m : Move) (f g : File) (s : State) → (k : FollowsWhole w h m f g s) → PartsBehind k →
    P (whole_behind k) (move w m).world g

-- what a repair owes
abbrev pub OweFollows : Type 0
OweFollows = FollowsIn OweWords

-- the rows that the job read
abbrev pub RowsAre : State → World → File → Type 0
RowsAre s w f = (j : Job) → f.job ≡ Some j → RowsIn s w f j j.work

abbrev pub RowsFollow : Type 0
RowsFollow = FollowsIn RowsAre

-- what a repair has done
abbrev pub DoneAre : State → World → File → Type 0
DoneAre s w f = (j : Job) → f.job ≡ Some j → f.kept.phase ≡ Repairing → DoneIn s f j.work

abbrev pub DoneFollows : Type 0
DoneFollows = FollowsIn DoneAre

-- the target of a rebuild
abbrev pub TargetsAre : State → World → File → Type 0
TargetsAre s w f = (j : Job) → f.job ≡ Some j → TargetIn s w f j.work

abbrev pub TargetsFollow : Type 0
TargetsFollow = FollowsIn TargetsAre

-- what clients' reads were shown
abbrev pub ReadsFollow : Type 0
ReadsFollow = FollowsIn AreReads

-- ---- a file at a cut

-- A file has the map and the first tag of another.
pub record SameShown (f x : File) : Type 0 where
  pub map : x.kept.map ≡ f.kept.map
  pub first_tag : x.kept.first_tag ≡ f.kept.first_tag

-- The file that the lines show at a cut inside a step of the server is the one behind the step, but for its job.
abbrev pub ServersShowFiles : Type 0
ServersShowFiles =
    (w : World) (h : List Line) (m : Move) (count : ℕ) (f g : File) (s : State) → Follows w h m count f g s → (i : Input) →
    input_in w m.action ≡ Some i → (q : ℕ) → count ≡ lines_before m.action + q → (x : File) →
    file_at (moment_of (lines_to w h m count)).server.files f.kept.number ≡ Some x → x.kept ≡ g.kept

-- Behind the first lines of any other move, or before the step begins, it is the one before the move.
abbrev pub OthersShowFiles : Type 0
OthersShowFiles =
    (w : World) (h : List Line) (m : Move) (count : ℕ) (f g : File) (s : State) → Follows w h m count f g s →
    (input_in w m.action ≡ None) ⊎ (count < lines_before m.action) → (x : File) →
    file_at (moment_of (lines_to w h m count)).server.files f.kept.number ≡ Some x → x ≡ f

-- the machine at a cut shows these components
abbrev pub ShowsAll : {w : World} → {h : List Line} → {m : Move} → {count : ℕ} → {f g : File} → {s : State} → {pairs : Pairs} →
    CutShown w h m count f g s pairs → List Component → Type 0
ShowsAll {w} {h} {m} {count} {f} {g} {s} {pairs} k cs =
    (i : ℕ) (at : Component) → slice_get cs i ≡ Some at →
    ShowsComponent (lines_to w h m count) (cut_at k.shown.follows) i at

-- Inside a step of the server it shows those behind the step.
abbrev pub ServersShowComponents : Type 0
ServersShowComponents =
    (w : World) (h : List Line) (m : Move) (count : ℕ) (f g : File) (s : State) (pairs : Pairs) →
    (k : CutShown w h m count f g s pairs) → (i : Input) → input_in w m.action ≡ Some i → (q : ℕ) →
    count ≡ lines_before m.action + q → ShowsAll k g.kept.components

-- Elsewhere it shows those before the move.
abbrev pub OthersShowComponents : Type 0
OthersShowComponents =
    (w : World) (h : List Line) (m : Move) (count : ℕ) (f g : File) (s : State) (pairs : Pairs) →
    (k : CutShown w h m count f g s pairs) → (input_in w m.action ≡ None) ⊎ (count < lines_before m.action) →
    ShowsAll k f.kept.components

-- Where the first lines of a move are those of a scenario's text, so are all of them, and there is room for its numbers.
abbrev pub CutsHaveRoom : Type 0
CutsHaveRoom =
    (w : World) (h : List Line) (m : Move) (count : ℕ) → (k : IsMoment w h) → due (plan_at k) w ≡ Some m.action → 0 < count →
    IsOfScenario (lines_to w h m count) → AreOfText (h ++ lines_in w m) × HasRoom w m

-- A note that a component was rebuilt is the first on its file that a step of the server tells.
abbrev pub RebuiltIsFirst : Type 0
RebuiltIsFirst =
    (s : Server) (chosen : List ℕ) (i : Input) → AreDistinct s.files → (front back : List Note) (x y : Note) (k d : ℕ) →
    (step s chosen i).notes ≡ front ++ (x ∷ back) → x.kind ≡ Rebuilt k d → In y front → y.file ≡ x.file → ⊥

-- ---- lines and events

-- Behind the lines of a whole move all its events have happened.
abbrev pub EventsHaveLines : Type 0
EventsHaveLines =
    (w : World) (h : List Line) (m : Move) (f g : File) (s : State) (e : ℕ → ℕ) →
    Follows w h m (length (lines_in w m)) f g s → joined (take (length (lines_in w m)) (events_of s w e f m))
    ≡ joined (events_of s w e f m)

-- Behind its lines no note of a step is still to be told.
abbrev pub NotesAreTold : Type 0
NotesAreTold =
    (w : World) (h : List Line) (m : Move) (f g : File) (s : State) → Follows w h m (length (lines_in w m)) f g s →
    notes_behind (length (lines_in w m)) m.action (did_in w m) ≡ []
