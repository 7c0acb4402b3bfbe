-- When a machine shows what the lines of a history say of a file: its log, its components and its stripes.
use Rattle.std.specs.Prelude.{◌≡◌, ◌⊎◌, ℕ, ◌<◌, ◌++◌, true, false, not, List, [], ◌∷◌, slice_get, Some}
use Rattle.std.specs.List.{fold}
use Rattle.data_map.specs.Striping.{parities}
use Rattle.server_rules.specs.Files.{file_at}
use Rattle.server_rules.specs.Laws.{In}
use Rattle.scenario_text.specs.declared.line.Line.{Line}
use Rattle.world_history.specs.ServerNames.{File, Component}
use Rattle.world_history.specs.History.{Lawful}
use Rattle.world_history.specs.ReadDrives.{drive_after}
use Rattle.world_history.specs.ReadLog.{Logged, log_of}
use Rattle.world_history.specs.Stripes.{Moment, is_lost, is_unfinished, is_calm}
use Rattle.world_history.specs.Reading.{Step, steps_of}
use Rattle.world_history.specs.Book.{server_step}
use Rattle.world_history.specs.Calm.{moment_of, sees, first_seen, through}
use Rattle.fence_law.specs.State.{State, Event}
use Rattle.fence_law.specs.Columns.{Disturbed, Gone, IsCalm}
use Rattle.fence_law.specs.Machine.{Lawful as IsLawfulRun, new_file_state}
use Rattle.fence_law.specs.Law.{Calms, reached}
use Rattle.fence_law.specs.Log.{IsLog, IsEntry, IsPassed}
use Rattle.plan_law.specs.FileLayout.{layout_of, stripe_of_column}
use Rattle.file_simulation.specs.Claim.{IsCalmHistory, byte_stored}

-- ---- entries

-- pairs of entries: one of the history's log, and one of the machine
abbrev pub Pairs : Type 0
Pairs = List (ℕ × ℕ)

-- entry i of the log is entry j of the machine
abbrev pub IsPair : Pairs → (i j : ℕ) → Type 0
IsPair pairs i j = In (i, j) pairs

-- Entry j of the machine says what entry e of the log says, which is one of the file: its client, its grant, its bytes or
-- its range, its answer, and of a write whether it is unfinished.
pub record IsSame (s : State) (file : ℕ) (j : ℕ) (e : Logged) : Type 0 where
  pub file_is : e.file ≡ file
  pub below : j < s.count
  pub client : (s.start j).client ≡ e.client
  pub grant : (s.start j).grant ≡ e.grant
  pub entry : IsEntry (s.start j) (s.told_client j) (s.answer j) e.entry
  pub unfinished : (s.start j).is_write ≡ true → is_unfinished e ≡ not (s.acknowledged j)

-- The entries of the file are paired with entries of the machine, in the same order, and the log passes over the machine's
-- others.
pub record ArePaired (s : State) (file : ℕ) (entries : List Logged) (pairs : Pairs) : Type 0 where
  pub same : (i j : ℕ) → IsPair pairs i j → (e : Logged) × (slice_get entries i ≡ Some e) × IsSame s file j e
  pub each : (i : ℕ) (e : Logged) → slice_get entries i ≡ Some e → e.file ≡ file → (j : ℕ) × IsPair pairs i j
  pub rising : (i j g k : ℕ) → IsPair pairs i j → IsPair pairs g k → i < g → j < k
  pub others : (j : ℕ) → j < s.count → ((i : ℕ) → IsPair pairs i j → ⊥) → IsPassed s j

-- ---- stripes

-- the moment has a mark of entry i in the column's stripe
abbrev pub IsMarked : Moment → File → (i x : ℕ) → Type 0
IsMarked m f i x = In (record { file = f.kept.number; stripe = stripe_of_column f.kept.map x; entry = i }) m.marks

-- Entry j, which disturbs a column of the machine, has its mark there; or the file has no parity, and nothing is left of the
-- column. Marks of a stripe without parity that is short are taken away by a repair, and the machine's disturbance stays.
abbrev pub HasMark : State → Moment → File → Pairs → (j x : ℕ) → Type 0
HasMark s m f pairs j x =
    ((i : ℕ) × IsPair pairs i j × IsMarked m f i x) ⊎ ((parities f.kept.map ≡ 0) × Gone s x)

-- ---- components

-- What is lost in the machine is lost by the lines, and what isn't lost by them has the bytes of its object. Inside a step of
-- the server the lines may have more lost than the machine, since they show the server behind the whole step.
pub record ShowsComponent (h : List Line) (s : State) (k : ℕ) (at : Component) : Type 0 where
  pub lost : s.lost k ≡ true → is_lost (moment_of h) at ≡ true
  pub cells : is_lost (moment_of h) at ≡ false → (z : ℕ) →
      s.cell k z ≡ byte_stored (drive_after h at.drive) at.object z

-- ---- all of it

-- the machine shows a file of the lines: its layout, its components and its marks
pub record ShowsFile (h : List Line) (s : State) (pairs : Pairs) (f : File) : Type 0 where
  pub layout : s.layout ≡ layout_of f.kept.map f.kept.first_tag
  pub components : (k : ℕ) (at : Component) → slice_get f.kept.components k ≡ Some at → ShowsComponent h s k at
  pub marks : (x : ℕ) (d : Disturbed s x) → HasMark s (moment_of h) f pairs d.0 x

-- the last of the moments at which it is looked whether these lines are calm: where a step begins, and behind each note
pub record IsLastMoment (h : List Line) (m : Moment) : Type 0 where
  pub earlier : List Step
  pub last : Step
  pub steps : steps_of h ≡ earlier ++ last ∷ []
  pub moment : m ≡ (through (fold sees first_seen earlier) last (server_step (fold sees first_seen earlier).server last)).moment

-- The machine shows the lines of a history: the file's log is that of its entries, the file is as the lines have it, if they
-- have it, and the machine is calm if their last moment is.
pub record ShowsLines (h : List Line) (s : State) (file : ℕ) (pairs : Pairs) : Type 0 where
  pub paired : ArePaired s file (moment_of h).log.entries pairs
  pub log : IsLog s s.count (log_of h file)
  pub shown : (f : File) → file_at (moment_of h).server.files file ≡ Some f → ShowsFile h s pairs f
  pub calm : (m : Moment) → IsLastMoment h m → is_calm m ≡ true → IsCalm s

-- ---- runs

-- A state is the end of a lawful and calm run of a machine with its layout.
pub record IsRun (s : State) : Type 0 where
  pub events : List Event
  pub lawful : IsLawfulRun (new_file_state s.layout) events
  pub calm : Calms (new_file_state s.layout) events
  pub state : s ≡ reached s.layout events

-- a file of a history goes as such a run, whose end shows the lines
pub record GoesAsRun (h : List Line) (file : ℕ) : Type 0 where
  pub state : State
  pub pairs : Pairs
  pub run : IsRun state
  pub shown : ShowsLines h state file pairs

-- Each file of a calm and unguessed history goes as a lawful and calm run that shows its lines: this is what the simulation
-- gives.
abbrev pub FilesGoAsRuns : Type 0
FilesGoAsRuns =
    (h : List Line) → Lawful h → IsCalmHistory h → (file : ℕ) (f : File) →
    file_at (moment_of h).server.files file ≡ Some f → GoesAsRun h file
