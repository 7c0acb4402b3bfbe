-- The machine of a file at a cut between two lines of a move, and the pairs of entries behind a line.
use Rattle.std.specs.Prelude.{ℕ, ◌-◌, ◌==◌, nat_lt, List, [], ◌∷◌, take, drop, Option, Some, None, if◌then◌else◌}
use Rattle.world_history.specs.ServerNames as server_rules
use Rattle.world_history.specs.ServerNames.{File, Note, NoteKind}
use Rattle.world_history.specs.State.{World}
use Rattle.world_history.specs.Sending.{Move}
use Rattle.world_history.specs.Moves as moves
use Rattle.server_rules.specs.Files.{Step as ServerStep}
use Rattle.history_law.specs.Read.{leads}
use Rattle.history_law.specs.Doing.{did_in}
use Rattle.fence_law.specs.State as machine
use Rattle.fence_law.specs.Machine.{after_all}
use Rattle.file_simulation.specs.ServerEvents.{rebuilt}
use Rattle.file_simulation.specs.Events.{joined, events_of}

-- ---- a rebuild that is told later

-- a note that says that a component stands again
abbrev pub rebuilt_by : machine.State → World → File → NoteKind → List machine.Event
rebuilt_by s w f (server_rules.Rebuilt k d) = rebuilt s w f k d
rebuilt_by s w f kind = []

-- the first note on the file among those that weren't told yet
unfoldable pub rebuilt_ahead : machine.State → World → File → List Note → List machine.Event
rebuilt_ahead s w f [] = []
rebuilt_ahead s w f (n ∷ ns) = if n.file == f.kept.number then rebuilt_by s w f n.kind else rebuilt_ahead s w f ns

-- how many lines of a move stand before its notes
abbrev pub lines_before : moves.Action → ℕ
lines_before (moves.Opens e) = if leads e then 2 else 1
lines_before action = 1

-- the notes that a move tells behind its first `count` lines, if its step has begun there
abbrev pub notes_behind : (count : ℕ) → moves.Action → Option ServerStep → List Note
notes_behind count action None = []
notes_behind count action (Some did) =
    if nat_lt count (lines_before action) then [] else drop (count - lines_before action) did.notes

-- ---- a cut

-- the machine behind the first `count` lines of a move
abbrev pub behind_lines : machine.State → World → (e : ℕ → ℕ) → File → Move → (count : ℕ) → machine.State
behind_lines s w e f m count = after_all s (joined (take count (events_of s w e f m)))

-- The machine that shows a history which is cut there. A rebuild that the step is still to tell of is done already: the server
-- that is read off such a history is the one behind the whole step.
abbrev pub at_cut : machine.State → World → (e : ℕ → ℕ) → File → Move → (count : ℕ) → machine.State
at_cut s w e f m count =
    after_all (behind_lines s w e f m count)
    (rebuilt_ahead (behind_lines s w e f m count) w f (notes_behind count m.action (did_in w m)))
