-- The live grants of each file stand in the order of their numbers.
use Rattle.std.specs.Prelude.{◌<◌, ℕ, List, [], ◌∷◌}
use Rattle.server_rules.specs.Laws.{In}
use Rattle.server_rules.specs.History.{Input, step}
use Rattle.scenario_text.specs.declared.line.Line.{Line}
use Rattle.world_history.specs.ServerNames.{Server, File, Grant}
use Rattle.world_history.specs.State.{World}
use Rattle.world_history.specs.Book.{book_of, live_in}
use Rattle.history_law.specs.HistoryMoments.{IsReached}

-- each number is below those behind it
abbrev pub Rise : List Grant → Type 0
Rise [] = Unit {0}
Rise (g ∷ gs) = ((h : Grant) → In h gs → g.number < h.number) × Rise gs

-- and below the next one that the server gives
pub record IsInOrder (next : ℕ) (f : File) : Type 0 where
  pub rise : Rise f.kept.grants
  pub below : (g : Grant) → In g f.kept.grants → g.number < next

-- so it is of each file
abbrev pub AreInOrder : Server → Type 0
AreInOrder s = (f : File) → In f s.files → IsInOrder s.next_grant f

-- each step keeps it
abbrev pub EachStepOrders : Type 0
EachStepOrders = (s : Server) (chosen : List ℕ) (i : Input) → AreInOrder s → AreInOrder (step s chosen i).state

-- so it is at each moment of a history
abbrev pub GrantsAreInOrder : Type 0
GrantsAreInOrder = (w : World) → IsReached w → AreInOrder w.server

-- and behind any lines, of the live grants of each file's book
abbrev pub GrantsReadInOrder : Type 0
GrantsReadInOrder = (h : List Line) (file : ℕ) → Rise (live_in (book_of h file))
