-- The counts of the recalls that the server sends: no two have the same.
use Rattle.std.specs.Prelude.{◌≡◌, ℕ, ◌+◌, List, length}
use Rattle.server_rules.specs.Answers.{recalls_from}
use Rattle.server_rules.specs.Files.{Step}
use Rattle.server_rules.specs.History.{Input, step}
use Rattle.server_rules.specs.Laws.{In}
use Rattle.history_law.specs.Names.{Server, Grant, Recall, Recalls}

-- A step counts its recalls from the server's next count on, one for each of some grants, and that rises by as many.
pub record CountsRecalls (s : Server) (t : Step) : Type 0 where
  pub recalled : List Grant
  pub rises : t.state.next_recall ≡ s.next_recall + length recalled
  pub sends : (r : Recall) → In (Recalls r) t.sends → In (Recalls r) (recalls_from s.next_recall recalled)

-- so does each step
abbrev pub EachStepCounts : Type 0
EachStepCounts = (s : Server) (chosen : List ℕ) (i : Input) → CountsRecalls s (step s chosen i)
