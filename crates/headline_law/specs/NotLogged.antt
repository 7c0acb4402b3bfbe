-- What is logged of a file that there isn't.
use Rattle.std.specs.Prelude.{◌≡◌, ◌++◌, ℕ, List, [], Some, None}
use Rattle.scenario_text.specs.declared.line.Line.{Line}
use Rattle.server_rules.specs.Files.{file_at}
use Rattle.world_history.specs.State.{World}
use Rattle.world_history.specs.Plans.{due}
use Rattle.world_history.specs.ReadLog.{log_of}
use Rattle.world_history.specs.Sending.{Move}
use Rattle.history_law.specs.BookMoments.{IsMoment, plan_at, lines_in}
use Rattle.file_simulation.specs.Claim.{IsOfScenario}

-- A file that there isn't before a move has no entry in the log behind it, also if the move makes it.
abbrev pub NoneIsLoggedBehind : Type 0
NoneIsLoggedBehind =
    (w : World) (h : List Line) → (k : IsMoment w h) → (m : Move) → due (plan_at k) w ≡ Some m.action →
    IsOfScenario (h ++ lines_in w m) → (file : ℕ) → file_at w.server.files file ≡ None →
    log_of (h ++ lines_in w m) file ≡ []
