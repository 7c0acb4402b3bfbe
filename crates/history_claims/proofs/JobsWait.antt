-- By the book each job awaits some command.
use Rattle.std.specs.List.{fold}
use Rattle.std.proofs.Common.{ℕ, List, [], ◌∷◌, Option, Some, None}
use Rattle.server_rules.specs.History.{Input}
use Rattle.server_rules.specs.Laws.{AreSafe, EachStepIsSafe}
use Rattle.world_history.specs.ServerNames.{Server}
use Rattle.world_history.specs.Reading.{Step, steps_of}
use Rattle.world_history.specs.Book.{ServerSeen, input_at, placed_in, step_by, server_behind, sees_server, server_at_first, server_after}
use Rattle.history_law.proofs.Files.{in_at, safe_in}
use Rattle.history_claims.specs.Waiting.{EachJobWaits}

module _ (each : EachStepIsSafe) where
  safe_behind : (s : Server) (placed : List ℕ) (o : Option Input) → AreSafe s.files
      → AreSafe (server_behind s (step_by s placed o)).files
  safe_behind s placed None safe = safe
  safe_behind s placed (Some i) safe = each s placed i safe

  safe_seen : (s : ServerSeen) (steps : List Step) → AreSafe s.server.files → AreSafe (fold sees_server s steps).server.files
  safe_seen s [] safe = safe
  safe_seen s (t ∷ steps) safe =
      safe_seen (sees_server s t) steps (safe_behind s.server (placed_in t.rest) (input_at s t.head) safe)

  pub each_job_waits : EachJobWaits
  each_job_waits h file f found =
      (safe_in (server_after h).files (safe_seen server_at_first (steps_of h) tt) f
      (in_at (server_after h).files file f found)).rests
