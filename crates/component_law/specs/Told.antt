-- An answer of the server that takes a loss stands among the lines of its step.
use Rattle.std.specs.Prelude.{◌≡◌, ℕ, true, ◌++◌, List, filter, map, Some}
use Rattle.scenario_text.specs.declared.line.Line.{Line}
use Rattle.server_rules.specs.Files.{Step as ServerStep}
use Rattle.server_rules.specs.History.{Input, step}
use Rattle.world_history.specs.State.{World}
use Rattle.world_history.specs.Handed.{Post, is_addressed, server_post}
use Rattle.world_history.specs.Sending.{sent_lines}
use Rattle.world_history.specs.Calm.{is_told_taken, takes_loss}
use Rattle.history_law.specs.HistoryMoments.{IsReached}

-- what goes out of a step of the server
abbrev pub posts_of : ServerStep → List Post
posts_of did = filter is_addressed (map server_post did.sends)

-- the server of a world sends this in a step of its rules
pub record IsServers (w : World) (did : ServerStep) : Type 0 where
  pub input : Input
  pub chosen : List ℕ
  pub sends : did.sends ≡ (step w.server chosen input).sends

-- at each moment: where such a step sends an answer that takes a loss, the lines of its messages say so
abbrev pub LossesAreTold : Type 0
LossesAreTold =
    (w : World) (did : ServerStep) (told : List Line) (number : ℕ) → IsReached w → IsServers w did
    → takes_loss (Some did) ≡ true → is_told_taken (told ++ sent_lines number (posts_of did)) ≡ true
