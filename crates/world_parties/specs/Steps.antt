-- What the code makes of a step of the client's core.
use Rattle.std.specs.Prelude.{ℕ, List, ◌++◌, ◌||◌, ◌≡◌}
use Rattle.std.specs.List.{list_any}
use Rattle.scenario_text.specs.declared.line.Line.{Line}
use Rattle.world_history.specs.State.{ClientAt}
use Rattle.world_network.specs.declared.acts.Act.{Act}
use Rattle.world_parties.specs.declared.client.Step.{Step}
use Rattle.world_parties.specs.Posting.{is_write, postings}
use Rattle.world_parties.specs.Client.{bytes_in, ended}

-- behind the lines that were told, a step tells how its call ended, and sends its messages
pub record Steps (client : ℕ) (told : List Line) (s : Step) (old new : ClientAt) (act : Act) : Type 0 where
  pub state : new ≡ record old { wrote = s.wrote || list_any is_write s.done.sends }
  pub lines : act.told ≡ told ++ ended client s.call s.done.outcome
  pub posts : act.posts ≡ postings client s.wrote (bytes_in s.call) s.done.sends
