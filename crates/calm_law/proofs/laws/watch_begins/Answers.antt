use Rattle.world_history.specs.Reading.{grouped}
use Rattle.calm_law.proofs.laws.watch_begins.Goals as goal

pub returns : goal.returns
unfolding grouped
returns c = record {
  written = tt;
  told = c.watch_is_read.ensures.begins;
  moments = c.calm_is_followed.ensures.first;
}
