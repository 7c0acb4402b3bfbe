use Rattle.world_network.proofs.Moving.{acts_are_moves_by}
use Rattle.world_network.proofs.move_laws.acts_are_moves.Goals as goal

pub returns : goal.returns
returns c = acts_are_moves_by c.network_shows.ensures.postings
