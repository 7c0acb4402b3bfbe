use Rattle.gate_log.proofs.Turned.{turned_bit_shows}
use Rattle.gate_log.proofs.laws.turned_bits_show.Goals as goal

pub returns : goal.returns
returns c = turned_bit_shows
