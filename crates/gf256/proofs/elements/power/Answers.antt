use Rattle.std.proofs.Common.{◌∙◌, arith, ◌%◌}
use Rattle.gf256.proofs.Computed.{power_at}
use Rattle.gf256.proofs.Laws.{two_to_mod}
use Rattle.gf256.proofs.elements.power.Goals as goal

pub returns : goal.returns
returns c = power_at (c.args.n % 255) (omega arith) ∙ two_to_mod c.args.n
