use Rattle.gf256.proofs.LaneLaws.{stored}
use Rattle.gf256.proofs.lanes.store.Goals as goal

pub returns : goal.returns
returns c = stored c.args.at c.args.s.now c.args.v c.fits-v.0 c.requires
