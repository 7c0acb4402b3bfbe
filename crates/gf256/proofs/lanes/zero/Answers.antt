use Rattle.gf256.proofs.LaneLaws.{HasLanes-constant}
use Rattle.gf256.proofs.lanes.zero.Goals as goal

pub returns : goal.returns
returns c = HasLanes-constant 0
