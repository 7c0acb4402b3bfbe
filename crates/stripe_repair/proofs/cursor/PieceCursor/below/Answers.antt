use Rattle.stripe_repair.proofs.CursorLaws.{whole_range}
use Rattle.stripe_repair.proofs.cursor.PieceCursor.below.Goals as goal

pub returns : goal.returns
returns c = rw c.new-ranges.ensures (whole_range c.args.unit c.args.high)
