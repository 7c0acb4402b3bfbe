use Rattle.std.proofs.Common.{rules}
use Rattle.osd_disk.proofs.ImageLaws.{torn_filled}
use Rattle.osd_disk.proofs.images.fill_over.Goals as goal

pub returns : goal.returns
returns c = torn_filled c.args.at c.args.len c.deref.result.now _ _ (search rules) c.in_ok-write_over.ensures.ok
