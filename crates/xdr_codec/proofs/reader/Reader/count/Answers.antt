use Rattle.std.proofs.Common.{◌≤◌}
use Rattle.xdr_codec.specs.Items.{u32_item}
use Rattle.xdr_codec.specs.Reading.{count_in}
use Rattle.xdr_codec.proofs.ItemLaws.{count_codec, read_found, read_only}
use Rattle.xdr_codec.proofs.reader.Reader.count.Goals as goal

pub returns-clause-found : goal.returns-clause-found
returns-clause-found c =
    read_found (count_in c.args.most) u32_item (λ n. n ≤ c.args.most) c.args.self.now c.read_count.result c.read_count.new.self
    (count_codec c.args.most c.ranges.most.fits) c.holds_bytes.ensures c.read_count.ensures.exact

pub returns-clause-only : goal.returns-clause-only
returns-clause-only c =
    read_only (count_in c.args.most) u32_item (λ n. n ≤ c.args.most) c.args.self.now c.read_count.result c.read_count.new.self
    (count_codec c.args.most c.ranges.most.fits) c.read_count.ensures.exact
