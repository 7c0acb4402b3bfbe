use Rattle.std.proofs.Common.{◌<◌, ◌^◌}
use Rattle.xdr_codec.specs.Items.{u64_item}
use Rattle.xdr_codec.specs.Reading.{u64_in}
use Rattle.xdr_codec.proofs.ItemLaws.{u64_codec, read_found, read_only}
use Rattle.xdr_codec.proofs.reader.Reader.u64.Goals as goal

pub returns-clause-found : goal.returns-clause-found
returns-clause-found c =
    read_found u64_in u64_item
    (λ n. n < 2 ^ 64) c.args.self.now c.read_u64.result c.read_u64.new.self u64_codec c.holds_bytes.ensures
    c.read_u64.ensures.exact

pub returns-clause-only : goal.returns-clause-only
returns-clause-only c =
    read_only u64_in u64_item
    (λ n. n < 2 ^ 64) c.args.self.now c.read_u64.result c.read_u64.new.self u64_codec c.read_u64.ensures.exact
