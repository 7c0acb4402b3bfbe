use Rattle.std.proofs.Common.{◌<◌, ◌^◌}
use Rattle.xdr_codec.specs.Items.{u32_item}
use Rattle.xdr_codec.specs.Reading.{u32_in}
use Rattle.xdr_codec.proofs.ItemLaws.{u32_codec, read_found, read_only}
use Rattle.xdr_codec.proofs.reader.Reader.u32.Goals as goal

pub returns-clause-found : goal.returns-clause-found
returns-clause-found c =
    read_found u32_in u32_item
    (λ n. n < 2 ^ 32) c.args.self.now c.read_u32.result c.read_u32.new.self u32_codec c.holds_bytes.ensures
    c.read_u32.ensures.exact

pub returns-clause-only : goal.returns-clause-only
returns-clause-only c =
    read_only u32_in u32_item
    (λ n. n < 2 ^ 32) c.args.self.now c.read_u32.result c.read_u32.new.self u32_codec c.read_u32.ensures.exact
