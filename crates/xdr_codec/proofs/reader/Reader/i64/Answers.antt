use Rattle.std.proofs.Common.{FitsSigned}
use Rattle.std.specs.Int.{w64}
use Rattle.xdr_codec.specs.Items.{i64_item}
use Rattle.xdr_codec.specs.Reading.{i64_in}
use Rattle.xdr_codec.proofs.ItemLaws.{i64_codec, read_found, read_only}
use Rattle.xdr_codec.proofs.reader.Reader.i64.Goals as goal

pub returns-clause-found : goal.returns-clause-found
returns-clause-found c =
    read_found i64_in i64_item
    (FitsSigned w64) c.args.self.now c.read_i64.result c.read_i64.new.self i64_codec c.holds_bytes.ensures
    c.read_i64.ensures.exact

pub returns-clause-only : goal.returns-clause-only
returns-clause-only c =
    read_only i64_in i64_item
    (FitsSigned w64) c.args.self.now c.read_i64.result c.read_i64.new.self i64_codec c.read_i64.ensures.exact
