use Rattle.std.proofs.Common.{length}
use Rattle.xdr_codec.proofs.ItemLaws.{fixed_found, fixed_only}
use Rattle.xdr_codec.proofs.reader.Reader.fixed.Goals as goal

pub returns-clause-found : goal.returns-clause-found
returns-clause-found c =
    fixed_found (length c.args.out.now) c.args.self.now c.args.out.now c.read_fixed.result c.read_fixed.new.self
    c.read_fixed.new.out c.holds_bytes.ensures c.read_fixed.ensures.exact

pub returns-clause-only : goal.returns-clause-only
returns-clause-only c =
    fixed_only (length c.args.out.now) c.args.self.now c.args.out.now c.read_fixed.result c.read_fixed.new.self
    c.read_fixed.new.out c.read_fixed.ensures.exact
