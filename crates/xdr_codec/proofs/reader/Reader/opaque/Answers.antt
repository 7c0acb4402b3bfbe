use Rattle.std.proofs.Common.{◌≤◌, length}
use Rattle.xdr_codec.specs.Items.{opaque_item}
use Rattle.xdr_codec.specs.Reading.{opaque_in}
use Rattle.xdr_codec.proofs.ItemLaws.{opaque_codec, read_found_or_memory, read_only_or_memory}
use Rattle.xdr_codec.proofs.reader.Reader.opaque.Goals as goal

pub returns-clause-found : goal.returns-clause-found
returns-clause-found c =
    read_found_or_memory (opaque_in c.args.most) opaque_item
    (λ v. length v ≤ c.args.most) c.args.self.now c.read_opaque.result c.read_opaque.new.self
    (opaque_codec c.args.most c.ranges.most.fits) c.holds_bytes.ensures c.read_opaque.ensures.exact

pub returns-clause-only : goal.returns-clause-only
returns-clause-only c =
    read_only_or_memory (opaque_in c.args.most) opaque_item
    (λ v. length v ≤ c.args.most) c.args.self.now c.read_opaque.result c.read_opaque.new.self
    (opaque_codec c.args.most c.ranges.most.fits) c.read_opaque.ensures.exact
