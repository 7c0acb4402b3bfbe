use Rattle.std.specs.Prelude.{⊤}
use Rattle.xdr_codec.specs.Items.{bool_item}
use Rattle.xdr_codec.specs.Reading.{bool_in}
use Rattle.xdr_codec.proofs.ItemLaws.{bool_codec, read_found, read_only}
use Rattle.xdr_codec.proofs.reader.Reader.bool.Goals as goal

pub returns-clause-found : goal.returns-clause-found
returns-clause-found c =
    read_found bool_in bool_item
    (λ b. ⊤) c.args.self.now c.read_bool.result c.read_bool.new.self bool_codec c.holds_bytes.ensures
    c.read_bool.ensures.exact

pub returns-clause-only : goal.returns-clause-only
returns-clause-only c =
    read_only bool_in bool_item
    (λ b. ⊤) c.args.self.now c.read_bool.result c.read_bool.new.self bool_codec c.read_bool.ensures.exact
