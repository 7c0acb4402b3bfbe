use Rattle.std.proofs.Common.{arith}
use Rattle.layout_types.specs.Spelling.{ioerr_item, IoErrFits}
use Rattle.layout_types.specs.Reading.{ioerr_in}
use Rattle.layout_types.proofs.Steps.{all_found, all_only, all_alone}
use Rattle.layout_types.proofs.Codecs.{ioerr_codec}
use Rattle.layout_types.proofs.ioerrs.IoErrStructure.read.Goals as goal

pub returns-clause-found : goal.returns-clause-found
returns-clause-found c =
    all_found ioerr_in ioerr_item IoErrFits ioerr_codec c.args.bytes.now
    (λ i. omega (arith, c.type_inv.bytes i)) c.read_all.result c.read_all.ensures

pub returns-clause-only : goal.returns-clause-only
returns-clause-only c = all_only ioerr_in ioerr_item IoErrFits ioerr_codec c.args.bytes.now c.read_all.result c.read_all.ensures

pub returns-clause-alone : goal.returns-clause-alone
returns-clause-alone c =
    all_alone ioerr_in ioerr_item IoErrFits ioerr_codec c.args.bytes.now
    (λ i. omega (arith, c.type_inv.bytes i)) c.read_all.result c.read_all.ensures
