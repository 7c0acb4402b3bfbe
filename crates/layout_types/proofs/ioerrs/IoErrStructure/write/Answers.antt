use Rattle.layout_types.specs.Spelling.{ioerr_item, IoErrFits}
use Rattle.layout_types.specs.Reading.{ioerr_in}
use Rattle.layout_types.proofs.Steps.{all_read_back}
use Rattle.layout_types.proofs.Codecs.{ioerr_codec}
use Rattle.layout_types.proofs.ioerrs.IoErrStructure.write.Goals as goal

pub returns-clause-read_back : goal.returns-clause-read_back
returns-clause-read_back c =
    all_read_back ioerr_in ioerr_item IoErrFits ioerr_codec c.args.self.now c.write_all.result c.write_all.ensures.spelled
    c.write_all.ensures.fits
