use Rattle.layout_types.specs.Spelling.{ioerrs_item, IoErrsFits}
use Rattle.layout_types.specs.Reading.{ioerrs_in}
use Rattle.layout_types.proofs.Steps.{all_read_back}
use Rattle.layout_types.proofs.Codecs.{ioerrs_codec}
use Rattle.layout_types.proofs.ioerrs.IoErrsStructure.write.Goals as goal

pub returns-clause-read_back : goal.returns-clause-read_back
returns-clause-read_back c =
    all_read_back ioerrs_in ioerrs_item IoErrsFits ioerrs_codec c.args.self.now c.write_all.result c.write_all.ensures.spelled
    c.write_all.ensures.fits
