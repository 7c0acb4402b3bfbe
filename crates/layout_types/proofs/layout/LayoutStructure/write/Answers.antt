use Rattle.layout_types.specs.Spelling.{layout_item, LayoutFits}
use Rattle.layout_types.specs.Reading.{layout_in}
use Rattle.layout_types.proofs.Steps.{all_read_back}
use Rattle.layout_types.proofs.Codecs.{layout_codec}
use Rattle.layout_types.proofs.layout.LayoutStructure.write.Goals as goal

pub returns-clause-read_back : goal.returns-clause-read_back
returns-clause-read_back c =
    all_read_back layout_in layout_item LayoutFits layout_codec c.args.self.now c.write_all.result c.write_all.ensures.spelled
    c.write_all.ensures.fits
