use Rattle.layout_types.specs.Spelling.{update_item, UpdateFits}
use Rattle.layout_types.specs.Reading.{update_in}
use Rattle.layout_types.proofs.Steps.{all_read_back}
use Rattle.layout_types.proofs.Codecs.{update_codec}
use Rattle.layout_types.proofs.update.LayoutUpdateStructure.write.Goals as goal

pub returns-clause-read_back : goal.returns-clause-read_back
returns-clause-read_back c =
    all_read_back update_in update_item UpdateFits update_codec c.args.self.now c.write_all.result c.write_all.ensures.spelled
    c.write_all.ensures.fits
