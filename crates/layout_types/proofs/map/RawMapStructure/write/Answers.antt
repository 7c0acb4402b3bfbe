use Rattle.layout_types.specs.Spelling.{map_item, MapFits}
use Rattle.layout_types.specs.Reading.{map_in}
use Rattle.layout_types.proofs.Steps.{all_read_back}
use Rattle.layout_types.proofs.Codecs.{map_codec}
use Rattle.layout_types.proofs.map.RawMapStructure.write.Goals as goal

pub returns-clause-read_back : goal.returns-clause-read_back
returns-clause-read_back c =
    all_read_back map_in map_item MapFits map_codec c.args.self.now c.write_all.result c.write_all.ensures.spelled
    c.write_all.ensures.fits
