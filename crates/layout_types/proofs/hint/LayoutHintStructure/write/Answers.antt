use Rattle.layout_types.specs.Spelling.{hint_item, HintFits}
use Rattle.layout_types.specs.Reading.{hint_in}
use Rattle.layout_types.proofs.Steps.{all_read_back}
use Rattle.layout_types.proofs.Codecs.{hint_codec}
use Rattle.layout_types.proofs.hint.LayoutHintStructure.write.Goals as goal

pub returns-clause-read_back : goal.returns-clause-read_back
returns-clause-read_back c =
    all_read_back hint_in hint_item HintFits hint_codec c.args.self.now c.write_all.result c.write_all.ensures.spelled
    c.write_all.ensures.fits
