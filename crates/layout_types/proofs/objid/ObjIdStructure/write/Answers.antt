use Rattle.layout_types.specs.Spelling.{objid_item, ObjIdFits}
use Rattle.layout_types.specs.Reading.{objid_in}
use Rattle.layout_types.proofs.Steps.{all_read_back}
use Rattle.layout_types.proofs.Codecs.{objid_codec}
use Rattle.layout_types.proofs.objid.ObjIdStructure.write.Goals as goal

pub returns-clause-read_back : goal.returns-clause-read_back
returns-clause-read_back c =
    all_read_back objid_in objid_item ObjIdFits objid_codec c.args.self.now c.write_all.result c.write_all.ensures.spelled
    c.write_all.ensures.fits
