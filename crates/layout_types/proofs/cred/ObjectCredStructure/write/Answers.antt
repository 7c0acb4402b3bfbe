use Rattle.layout_types.specs.Spelling.{cred_item, CredFits}
use Rattle.layout_types.specs.Reading.{cred_in}
use Rattle.layout_types.proofs.Steps.{all_read_back}
use Rattle.layout_types.proofs.Codecs.{cred_codec}
use Rattle.layout_types.proofs.cred.ObjectCredStructure.write.Goals as goal

pub returns-clause-read_back : goal.returns-clause-read_back
returns-clause-read_back c =
    all_read_back cred_in cred_item CredFits cred_codec c.args.self.now c.write_all.result c.write_all.ensures.spelled
    c.write_all.ensures.fits
