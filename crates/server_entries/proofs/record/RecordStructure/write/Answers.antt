use Rattle.server_entries.specs.Spelling.{record_item, RecordFits}
use Rattle.server_entries.specs.Reading.{record_in}
use Rattle.layout_types.proofs.Steps.{all_read_back}
use Rattle.server_entries.proofs.Codecs.{record_codec}
use Rattle.server_entries.proofs.record.RecordStructure.write.Goals as goal

pub returns-clause-read_back : goal.returns-clause-read_back
returns-clause-read_back c =
    all_read_back record_in record_item RecordFits record_codec c.args.self.now c.write_all.result c.write_all.ensures.spelled
    c.write_all.ensures.fits
