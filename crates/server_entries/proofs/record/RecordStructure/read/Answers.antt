use Rattle.std.proofs.Common.{arith}
use Rattle.server_entries.specs.Spelling.{record_item, RecordFits}
use Rattle.server_entries.specs.Reading.{record_in}
use Rattle.layout_types.proofs.Steps.{all_found, all_only, all_alone}
use Rattle.server_entries.proofs.Codecs.{record_codec}
use Rattle.server_entries.proofs.record.RecordStructure.read.Goals as goal

pub returns-clause-found : goal.returns-clause-found
returns-clause-found c =
    all_found record_in record_item RecordFits record_codec c.args.bytes.now
    (λ i. omega (arith, c.type_inv.bytes i)) c.read_all.result c.read_all.ensures

pub returns-clause-only : goal.returns-clause-only
returns-clause-only c =
    all_only record_in record_item RecordFits record_codec c.args.bytes.now c.read_all.result c.read_all.ensures

pub returns-clause-alone : goal.returns-clause-alone
returns-clause-alone c =
    all_alone record_in record_item RecordFits record_codec c.args.bytes.now
    (λ i. omega (arith, c.type_inv.bytes i)) c.read_all.result c.read_all.ensures
