use Rattle.std.proofs.Common.{arith}
use Rattle.layout_types.specs.Spelling.{cred_item, CredFits}
use Rattle.layout_types.specs.Reading.{cred_in}
use Rattle.layout_types.proofs.Steps.{all_found, all_only, all_alone}
use Rattle.layout_types.proofs.Codecs.{cred_codec}
use Rattle.layout_types.proofs.cred.ObjectCredStructure.read.Goals as goal

pub returns-clause-found : goal.returns-clause-found
returns-clause-found c =
    all_found cred_in cred_item CredFits cred_codec c.args.bytes.now
    (λ i. omega (arith, c.type_inv.bytes i)) c.read_all.result c.read_all.ensures

pub returns-clause-only : goal.returns-clause-only
returns-clause-only c = all_only cred_in cred_item CredFits cred_codec c.args.bytes.now c.read_all.result c.read_all.ensures

pub returns-clause-alone : goal.returns-clause-alone
returns-clause-alone c =
    all_alone cred_in cred_item CredFits cred_codec c.args.bytes.now
    (λ i. omega (arith, c.type_inv.bytes i)) c.read_all.result c.read_all.ensures
