use Rattle.std.proofs.Common.{arith}
use Rattle.layout_ops.proofs.Whole.{all_found, all_only, all_alone}
use Rattle.layout_ops.proofs.Writable.{all_writable}
use Rattle.layout_ops.proofs.envelope.read_envelope.Goals as goal

pub returns-clause-found : goal.returns-clause-found
returns-clause-found c =
    all_found c.args.bytes.now (λ i. omega (arith, c.type_inv.bytes i)) c.read_whole.result c.read_whole.ensures

pub returns-clause-only : goal.returns-clause-only
returns-clause-only c = all_only c.args.bytes.now c.read_whole.result c.read_whole.ensures

pub returns-clause-alone : goal.returns-clause-alone
returns-clause-alone c =
    all_alone c.args.bytes.now (λ i. omega (arith, c.type_inv.bytes i)) c.read_whole.result c.read_whole.ensures

pub returns-clause-writable : goal.returns-clause-writable
returns-clause-writable c =
    all_writable c.args.bytes.now c.read_whole.result
    (all_found c.args.bytes.now (λ i. omega (arith, c.type_inv.bytes i)) c.read_whole.result c.read_whole.ensures)
