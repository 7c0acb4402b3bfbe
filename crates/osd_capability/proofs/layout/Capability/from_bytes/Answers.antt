use Rattle.std.proofs.Common.{arith, ap, ◌∙◌}
use Rattle.osd_capability.specs.Layout.{reading}
use Rattle.osd_capability.proofs.LayoutLaws.{reading-found, reading-spelling}
use Rattle.osd_capability.proofs.layout.Capability.from_bytes.Goals as goal

pub returns-clause-found : goal.returns-clause-found
returns-clause-found c = reading-found c.args.bytes.now c.read.result (λ i. omega (arith, c.type_inv.bytes i)) c.read.ensures

pub returns-clause-only : goal.returns-clause-only
returns-clause-only c = λ x fits e. c.read.ensures ∙ ap reading e ∙ reading-spelling x fits
