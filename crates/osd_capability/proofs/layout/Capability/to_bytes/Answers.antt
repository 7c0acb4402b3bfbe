use Rattle.std.proofs.Common.{ap, ◌∙◌}
use Rattle.osd_capability.specs.Layout.{reading}
use Rattle.osd_capability.proofs.LayoutLaws.{reading-spelling}
use Rattle.osd_capability.proofs.layout.Capability.to_bytes.Goals as goal

pub returns-clause-read_back : goal.returns-clause-read_back
returns-clause-read_back c =
    λ known. ap reading c.write.ensures.spelled ∙ reading-spelling c.args.self.now (c.write.ensures.fits known)
