use Rattle.std.proofs.Common.{◌∙◌, refl}
use Rattle.osd_commands.proofs.Writing.{head-check}
use Rattle.osd_commands.proofs.seals.seal.Goals as goal

pub returns-clause-holds : goal.returns-clause-holds
returns-clause-holds c =
    λ key e. c.check_under-c.ensures ∙ rw (c.new.ensures, e, head-check c.args.c.now c.check_under-c.result) refl
