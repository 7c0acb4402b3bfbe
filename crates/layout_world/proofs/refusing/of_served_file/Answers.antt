use Rattle.world_history.specs.State.{World}
use Rattle.world_history.specs.Refusals.{of_file, unless_down}
use Rattle.layout_world.proofs.Causes.{first_cause}
use Rattle.layout_world.proofs.refusing.of_served_file.Goals as goal

pub returns-clause-cause : goal.returns-clause-cause
returns-clause-cause c =
    first_cause c.args.parties.now (λ (w : World). of_file w c.args.file)
    (λ (w : World). unless_down w) c.of_file.result c.unless_down.result
    c.first_of.result c.first_of.ensures.value c.of_file.ensures.cause c.unless_down.ensures.cause
