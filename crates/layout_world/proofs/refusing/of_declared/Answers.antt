use Rattle.world_history.specs.State.{World, at_number}
use Rattle.world_history.specs.Refusals.{if_failed, unless_down}
use Rattle.layout_world.proofs.Causes.{first_cause}
use Rattle.layout_world.proofs.refusing.of_declared.Goals as goal

pub returns-clause-cause : goal.returns-clause-cause
returns-clause-cause c =
    first_cause c.args.parties.now (λ (w : World). if_failed (at_number w.drives c.args.drive))
    (λ (w : World). unless_down w) c.of_failed.result c.unless_down.result
    c.first_of.result c.first_of.ensures.value c.of_failed.ensures.cause c.unless_down.ensures.cause
