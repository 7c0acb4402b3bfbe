use Rattle.std.specs.Prelude.{is_some}
use Rattle.world_history.specs.State.{World, at_number}
use Rattle.world_history.specs.Refusals.{unless_there, unless_down}
use Rattle.layout_world.proofs.Causes.{first_cause}
use Rattle.layout_world.proofs.refusing.of_new_drive.Goals as goal

pub returns-clause-cause : goal.returns-clause-cause
returns-clause-cause c =
    first_cause c.args.parties.now (λ (w : World). unless_there (is_some (at_number w.drives c.args.drive)))
    (λ (w : World). unless_down w) c.of_unmade_drive.result c.unless_down.result
    c.first_of.result c.first_of.ensures.value c.of_unmade_drive.ensures.cause c.unless_down.ensures.cause
