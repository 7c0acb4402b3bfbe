use Rattle.headline_law.proofs.Histories.{repairs}
use Rattle.headline_law.proofs.MendedLines.{each_repair_leaves_none}
use Rattle.headline_law.proofs.MendedWhole.{repairs_are_counted, repairs_leave_none_disturbed}
use Rattle.headline_law.proofs.world_laws.repairs_leave_none.Goals as goal

pub returns : goal.returns
returns c =
    each_repair_leaves_none (repairs_are_counted (repairs c.histories_are_lawful.ensures))
    (repairs_leave_none_disturbed (repairs c.histories_are_lawful.ensures))
