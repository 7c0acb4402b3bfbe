use Rattle.world_parties.proofs.DriveWorlds.{drives_hear, drives_inject, drives_change}
use Rattle.world_parties.proofs.drive_laws.drives_are_the_worlds.Goals as goal

pub returns-clause-hear : goal.returns-clause-hear
returns-clause-hear c = drives_hear

pub returns-clause-inject : goal.returns-clause-inject
returns-clause-inject c = drives_inject

pub returns-clause-change : goal.returns-clause-change
returns-clause-change c = drives_change
