use Rattle.name_law.proofs.DriveNames.{verdicts_name}
use Rattle.name_law.proofs.laws.verdicts_name_tags.Goals as goal

pub returns : goal.returns
returns c = verdicts_name c.one_event_more.ensures
