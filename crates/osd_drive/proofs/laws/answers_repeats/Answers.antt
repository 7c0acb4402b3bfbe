use Rattle.osd_drive.proofs.Repeated.{answered_alike}
use Rattle.osd_drive.proofs.laws.answers_repeats.Goals as goal

pub returns : goal.returns
returns c = answered_alike
