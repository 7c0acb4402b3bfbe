use Rattle.calm_law.proofs.Noting.{short_alike, fails_alike, notes_alike}
use Rattle.calm_law.proofs.CalmShowing.{first_alike, steps_alike}
use Rattle.calm_law.proofs.laws.files_are_kept.Goals as goal

pub returns : goal.returns
returns c = record {
  first = first_alike;
  short = short_alike;
  fails = fails_alike;
  notes = notes_alike;
  steps = steps_alike;
}
