use Rattle.std.proofs.Common.{refl}
use Rattle.calm_law.proofs.Marking.{lines_mark, taken_marks}
use Rattle.calm_law.proofs.Mending.{notes_mark}
use Rattle.calm_law.proofs.laws.marks_are_kept.Goals as goal

pub returns : goal.returns
returns c = record {
  first = record { same = λ f s n p o. refl; known = λ f s n e. absurd (cc e); real = tt };
  lines = lines_mark;
  taken = taken_marks;
  notes = notes_mark;
}
