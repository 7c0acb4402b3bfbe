use Rattle.std.proofs.lemmas.List.Filters.{FiltersInPlace}
use Rattle.file_jobs.specs.Awaiting.{stays}
use Rattle.file_jobs.proofs.awaited.shift.Given as goal

abbrev pub invariant-loop-i : goal.invariant-loop-i
invariant-loop-i l = FiltersInPlace (stays l.gone) l.initial.items l.items l.left l.i
