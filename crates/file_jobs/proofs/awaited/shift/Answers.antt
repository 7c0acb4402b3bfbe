use Rattle.std.proofs.Common.{arith, ap, sym, ◌∙◌}
use Rattle.file_jobs.specs.Awaiting.{stays}
use Rattle.std.proofs.lemmas.List.Filters.{FiltersInPlace-more_no, FiltersInPlace-more_swap}
use Rattle.file_jobs.proofs.awaited.shift.Goals as goal
use Rattle.file_jobs.proofs.awaited.shift.Goals.{then-stays, else-stays}

pub loop-i-preserved : goal.loop-i-preserved
loop-i-preserved c = elim c.if-stays.branch [
  | then-stays w ↦ rw (w.items-is, w.left-is)
      (FiltersInPlace-more_swap c.loop-i.invariant
      (omega (arith, c.loop-i-test.true, c.loop-i.auto.i-end, c.loop-i.invariant.long))
      (ap (stays c.args.gone) c.index-items-i.is ∙ sym c.stays.ensures
      ∙ w.if-stays.true) c.index-items-i.is w.swap.ensures.by_index)
  | else-stays w ↦ rw (w.items-is, w.left-is)
      (FiltersInPlace-more_no c.loop-i.invariant (omega (arith, c.loop-i-test.true, c.loop-i.auto.i-end, c.loop-i.invariant.long))
      (ap (stays c.args.gone) c.index-items-i.is ∙ sym c.stays.ensures ∙ w.if-stays.false) c.index-items-i.is)
]
