use Rattle.std.proofs.Common.{arith, add-one}
use Rattle.server_rules.specs.Grants.{count_stripes}
use Rattle.file_jobs.proofs.Rising.{counted, fits_more, few_stripes}
use Rattle.file_jobs.proofs.ranges.count_stripes.Goals as goal

pub overflow_add-count : goal.overflow_add-count
overflow_add-count c =
    omega (
      arith,
      fits_more c.loop-range.count c.loop-range.range-index c.args.ranges.now
          (record { first = 0; end = 0 }) c.requires c.loop-range.invariant c.loop-range-test.true,
      c.saturating_sub-count.ensures,
    )

pub returns-clause-bound : goal.returns-clause-bound
returns-clause-bound c = omega (arith, c.loop-range.invariant, few_stripes 0 c.args.ranges.now (omega arith) c.requires)

pub loop-range-preserved : goal.loop-range-preserved
loop-range-preserved c =
    rw (add-one c.loop-range.range-index, c.saturating_sub-count.ensures)
    (counted c.loop-range.count c.loop-range.range-index c.args.ranges.now (record { first = 0; end = 0 })
    (count_stripes c.args.ranges.now) c.loop-range.invariant c.loop-range-test.true)
