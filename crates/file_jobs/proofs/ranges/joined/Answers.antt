use Rattle.std.proofs.Common.{◌∙◌}
use Rattle.file_jobs.proofs.Rising.{joined_ends, joined_on, joined_past, joined_stops}
use Rattle.file_jobs.proofs.ranges.joined.Goals as goal
use Rattle.file_jobs.proofs.ranges.joined.Goals.{then-next-range+in_ok-push, else-next-range+else-range-next}

pub loop-i-preserved : goal.loop-i-preserved
loop-i-preserved c =
    let l = c.loop-i in
    let rs = c.args.ranges.now in
    elim c.if-next-range.branch [
      | then-next-range+in_ok-push w ↦
          rw (w.all-is, w.range-is)
          (joined_past l.all l.range rs l.i
          (record { first = 0; end = 0 }) w.push.new.self c.loop-i-test.true w.if-next-range.true w.in_ok-push.ensures.ok
          ∙ l.invariant)
      | else-next-range+else-range-next w ↦
          rw (w.all-is, w.range-is)
          (joined_on l.all l.range rs l.i
          (record { first = 0; end = 0 }) w.min.result w.max.result c.loop-i-test.true w.if-next-range.false
          w.if-range-next.false w.min.ensures w.max.ensures
          ∙ l.invariant)
    ]

pub returns-then-range-next : goal.returns-then-range-next
returns-then-range-next c =
    let l = c.loop-i in
    c.in_ok-extend_from_slice.ensures.ok
    ∙ joined_stops l.all l.range c.args.ranges.now l.i
    (record { first = 0; end = 0 }) c.push-then-range-next.new.self _ c.loop-i-test.true c.if-next-range.false
    c.if-range-next.true
    c.in_ok-push-2.ensures.ok c.split_at.ensures.back
    ∙ l.invariant

pub returns : goal.returns
returns c = let l = c.loop-i in
    c.in_ok-push-3.ensures.ok ∙ joined_ends l.all l.range c.args.ranges.now l.i c.loop-i-test.false ∙ l.invariant
