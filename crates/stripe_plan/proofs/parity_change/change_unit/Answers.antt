use Rattle.std.proofs.Common.{◌∙◌, ap, refl, length, arith}
use Rattle.stripe_plan.specs.Parity.{p_exchanged, q_exchanged}
use Rattle.stripe_plan.specs.Plans.{columns_of}
use Rattle.stripe_plan.proofs.Columning.{code_count}
use Rattle.stripe_plan.proofs.Exchanges.{own_first, own_end, got_long, unit_changed, unit_same}
use Rattle.stripe_plan.proofs.parity_change.change_unit.Goals as goal

pub new_part-new-requires-clause-from : goal.new_part-new-requires-clause-from
new_part-new-requires-clause-from c =
    omega (
      arith,
      own_first c.args.write.now.map.now c.args.write.now.range c.args.stripe c.args.unit c.own_columns-own.result
          c.own_columns-own.ensures.value,
      c.max.ensures,
    )

pub new_part-new-requires-clause-to : goal.new_part-new-requires-clause-to
new_part-new-requires-clause-to c =
    omega (
      arith,
      own_end c.args.write.now.map.now c.args.write.now.range c.args.stripe c.args.unit c.own_columns-own.result
          c.own_columns-own.ensures.value,
      c.min.ensures,
      c.if-both.true,
    )

pub change_at-requires-clause-same : goal.change_at-requires-clause-same
change_at-requires-clause-same c =
    let old = ap length (c.as_slice.ensures ∙ c.in_ok-old.ensures)
    ∙ got_long c.args.write.now.map.now
    (columns_of c.args.write.now.map.now c.args.write.now.got.now) c.args.stripe c.args.unit
    (record { first = c.max.result; end = c.min.result }) in
    omega (arith, old, c.new_part-new.ensures.long)

pub change_at-requires-clause-p : goal.change_at-requires-clause-p
change_at-requires-clause-p c =
    let old = ap length (c.as_slice.ensures ∙ c.in_ok-old.ensures)
    ∙ got_long c.args.write.now.map.now
    (columns_of c.args.write.now.map.now c.args.write.now.got.now) c.args.stripe c.args.unit
    (record { first = c.max.result; end = c.min.result }) in
    omega (arith, old, c.requires.p, c.min.ensures, c.max.ensures, c.if-both.true)

pub change_at-requires-clause-q : goal.change_at-requires-clause-q
change_at-requires-clause-q c =
    let old = ap length (c.as_slice.ensures ∙ c.in_ok-old.ensures)
    ∙ got_long c.args.write.now.map.now
    (columns_of c.args.write.now.map.now c.args.write.now.got.now) c.args.stripe c.args.unit
    (record { first = c.max.result; end = c.min.result }) in
    omega (arith, old, c.requires.q, c.min.ensures, c.max.ensures, c.if-both.true)

pub returns-in_ok-old-clause-p : goal.returns-in_ok-old-clause-p
returns-in_ok-old-clause-p c = λ some.
    let m = c.args.write.now.map.now in
    unit_changed m c.args.write.now.range c.args.write.now.bytes.now
    (columns_of m c.args.write.now.got.now) c.args.stripe c.args.unit 0 c.args.columns
    (record { first = c.max.result; end = c.min.result }) c.own_columns-own.result p_exchanged
    c.as_slice.result.now c.new_part-new.result.now c.args.p.now c.change_at.new.p c.own_columns-own.ensures.value c.max.ensures
    c.min.ensures c.if-both.true (c.as_slice.ensures ∙ c.in_ok-old.ensures)
    c.new_part-new.ensures.value (c.change_at.ensures.p (rw c.code_of.ensures (omega (arith, code_count m, some))))
    (λ v o z. refl) (λ o z. refl)

pub returns-else-both-clause-p : goal.returns-else-both-clause-p
returns-else-both-clause-p c = λ some.
    unit_same c.args.write.now.map.now c.args.write.now.range c.args.write.now.bytes.now
    (columns_of c.args.write.now.map.now c.args.write.now.got.now) c.args.stripe c.args.unit 0 c.args.columns
    (record { first = c.max.result; end = c.min.result }) c.own_columns-own.result c.args.p.now
    c.own_columns-own.ensures.value c.max.ensures c.min.ensures c.if-both.false (λ o z. refl)

pub returns-in_ok-old-clause-q : goal.returns-in_ok-old-clause-q
returns-in_ok-old-clause-q c = λ some.
    let m = c.args.write.now.map.now in
    unit_changed m c.args.write.now.range c.args.write.now.bytes.now
    (columns_of m c.args.write.now.got.now) c.args.stripe c.args.unit 1 c.args.columns
    (record { first = c.max.result; end = c.min.result }) c.own_columns-own.result (q_exchanged c.args.unit)
    c.as_slice.result.now c.new_part-new.result.now c.args.q.now c.change_at.new.q c.own_columns-own.ensures.value c.max.ensures
    c.min.ensures c.if-both.true (c.as_slice.ensures ∙ c.in_ok-old.ensures)
    c.new_part-new.ensures.value (c.change_at.ensures.q (rw c.code_of.ensures (omega (arith, code_count m, some))))
    (λ v o z. refl) (λ o z. refl)

pub returns-else-both-clause-q : goal.returns-else-both-clause-q
returns-else-both-clause-q c = λ some.
    unit_same c.args.write.now.map.now c.args.write.now.range c.args.write.now.bytes.now
    (columns_of c.args.write.now.map.now c.args.write.now.got.now) c.args.stripe c.args.unit 1 c.args.columns
    (record { first = c.max.result; end = c.min.result }) c.own_columns-own.result c.args.q.now
    c.own_columns-own.ensures.value c.max.ensures c.min.ensures c.if-both.false (λ o z. refl)
