use Rattle.std.proofs.Common.{◌≡◌, ◌≤◌, arith, inl, inr}
use Rattle.std.proofs.lemmas.Bool.{cases_eq}
use Rattle.data_map.specs.Striping.{data_units, parities}
use Rattle.data_map.proofs.Shape.{few_parities}
use Rattle.parity_code.proofs.ColumnLaws.{refill_same}
use Rattle.stripe_plan.specs.Plans.{columns_of}
use Rattle.stripe_plan.proofs.Exchanges.{delta_init, delta_step, one_row, two_rows}
use Rattle.stripe_plan.proofs.parity_change.changed_parity.Goals as goal

pub loop-unit-init : goal.loop-unit-init
loop-unit-init c =
    delta_init c.args.write.now.map.now c.args.write.now.range c.args.write.now.bytes.now
    (columns_of c.args.write.now.map.now c.args.write.now.got.now) c.args.stripe c.args.columns c.in_ok-p.p c.in_ok-q.q
    (rw c.data_units-units.ensures.value at c.in_ok-p.ensures) c.in_ok-q.ensures.long (λ two. c.in_ok-q.ensures.got two)

pub loop-unit-preserved : goal.loop-unit-preserved
loop-unit-preserved c =
    let changed = rw (c.as_mut_slice.ensures.value, c.as_mut_slice-in-loop-unit.ensures.value) at c.in_ok-change_unit.ensures in
    rw (
      refill_same c.loop-unit.p c.change_unit.new.p changed.p_long,
      refill_same c.loop-unit.q c.change_unit.new.q changed.q_long,
    )
    (delta_step c.args.write.now.map.now c.args.write.now.range c.args.write.now.bytes.now
    (columns_of c.args.write.now.map.now c.args.write.now.got.now) c.args.stripe c.args.columns c.loop-unit.unit c.loop-unit.p
    c.loop-unit.q c.change_unit.new.p c.change_unit.new.q
    (omega (arith, c.loop-unit-test.true, c.data_units-units.ensures.value)) c.loop-unit.invariant changed.p_long changed.q_long
    (changed.p c.requires.some) (λ two. changed.q two))

pub returns : goal.returns
returns c =
    let m = c.args.write.now.map.now in
    let got = columns_of m c.args.write.now.got.now in
    let le : data_units m ≤ c.loop-unit.unit = omega (arith, c.loop-unit-test.false, c.data_units-units.ensures.value) in
    elim (cases_eq (parities m) 1) [
      | inl one ↦ one_row m c.args.write.now.range c.args.write.now.bytes.now got c.args.stripe c.args.columns c.loop-unit.unit
          c.loop-unit.p c.loop-unit.q c.in_ok-rows.rows le one (c.in_ok-rows.ensures.one one) c.loop-unit.invariant
      | inr more ↦
          let two : parities m ≡ 2 = omega (arith, more, few_parities m, c.requires.some) in
          two_rows m c.args.write.now.range c.args.write.now.bytes.now got c.args.stripe c.args.columns c.loop-unit.unit
          c.loop-unit.p c.loop-unit.q c.in_ok-rows.rows le two (c.in_ok-rows.ensures.two two) c.loop-unit.invariant
    ]
