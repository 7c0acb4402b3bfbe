use Rattle.std.proofs.Common.{◌≡◌, ◌∙◌, ℕ, ◌+◌, ◌-◌, ◌*◌, ap, sym, arith}
use Rattle.data_map.specs.Striping.{group_of, group_width}
use Rattle.stripe_plan.specs.Words.{parity_at}
use Rattle.stripe_plan.proofs.Parities.{place_data, place_parity}
use Rattle.stripe_plan.proofs.outs.push_place.Goals as goal

pub returns-then-unit-data_units : goal.returns-then-unit-data_units
returns-then-unit-data_units c = λ got had.
    let m = c.args.write.now.map.now in
    let at : c.group.result * c.group_width.result + c.args.place ≡ group_of m c.args.stripe * group_width m + c.args.place =
    ap (λ (z : ℕ). z * c.group_width.result + c.args.place) c.group.ensures.value
    ∙ ap (λ (z : ℕ). group_of m c.args.stripe * z + c.args.place) c.group_width.ensures.value in
    rw (place_data m c.args.write.now.range c.args.write.now.bytes.now got c.args.write.now.out.now.components c.args.stripe
    c.args.place c.unit_in-unit.result (c.group.result * c.group_width.result + c.args.place) c.unit_in-unit.ensures.value at
    (sym c.is_out.ensures ∙ c.if-is_out.false) (omega (arith, c.if-unit-data_units.true, c.data_units.ensures.value))) at
    c.push_data.ensures

pub returns : goal.returns
returns c = λ got had.
    let m = c.args.write.now.map.now in
    let at : c.group.result * c.group_width.result + c.args.place ≡ group_of m c.args.stripe * group_width m + c.args.place =
    ap (λ (z : ℕ). z * c.group_width.result + c.args.place) c.group.ensures.value
    ∙ ap (λ (z : ℕ). group_of m c.args.stripe * z + c.args.place) c.group_width.ensures.value in
    rw (place_parity m c.args.write.now.range c.args.write.now.bytes.now got c.args.write.now.out.now.components c.args.stripe
    c.args.place c.unit_in-unit.result (c.group.result * c.group_width.result + c.args.place)
    (c.unit_in-unit.result - c.data_units-2.result) c.args.intervals.now c.unit_in-unit.ensures.value at
    (sym c.is_out.ensures ∙ c.if-is_out.false) (omega (arith, c.if-unit-data_units.false, c.data_units.ensures.value))
    (ap (λ (z : ℕ). c.unit_in-unit.result - z) c.data_units-2.ensures.value) c.requires.intervals)
    at (c.push_parity.ensures
    (parity_at m c.args.write.now.range c.args.write.now.bytes.now got c.args.write.now.out.now.components c.args.stripe)
    (had (omega (arith, c.if-unit-data_units.false, c.data_units.ensures.value, c.unit_in-unit.ensures.bound))))
