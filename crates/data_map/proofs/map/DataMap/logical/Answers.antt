use Rattle.std.proofs.Common.{arith, refl, ◌<◌, ◌+◌, ◌*◌, ◌%◌}
use Rattle.data_map.specs.Striping.{positions, data_units}
use Rattle.data_map.specs.Inverse.{unit_at}
use Rattle.data_map.proofs.Inverse.{out_of_range, no_data, is_parity, is_byte, has_byte, byte_fits}
use Rattle.data_map.proofs.map.DataMap.logical.Goals as goal

pub returns-then-position-positions-clause-byte : goal.returns-then-position-positions-clause-byte
returns-then-position-positions-clause-byte c =
    λ l. out_of_range c.args.self.now c.args.position c.args.offset l c.raw-unit.ensures.usable
    (omega (arith, c.positions.ensures.value, c.if-position-positions.true))

pub returns-then-data_unit-data_units-clause-byte :
    goal.returns-then-data_unit-data_units-clause-byte
returns-then-data_unit-data_units-clause-byte c =
    λ l. no_data c.args.self.now c.args.position c.args.offset l c.raw-unit.ensures.usable
    (omega (arith, c.if-data_unit-data_units.true, c.data_units.ensures.value, c.unit_at-stripe.ensures.unit))

pub returns-then-data_unit-data_units-clause-none :
    goal.returns-then-data_unit-data_units-clause-none
returns-then-data_unit-data_units-clause-none c =
    let below : c.args.position < positions c.args.self.now =
    omega (arith, c.positions.ensures.value, c.if-position-positions.false) in (
      λ _. is_parity c.args.self.now c.args.position c.args.offset c.raw-unit.ensures.usable below
          (omega (arith, c.if-data_unit-data_units.true, c.data_units.ensures.value, c.unit_at-stripe.ensures.unit)),
      λ _. refl,
    )

pub overflow_mul-result : goal.overflow_mul-result
overflow_mul-result c = rw c.stripe_length.ensures.value (omega (arith, c.unit_at-stripe.ensures.bound))

pub overflow_add-result : goal.overflow_add-result
overflow_add-result c =
    let below : c.args.position < positions c.args.self.now =
    omega (arith, c.positions.ensures.value, c.if-position-positions.false) in
    let holds : unit_at c.args.self.now c.args.position c.args.offset < data_units c.args.self.now =
    omega (arith, c.if-data_unit-data_units.false, c.data_units.ensures.value, c.unit_at-stripe.ensures.unit) in
    let whole : c.unit_at-stripe.result.0 * c.stripe_length.result + c.from.result * c.raw-unit.result.unit
    + c.args.offset % c.raw-unit.result.unit < 18_446_744_073_709_551_616 =
    rw (
      c.unit_at-stripe.ensures.stripe,
      c.stripe_length.ensures.value,
      c.from.ensures,
      c.unit_at-stripe.ensures.unit,
      c.raw-unit.ensures.value,
    )
    (byte_fits c.args.self.now c.args.position c.args.offset c.raw-unit.ensures.usable below c.requires holds) in
    omega (arith, whole)

pub overflow_add-result-2 : goal.overflow_add-result-2
overflow_add-result-2 c =
    let below : c.args.position < positions c.args.self.now =
    omega (arith, c.positions.ensures.value, c.if-position-positions.false) in
    let holds : unit_at c.args.self.now c.args.position c.args.offset < data_units c.args.self.now =
    omega (arith, c.if-data_unit-data_units.false, c.data_units.ensures.value, c.unit_at-stripe.ensures.unit) in
    let whole : c.unit_at-stripe.result.0 * c.stripe_length.result + c.from.result * c.raw-unit.result.unit
    + c.args.offset % c.raw-unit.result.unit < 18_446_744_073_709_551_616 =
    rw (
      c.unit_at-stripe.ensures.stripe,
      c.stripe_length.ensures.value,
      c.from.ensures,
      c.unit_at-stripe.ensures.unit,
      c.raw-unit.ensures.value,
    )
    (byte_fits c.args.self.now c.args.position c.args.offset c.raw-unit.ensures.usable below c.requires holds) in
    omega (arith, whole)

pub returns-clause-byte : goal.returns-clause-byte
returns-clause-byte c =
    let below : c.args.position < positions c.args.self.now =
    omega (arith, c.positions.ensures.value, c.if-position-positions.false) in
    let holds : unit_at c.args.self.now c.args.position c.args.offset < data_units c.args.self.now =
    omega (arith, c.if-data_unit-data_units.false, c.data_units.ensures.value, c.unit_at-stripe.ensures.unit) in
    rw (
      c.unit_at-stripe.ensures.stripe,
      c.stripe_length.ensures.value,
      c.from.ensures,
      c.unit_at-stripe.ensures.unit,
      c.raw-unit.ensures.value,
    )
    (λ l. is_byte c.args.self.now c.args.position c.args.offset l c.raw-unit.ensures.usable below holds)

pub returns-clause-none : goal.returns-clause-none
returns-clause-none c =
    let below : c.args.position < positions c.args.self.now =
    omega (arith, c.positions.ensures.value, c.if-position-positions.false) in
    let holds : unit_at c.args.self.now c.args.position c.args.offset < data_units c.args.self.now =
    omega (arith, c.if-data_unit-data_units.false, c.data_units.ensures.value, c.unit_at-stripe.ensures.unit) in (
      λ e. absurd (cc e),
      λ none. absurd (has_byte c.args.self.now c.args.position c.args.offset c.raw-unit.ensures.usable below holds none),
    )
