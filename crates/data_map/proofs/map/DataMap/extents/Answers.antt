use Rattle.std.proofs.Common.{arith, ◌≡◌, ◌<◌, ◌+◌, ◌-◌, ◌/◌, ◌++◌, ◌∷◌, [], map, ap, sym, ◌∙◌}
use Rattle.std.specs.List.{range_with_len}
use Rattle.std.proofs.lemmas.Bool.{ne_eqb}
use Rattle.std.proofs.lemmas.List.FromFn.{map-range_with_len_more}
use Rattle.data_map.specs.declared.check.RawMap.{RawMap}
use Rattle.data_map.specs.Ranges.{part_in}
use Rattle.data_map.proofs.Covering.{div_mono, extents_bytes}
use Rattle.data_map.proofs.map.DataMap.extents.Goals as goal

pub loop-number-init : goal.loop-number-init
loop-number-init c =
    let none : c.args.off / c.raw-unit.result.unit - c.args.off / c.raw-unit.result.unit ≡ 0 = omega arith in
    let some : 0 < c.raw-unit.result.unit = rw c.raw-unit.ensures.value c.raw-unit.ensures.usable.some_unit in (
      omega arith,
      omega (
        arith,
        div_mono c.args.off (c.args.off + c.args.len - 1) c.raw-unit.result.unit some (omega (arith, c.if-len-eq0.false)),
      ),
      rw none c.new-parts.ensures,
    )

pub loop-number-preserved : goal.loop-number-preserved
loop-number-preserved c =
    let f = part_in c.args.self.now c.args.off (c.args.off + c.args.len) in
    let u = c.args.off / c.raw-unit.result.unit in
    let n = c.loop-number.number - u in
    let here : u + n ≡ c.loop-number.number = omega (arith, c.loop-number.invariant.0) in
    let count : n + 1 ≡ c.loop-number.number + 1 - u = omega (arith, c.loop-number.invariant.0) in (
      omega (arith, c.loop-number.invariant.0),
      omega (arith, c.loop-number-test.true),
      c.in_ok-push.ensures.ok ∙ ap (λ xs. xs ++ c.part_in.result ∷ []) c.loop-number.invariant.2
          ∙ ap (λ p. map f (range_with_len u n) ++ p ∷ []) c.part_in.ensures
          ∙ sym (map-range_with_len_more f u n c.loop-number.number here) ∙ ap (λ k. map f (range_with_len u k)) count,
    )

pub returns-clause-exact : goal.returns-clause-exact
returns-clause-exact c =
    let m = c.args.self.now in
    let at_end : c.loop-number.number ≡ (c.args.off + c.args.len - 1) / c.raw-unit.result.unit + 1 =
    omega (arith, c.loop-number.invariant.1, c.loop-number-test.false) in
    let unit : c.raw-unit.result.unit ≡ m.unit = ap (λ (r : RawMap). r.unit) c.raw-unit.ensures.value in
    rw (ne_eqb c.args.len 0 c.if-len-eq0.false) (rw (at_end, unit) at c.loop-number.invariant.2)

pub returns-clause-bytes : goal.returns-clause-bytes
returns-clause-bytes c =
    let m = c.args.self.now in
    let at_end : c.loop-number.number ≡ (c.args.off + c.args.len - 1) / c.raw-unit.result.unit + 1 =
    omega (arith, c.loop-number.invariant.1, c.loop-number-test.false) in
    let unit : c.raw-unit.result.unit ≡ m.unit = ap (λ (r : RawMap). r.unit) c.raw-unit.ensures.value in
    rw (rw (at_end, unit) at c.loop-number.invariant.2)
    (rw (ne_eqb c.args.len 0 c.if-len-eq0.false) at (extents_bytes m c.args.off c.args.len c.raw-unit.ensures.usable))
