use Rattle.std.proofs.Common.{◌∙◌, ℕ, ◌+◌, ◌*◌, ◌++◌, ap, sym, map, append-nil}
use Rattle.data_map.specs.declared.check.RawMap.{RawMap}
use Rattle.data_map.specs.Striping.{row_of}
use Rattle.stripe_plan.specs.Encoded.{data_column}
use Rattle.stripe_plan.proofs.Parities.{own_none, data_pushed}
use Rattle.stripe_plan.proofs.outs.push_data.Goals as goal

pub returns-then-own : goal.returns-then-own
returns-then-own c =
    sym (append-nil c.args.made.now)
    ∙ ap (λ is. c.args.made.now ++ map
    (data_column c.args.write.now.map.now c.args.write.now.range c.args.write.now.bytes.now c.args.stripe c.args.unit
    c.args.position) is)
    (sym (own_none c.args.write.now.map.now c.args.write.now.range c.args.stripe c.args.unit c.own_columns-own.result
    c.requires.unit c.own_columns-own.ensures.value c.if-own.true))

pub returns : goal.returns
returns c =
    let m = c.args.write.now.map.now in
    let first : ℕ = c.own_columns-own.result.first in
    data_pushed m c.args.write.now.range c.args.write.now.bytes.now c.args.stripe c.args.unit c.args.position
    (c.row.result * c.raw.result.unit + first) c.own_columns-own.result c.in_ok-new_bytes.field-0 c.args.made.now
    c.push.new.self
    c.requires.unit c.own_columns-own.ensures.value c.if-own.false c.in_ok-new_bytes.ensures
    (ap (λ (z : ℕ). z * c.raw.result.unit + first) c.row.ensures.value
    ∙ ap (λ (x : RawMap). row_of m c.args.stripe * x.unit + first) c.raw.ensures.value) c.in_ok-push.ensures.ok
