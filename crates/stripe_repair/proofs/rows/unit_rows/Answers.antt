use Rattle.std.proofs.Common.{sym, ap, ◌∙◌, ◌++◌, ◌∷◌, [], arith}
use Rattle.std.proofs.lemmas.List.FromFn.{map-range_with_len_more}
use Rattle.data_map.specs.Striping.{position_of}
use Rattle.server_rules.specs.Columns.{row_at}
use Rattle.server_rules.specs.Standing.{replica}
use Rattle.stripe_repair.proofs.rows.unit_rows.Goals as goal

pub loop-unit-preserved : goal.loop-unit-preserved
loop-unit-preserved c =
    let m = c.args.map.now in
    let source = rw c.position.ensures.value at c.replica-source.ensures in
    let row = rw source at c.in_ok-row_at.ensures in
    c.in_ok-push.ensures.ok
    ∙ ap (λ x. c.loop-unit.rows ++ (x ∷ [])) row
    ∙ ap (λ xs. xs
    ++ (row_at c.args.heard.now
    (replica m c.args.components.now (position_of m c.args.stripe c.loop-unit.unit)) c.args.count ∷ [])) c.loop-unit.invariant
    ∙ sym (map-range_with_len_more
    (λ u. row_at c.args.heard.now (replica m c.args.components.now (position_of m c.args.stripe u)) c.args.count) 0
    c.loop-unit.unit c.loop-unit.unit (omega arith))
