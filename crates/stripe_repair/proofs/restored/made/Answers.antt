use Rattle.std.proofs.Common.{sym, ◌∙◌}
use Rattle.server_rules.specs.Columns.{unit_rows}
use Rattle.server_rules.specs.Decoding.{lost_units}
use Rattle.stripe_repair.proofs.CodewordLaws.{row_long}
use Rattle.stripe_repair.proofs.RestoredLaws.{restored_count, restored_is, restored_long, long_of, made_none}
use Rattle.stripe_repair.proofs.restored.made.Goals as goal

pub get-requires : goal.get-requires
get-requires c =
    rw (
      c.in_ok-rows-in-None.ensures,
      c.as_slice-components.ensures,
      restored_count c.args.kept.now.map c.args.kept.now.components c.args.piece.stripe c.args.heard.now c.args.piece.count,
    )
    c.unit_with-unit.ensures.bound

pub returns-in-Some-clause-long : goal.returns-in-Some-clause-long
returns-in-Some-clause-long c =
    long_of c.row_from.result _ c.args.piece.count c.row_from.ensures
    (row_long c.args.heard.now c.in-Some.component c.args.piece.count)

pub returns-in_ok-rows-in-None-clause-value : goal.returns-in_ok-rows-in-None-clause-value
returns-in_ok-rows-in-None-clause-value c =
    let f = c.args.kept.now in
    let p = c.args.piece in
    let none = sym (rw (c.as_slice-components.ensures, c.replicas.ensures.value) at c.replica.ensures) ∙ c.in-None.is in
    let row =
    restored_is f.map f.components p.stripe c.args.heard.now p.count c.unit_with-unit.result c.get.result.now
    c.unit_with-unit.ensures.bound
    (rw (c.in_ok-rows-in-None.ensures, c.as_slice-components.ensures) at c.get.ensures) in
    rw (made_none f c.args.target p c.args.heard.now none)
    (rw (c.as_slice.ensures, row, c.unit_with-unit.ensures.value) at c.copied.ensures)

pub returns-in_ok-rows-in-None-clause-long : goal.returns-in_ok-rows-in-None-clause-long
returns-in_ok-rows-in-None-clause-long c =
    let f = c.args.kept.now in
    let p = c.args.piece in
    let row =
    restored_is f.map f.components p.stripe c.args.heard.now p.count c.unit_with-unit.result c.get.result.now
    c.unit_with-unit.ensures.bound
    (rw (c.in_ok-rows-in-None.ensures, c.as_slice-components.ensures) at c.get.ensures) in
    long_of c.copied.result _ p.count (rw (c.as_slice.ensures, row) at c.copied.ensures)
    (restored_long f.map (lost_units f.map f.components p.stripe)
    (unit_rows f.map f.components p.stripe c.args.heard.now p.count) c.unit_with-unit.result p.count)
