use Rattle.std.proofs.Common.{sym, ◌∙◌}
use Rattle.stripe_repair.specs.Pieces.{rows_of}
use Rattle.stripe_repair.proofs.CodewordLaws.{row_long, wanted_is, wanted_long, wanted_count}
use Rattle.stripe_repair.proofs.StoreLaws.{store_there}
use Rattle.stripe_repair.proofs.piece_writes.store_of.Goals as goal

pub get-want-requires : goal.get-want-requires
get-want-requires c =
    rw (
      c.requires.wanted,
      wanted_count c.args.kept.now.map (rows_of c.args.kept.now c.args.piece c.args.heard.now) c.args.piece.count,
    )
    c.unit_with.ensures.bound

pub to_store-requires-clause-same : goal.to_store-requires-clause-same
to_store-requires-clause-same c =
    let rows = rows_of c.args.kept.now c.args.piece c.args.heard.now in
    let want = wanted_is c.args.kept.now.map rows c.args.piece.count c.unit_with.result c.get-want.result.now
    c.unit_with.ensures.bound (rw c.requires.wanted at c.get-want.ensures) in
    rw (c.as_slice.ensures, c.as_slice-2.ensures, c.in_ok-have.ensures, want)
    (row_long c.args.heard.now c.args.component c.args.piece.count
    ∙ sym (wanted_long c.args.kept.now.map rows c.unit_with.result c.args.piece.count))

pub returns : goal.returns
returns c =
    let rows = rows_of c.args.kept.now c.args.piece c.args.heard.now in
    let want = wanted_is c.args.kept.now.map rows c.args.piece.count c.unit_with.result c.get-want.result.now
    c.unit_with.ensures.bound (rw c.requires.wanted at c.get-want.ensures) in
    let there = store_there c.args.kept.now c.args.piece rows c.args.heard.now c.args.at.now c.args.component c.args.nonce
    c.if-at.false (sym c.group_with.ensures ∙ c.if-group_with-group.false ∙ c.group.ensures.value) in
    rw there (rw
    (c.as_slice.ensures, c.as_slice-2.ensures, c.in_ok-have.ensures, want, c.unit_with.ensures.value) at c.to_store.ensures)
