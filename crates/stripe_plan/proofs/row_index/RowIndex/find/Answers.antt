use Rattle.std.proofs.Common.{◌∙◌, sym, [], arith}
use Rattle.std.proofs.lemmas.Option.{get_or_from_slice_get}
use Rattle.stripe_plan.proofs.Indexing.{found_list, found_every}
use Rattle.stripe_plan.proofs.row_index.RowIndex.find.Goals as goal

pub list_of-list-requires : goal.list_of-list-requires
list_of-list-requires c = (
  omega (arith, c.requires.1 (c.keeps_rows.ensures c.if-keeps_rows.true).0, c.len.ensures),
  omega (arith, c.requires.2, c.len.ensures),
)

pub returns-then-keeps_rows : goal.returns-then-keeps_rows
returns-then-keeps_rows c = λ ts x.
    found_list c.args.self.now c.args.position
    (record { first = c.args.first; end = c.args.end }) ts c.list_of-list.result c.len.result c.as_slice.result.now x
    (c.keeps_rows.ensures c.if-keeps_rows.true) c.len.ensures c.list_of-list.ensures.value
    c.list_of-list.ensures.bound
    (c.as_slice.ensures
    ∙ sym (get_or_from_slice_get c.args.self.now.lists c.list_of-list.result c.get.result.now [] c.get.ensures))

pub returns : goal.returns
returns c = λ ts x. rw (c.as_slice-2.ensures ∙ x.every)
    (found_every c.args.position (record { first = c.args.first; end = c.args.end }) ts)
