use Rattle.stripe_plan.proofs.Indexing.{pushed}
use Rattle.stripe_plan.proofs.row_index.RowIndex.push.Goals as goal

pub returns : goal.returns
returns c = λ ts x.
    pushed ts (record { position = c.args.position; first = c.args.first; end = c.args.end }) c.args.self.now
    c.keeps_rows-is_regular.result c.push.new.self c.add_in_row.new.lists c.len-number.result x
    c.keeps_rows-is_regular.ensures c.len-number.ensures c.in_ok-push.ensures.ok
    c.in_ok-add_in_row.ensures.none c.in_ok-add_in_row.ensures.one c.in_ok-add_in_row.ensures.list
