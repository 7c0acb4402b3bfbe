use Rattle.std.proofs.Common.{◌∙◌, ◌+◌, ap, sym, get_or, ℕ, List}
use Rattle.parity_code.proofs.ColumnLaws.{cell}
use Rattle.parity_code.proofs.sums.block_of.Goals as goal

pub returns-clause-lanes : goal.returns-clause-lanes
returns-clause-lanes c = record {
  long = c.load.ensures.lanes.long;
  each = λ k lt. c.load.ensures.lanes.each k lt
      ∙ ap (λ (row : List ℕ). get_or row (c.args.at + k) 0) (c.as_slice.ensures ∙ c.index-rows-row.is)
      ∙ sym (cell c.args.rows.now c.args.row (c.args.at + k) c.index-rows-row.result c.requires.row);
}
