use Rattle.stripe_plan.proofs.Laid.{laid_column, other_column}
use Rattle.stripe_plan.proofs.laid_bytes.lay_column.Goals as goal

pub returns-then-column-position : goal.returns-then-column-position
returns-then-column-position c =
    laid_column c.args.column.now c.args.position c.args.offset c.args.buffer.now c.lay.new.buffer c.if-column-position.true
    (rw c.as_slice.ensures at c.lay.ensures)

pub returns-else-column-position : goal.returns-else-column-position
returns-else-column-position c =
    other_column c.args.column.now c.args.position c.args.offset c.args.buffer.now c.if-column-position.false
