use Rattle.std.proofs.Common.{◌∙◌, ℕ, ◌/◌, ap, sym}
use Rattle.stripe_plan.specs.Plans.{part_column}
use Rattle.stripe_plan.proofs.Laid.{laid_column}
use Rattle.stripe_plan.proofs.laid_bytes.lay_part.Goals as goal

pub returns-then-part-replicas : goal.returns-then-part-replicas
returns-then-part-replicas c =
    laid_column (part_column c.args.map.now c.args.part.now) c.args.position c.args.offset c.args.buffer.now c.lay.new.buffer
    (ap (λ (z : ℕ). c.args.part.now.component / z) (sym c.replicas.ensures.value) ∙ c.if-part-replicas.true)
    (rw c.as_slice.ensures at c.lay.ensures)
