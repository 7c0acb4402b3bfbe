use Rattle.std.proofs.Common.{◌∙◌, refl}
use Rattle.parity_code.proofs.repair.RepairTables.block.Goals as goal

pub returns : goal.returns
returns c = λ r tables.
    let by_p = c.times.ensures r.by_p tables.by_p in
    let by_q = c.times-2.ensures r.by_q tables.by_q in
    record { long = c.sum.ensures.long; each = λ k lt. c.sum.ensures.each k lt ∙ rw (by_p.each k lt, by_q.each k lt) refl }
