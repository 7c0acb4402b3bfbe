use Rattle.std.proofs.Common.{ap, ◌∙◌}
use Rattle.parity_code.specs.declared.repair.Repair.{Repair}
use Rattle.parity_code.proofs.StripeLaws.{parity_kept, restored_by_two}
use Rattle.parity_code.proofs.erasures.restore_two.Goals as goal

pub restore-requires-clause-rows : goal.restore-requires-clause-rows
restore-requires-clause-rows c =
    parity_kept c.args.units c.args.rows.now c.clear-2.new.rows (c.clear-2.ensures.shape ∙ c.clear.ensures.shape) c.requires.rows

pub returns : goal.returns
returns c =
    restored_by_two c.args.units c.args.x c.args.y c.repairs_of_two.result.0 c.repairs_of_two.result.1 c.args.rows.now
    c.clear.new.rows c.clear-2.new.rows c.restore.new.rows c.requires.rows
    (rw c.as_slice.ensures at c.rows_are_bytes.ensures) c.requires.rising c.requires.last c.requires.both
    c.repairs_of_two.ensures.repair (ap (λ (rs : Repair × Repair). rs.0) c.repairs_of_two.ensures.value)
    (ap (λ (rs : Repair × Repair). rs.1) c.repairs_of_two.ensures.value) c.clear.ensures c.clear-2.ensures c.restore.ensures
