use Rattle.parity_code.proofs.StripeLaws.{parity_kept, restored_by_one}
use Rattle.parity_code.proofs.erasures.restore_one.Goals as goal

pub restore-requires-clause-rows : goal.restore-requires-clause-rows
restore-requires-clause-rows c = parity_kept c.args.units c.args.rows.now c.clear.new.rows c.clear.ensures.shape c.requires.rows

pub returns : goal.returns
returns c = restored_by_one c.args.units c.args.x c.repair_of_one-repair.result c.args.rows.now c.clear.new.rows
    c.restore.new.rows c.requires.rows
    (rw c.as_slice.ensures at c.rows_are_bytes.ensures) c.requires.last c.repair_of_one-repair.ensures.repair
    c.repair_of_one-repair.ensures.value c.clear.ensures c.restore.ensures
