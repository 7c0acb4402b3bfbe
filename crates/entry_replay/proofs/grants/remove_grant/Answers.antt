use Rattle.entry_replay.proofs.ChangeLaws.{return_leaves}
use Rattle.entry_replay.proofs.grants.remove_grant.Goals as goal

pub returns-clause-leaves : goal.returns-clause-leaves
returns-clause-leaves c =
    return_leaves c.args.file.now c.args.number _ c.requires.sound (rw c.as_slice.ensures at c.in_ok-file.ensures)
