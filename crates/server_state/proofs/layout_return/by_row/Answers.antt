use Rattle.server_state.proofs.SoundLaws.{ended_leaves, still_leaves}
use Rattle.server_state.proofs.layout_return.by_row.Goals as goal

pub returns-in_ok-end_grant-in-Clean-clause-leaves : goal.returns-in_ok-end_grant-in-Clean-clause-leaves
returns-in_ok-end_grant-in-Clean-clause-leaves c =
    ended_leaves c.args.file.now c.args.file.now _ c.args.asking.now.client
    (still_leaves c.args.file.now c.requires.sound) c.in_ok-end_grant-in-Clean.ensures

pub returns-in_ok-end_grant-in-Taken-clause-leaves : goal.returns-in_ok-end_grant-in-Taken-clause-leaves
returns-in_ok-end_grant-in-Taken-clause-leaves c =
    ended_leaves c.args.file.now _ _ c.args.asking.now.client c.in_ok-take_loss-in-Taken.ensures.leaves
    c.in_ok-end_grant-in-Taken.ensures
