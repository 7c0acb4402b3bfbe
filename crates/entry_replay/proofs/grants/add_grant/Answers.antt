use Rattle.entry_replay.proofs.ChangeLaws.{grant_leaves}
use Rattle.entry_replay.proofs.grants.add_grant.Goals as goal

pub returns-clause-leaves : goal.returns-clause-leaves
returns-clause-leaves c =
    grant_leaves c.args.file.now c.args.grant c.push.new.self c.high_after-file.result c.requires.sound c.requires.grant
    c.in_ok-push.ensures.ok c.high_after-file.ensures
