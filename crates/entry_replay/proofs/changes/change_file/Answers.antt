use Rattle.entry_replay.proofs.ChangeLaws.{change_leaves}
use Rattle.entry_replay.proofs.changes.change_file.Goals as goal

pub returns-clause-leaves : goal.returns-clause-leaves
returns-clause-leaves c =
    change_leaves c.args.file.now c.args.change.now c.change_kept.new.kept c.requires.sound c.in_ok-change_kept.ensures.changed
