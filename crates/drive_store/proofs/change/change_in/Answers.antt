use Rattle.std.proofs.Common.{rules, ◌≡◌, false}
use Rattle.drive_store.specs.Records.{is_change}
use Rattle.drive_store.proofs.RecordLaws.{no_change}
use Rattle.drive_store.proofs.change.change_in.Goals as goal

pub returns-then-not-is_change-clause-none : goal.returns-then-not-is_change-clause-none
returns-then-not-is_change-clause-none c =
    let other : is_change c.in-Ok.c ≡ false = search rules in
    no_change c.args.core.now c.args.now c.args.message.now c.in-Ok.c c.in-Ok.ensures.exact other
