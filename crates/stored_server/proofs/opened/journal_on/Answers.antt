use Rattle.std.proofs.Common.{◌∙◌, sym, subst}
use Rattle.std.specs.Prelude.{IsTrue}
use Rattle.drive_command.proofs.OpenedLaws.{asked}
use Rattle.stored_server.proofs.OpeningLaws.{since_asked}
use Rattle.stored_server.proofs.opened.journal_on.Goals as goal

pub returns-in-Ok-told_again-clause-leaves : goal.returns-in-Ok-told_again-clause-leaves
returns-in-Ok-told_again-clause-leaves g c told =
    since_asked g.D.Disk g.met.D.Disk.only_now c.args.disk c.size.new.self _
    (asked g.D.Disk c.args.disk c.open.new.self c.size.new.self c.open.ensures.tells c.open.ensures.seen c.open.ensures.crash
    c.open.ensures.time
    c.size.ensures.tells c.size.ensures.seen c.size.ensures.crash c.size.ensures.time)
    (c.in-Ok-open.ensures.opened (subst IsTrue (sym (c.size.ensures.tells ∙ c.open.ensures.tells)) told)).any_moment

pub returns-in-Err-told_again-clause-cut_off : goal.returns-in-Err-told_again-clause-cut_off
returns-in-Err-told_again-clause-cut_off g c told =
    rw c.into_disk.ensures
    (since_asked g.D.Disk g.met.D.Disk.only_now c.args.disk c.size.new.self _
    (asked g.D.Disk c.args.disk c.open.new.self c.size.new.self c.open.ensures.tells c.open.ensures.seen c.open.ensures.crash
    c.open.ensures.time
    c.size.ensures.tells c.size.ensures.seen c.size.ensures.crash c.size.ensures.time)
    (c.in-Ok-open.ensures.opened (subst IsTrue (sym (c.size.ensures.tells ∙ c.open.ensures.tells)) told)).any_moment)
