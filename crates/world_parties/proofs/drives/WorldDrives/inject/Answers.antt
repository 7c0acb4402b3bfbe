use Rattle.std.proofs.Common.{sym}
use Rattle.osd_commands.specs.Commands.{reading}
use Rattle.world_parties.proofs.Written.{injected_or, on_err}
use Rattle.world_parties.proofs.drives.WorldDrives.inject.Goals as goal

pub returns-in_err-judge-in-Some-clause-err : goal.returns-in_err-judge-in-Some-clause-err
returns-in_err-judge-in-Some-clause-err c =
    rw ((c.get_mut.follows.holds c.judge.new.self).0, sym c.self.view_is, sym c.number.ensures.number)
    (on_err _ _ (injected_or c.self.inside.by_number.entries c.number.result
    (reading c.args.bytes.now) c.in-Some.found.now c.judge.new.self
    (sym c.in-Some.ensures.value) c.in_err-judge-in-Some.ensures.err))
