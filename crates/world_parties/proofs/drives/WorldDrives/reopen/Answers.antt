use Rattle.std.proofs.Common.{rules, sym, ◌∙◌}
use Rattle.world_parties.proofs.Written.{written_back}
use Rattle.world_parties.proofs.drives.WorldDrives.reopen.Goals as goal

pub returns-in_err-reopen-clause-err : goal.returns-in_err-reopen-clause-err
returns-in_err-reopen-clause-err c =
    let same = (c.get_mut.follows.holds c.reopen.new.self).0
    ∙ written_back _ c.number.result c.in-Some.found.now c.reopen.new.self
    (sym c.in-Some.ensures.value) c.in_err-reopen.ensures.err in
    rw same (search (rules, c.self.view_is))
