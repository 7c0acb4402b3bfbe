use Rattle.std.proofs.Common.{sym}
use Rattle.world_history.specs.Drives.{raised}
use Rattle.world_parties.proofs.Written.{changed_or, on_err}
use Rattle.world_parties.proofs.drives.WorldDrives.raise_least.Goals as goal

pub returns-in_err-raise_least-clause-err : goal.returns-in_err-raise_least-clause-err
returns-in_err-raise_least-clause-err c =
    rw ((c.get_mut.follows.holds c.raise_least.new.self).0, sym c.self.view_is, sym c.number.ensures.number)
    (on_err _ _ (changed_or c.self.inside.by_number.entries c.number.result
    (λ a. raised a c.args.format) c.in-Some.found.now c.raise_least.new.self
    (sym c.in-Some.ensures.value) c.in_err-raise_least.ensures.err))
