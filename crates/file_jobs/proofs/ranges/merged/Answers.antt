use Rattle.std.proofs.Common.{rules, ◌≡◌}
use Rattle.server_rules.specs.Grants.{merged}
use Rattle.file_jobs.proofs.Rising.{rise_merged}
use Rattle.file_jobs.proofs.ranges.merged.Goals as goal

pub returns-clause-rise : goal.returns-clause-rise
returns-clause-rise c =
    let e : c.loop-i.ranges ≡ merged c.args.grants.now = search rules in
    rw e (rise_merged c.args.grants.now c.requires)
