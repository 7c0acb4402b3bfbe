use Rattle.std.proofs.Common.{◌≡◌, ◌++◌, drop}
use Rattle.server_rules.specs.Zoning.{holders_from}
use Rattle.file_jobs.proofs.places.holders_of.Given as goal

abbrev pub invariant-loop-at : goal.invariant-loop-at
invariant-loop-at l =
    (l.component ≡ l.at-index) ×
    (l.holders ++ holders_from (drop l.at-index l.fn.components) l.component ≡ holders_from l.fn.components 0)
