use Rattle.std.proofs.Common.{drop}
use Rattle.std.specs.List.{fold}
use Rattle.world_history.specs.declared.summary.Summary.{Summary}
use Rattle.world_history.specs.Summing.{counts_line}
use Rattle.world_watch.specs.Capping.{Counts}
use Rattle.world_watch.proofs.lines.count_all.Given as goal

-- whatever counts the rest counts all
abbrev pub invariant-loop-line : goal.invariant-loop-line
invariant-loop-line l =
    (end : Summary) → Counts (λ s. fold counts_line s (drop l.line-index l.fn.lines)) l.tally end
    → Counts (λ s. fold counts_line s l.fn.lines) l.fn.tally end
