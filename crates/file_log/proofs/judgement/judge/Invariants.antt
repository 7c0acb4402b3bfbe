use Rattle.std.proofs.Common.{take}
use Rattle.file_log.specs.Judge.{Accepts, candidates}
use Rattle.file_log.specs.Held.{held_by, AreSame}
use Rattle.file_log.proofs.judgement.judge.Given as goal

abbrev pub invariant-loop-entry : goal.invariant-loop-entry
invariant-loop-entry l = AreSame (held_by l.held) (candidates (take l.entry-index l.log)) × Accepts (take l.entry-index l.log)
