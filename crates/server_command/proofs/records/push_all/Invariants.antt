use Rattle.std.proofs.Common.{◌≡◌, ◌++◌, drop}
use Rattle.server_command.proofs.records.push_all.Given as goal

abbrev pub invariant-loop-sent : goal.invariant-loop-sent
invariant-loop-sent l = l.waiting ++ drop l.sent-index l.fn.more ≡ l.fn.waiting ++ l.fn.more
