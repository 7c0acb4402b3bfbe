use Rattle.std.proofs.Common.{◌≡◌, drop}
use Rattle.std.specs.Prelude.{find}
use Rattle.server_rules.specs.Replies.{answers}
use Rattle.file_jobs.proofs.awaited.answered_by.Given as goal

abbrev pub invariant-loop-i : goal.invariant-loop-i
invariant-loop-i l = find (answers l.drive l.reply) (drop l.i l.awaited) ≡ find (answers l.drive l.reply) l.awaited
