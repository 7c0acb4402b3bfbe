use Rattle.std.proofs.Common.{◌≡◌, ◌++◌, drop}
use Rattle.file_jobs.proofs.effects.send_all.Given as goal

abbrev pub invariant-loop-command : goal.invariant-loop-command
invariant-loop-command l =
    record l.effects { sent = l.effects.sent ++ drop l.command-index l.fn.commands } ≡ record l.fn.effects {
      sent =
          l.fn.effects.sent ++ l.fn.commands;
    }
