use Rattle.std.proofs.Common.{ℕ, drop}
use Rattle.server_state.specs.Index.{has}
use Rattle.server_state.proofs.Commands.{Removes}
use Rattle.server_state.proofs.index.ReplyIndex.remove_all.Given as goal

abbrev pub invariant-loop-command : goal.invariant-loop-command
invariant-loop-command l =
    (x d m : ℕ) → Removes (drop l.command-index l.fn.commands) l.file (has l.self x d m) (has l.fn.self x d m) x d m l.fn.commands
