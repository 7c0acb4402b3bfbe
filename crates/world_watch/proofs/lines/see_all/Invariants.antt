use Rattle.std.proofs.Common.{◌≡◌, drop}
use Rattle.world_watch.specs.Watching.{sees_all}
use Rattle.world_watch.proofs.lines.see_all.Given as goal

abbrev pub invariant-loop-line : goal.invariant-loop-line
invariant-loop-line l =
    sees_all l.guesses l.fn.network.messages (drop l.line-index l.fn.lines)
    ≡ sees_all l.fn.guesses l.fn.network.messages l.fn.lines
