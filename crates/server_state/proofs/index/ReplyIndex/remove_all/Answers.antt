use Rattle.std.proofs.Common.{arith, ap, drop, sym, ◌+◌, ◌∙◌}
use Rattle.std.specs.Prelude.{◌∷◌}
use Rattle.server_rules.specs.declared.jobs.Awaited.{Awaited}
use Rattle.std.proofs.lemmas.List.{drop_more}
use Rattle.std.proofs.Math.ListN.{drop_of_length-le}
use Rattle.server_state.specs.Index.{has}
use Rattle.server_state.proofs.Commands.{removes_on, removed_all}
use Rattle.server_state.proofs.index.ReplyIndex.remove_all.Goals as goal

pub loop-command-preserved : goal.loop-command-preserved
loop-command-preserved c = λ x d m.
    removes_on (drop c.loop-command.command-index c.args.commands.now)
    (drop (c.loop-command.command-index + 1) c.args.commands.now) c.args.commands.now c.command-item.result c.args.file x d m
    (has c.loop-command.self x d m) (has c.remove.new.self x d m) (has c.args.self.now x d m)
    (drop_more c.args.commands.now c.loop-command.command-index c.command-item.result c.loop-command-test.true
    ∙ ap (λ (a : Awaited). a ∷ drop (c.loop-command.command-index + 1) c.args.commands.now) (sym c.command-item.is))
    (c.remove.ensures x d m) (c.loop-command.invariant x d m)

pub returns : goal.returns
returns c = λ x d m.
    removed_all (drop c.loop-command.command-index c.args.commands.now) c.args.commands.now c.args.file x d m
    (has c.loop-command.self x d m) (has c.args.self.now x d m)
    (drop_of_length-le c.args.commands.now (omega (arith, c.loop-command-test.false))) (c.loop-command.invariant x d m)
