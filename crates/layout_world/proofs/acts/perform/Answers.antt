use Rattle.std.proofs.Common.{Ok, Err}
use Rattle.layout_world.proofs.Performing.{performed, watched, saw}
use Rattle.layout_world.proofs.acts.perform.Goals as goal

pub returns-in-Ok-clause-performed : goal.returns-in-Ok-clause-performed
returns-in-Ok-clause-performed c = λ a ended i s.
    let p = c.args.parties.now in
    watched ended (record p { network = c.perform.new.network }) c.watch_lines.new.parties a c.args.lines.now
    c.perform.new.lines c.watch_lines.result c.watch_lines.ensures.shows c.watch_lines.ensures.cause
    (performed ended p c.perform.new.network a c.args.act c.args.lines.now c.perform.new.lines (Ok tt)
    c.acts_are_moves.ensures i s c.in-Ok.ensures)

pub returns-in-Ok-clause-sees : goal.returns-in-Ok-clause-sees
returns-in-Ok-clause-sees c =
    let p = c.args.parties.now in
    saw p c.args.act (record p { network = c.perform.new.network }) c.args.before c.args.lines.now c.perform.new.lines
    c.args.watch.now c.watch_lines.new.watch c.watch_lines.result
    (λ a ended i s. performed ended p c.perform.new.network a c.args.act c.args.lines.now c.perform.new.lines (Ok tt)
    c.acts_are_moves.ensures i s c.in-Ok.ensures) c.watch_lines.ensures.sees

pub returns-in-Err-clause-performed : goal.returns-in-Err-clause-performed
returns-in-Err-clause-performed c = λ a ended i s.
    performed ended c.args.parties.now c.perform.new.network a c.args.act c.args.lines.now c.perform.new.lines
    (Err c.in-Err.error) c.acts_are_moves.ensures i s c.in-Err.ensures
