use Rattle.scenario_text.proofs.Histories.{line_out}
use Rattle.scenario_text.proofs.line_writer.append_lines.Goals as goal

pub loop-line-preserved : goal.loop-line-preserved
loop-line-preserved c =
    line_out c.args.text c.loop-line.longer c.append_line.new.out c.push.new.self c.args.lines.now c.loop-line.line-index
    c.line-item.result c.loop-line-test.true c.line-item.is c.loop-line.invariant c.in_ok-append_line.ensures
    c.in_ok-push.ensures.ok
