use Rattle.std.proofs.Common.{◌≡◌, ◌++◌, take}
use Rattle.scenario_text.specs.LineSpelling.{lines_text}
use Rattle.scenario_text.proofs.line_writer.append_lines.Given as goal

abbrev pub invariant-loop-line : goal.invariant-loop-line
invariant-loop-line l = l.longer ≡ l.fn.text ++ lines_text (take l.line-index l.lines)
