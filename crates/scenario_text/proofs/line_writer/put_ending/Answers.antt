use Rattle.scenario_text.proofs.line_writer.put_ending.Goals as goal

pub returns-in-BadLayout : goal.returns-in-BadLayout
returns-in-BadLayout c = rw (c.in-BadLayout.is, ← c.layout_fault_text.ensures) c.put-in-BadLayout.ensures
