use Rattle.scenario_text.proofs.TextLaws.{found, only, refused}
use Rattle.scenario_text.proofs.line_reader.read_line.Goals as goal

pub returns : goal.returns
returns c = record {
  found = found c.args.text.now c.text_line.result c.text_line.ensures;
  only = only c.args.text.now c.text_line.result c.text_line.ensures;
  refused = refused c.args.text.now c.text_line.result c.text_line.ensures;
}
