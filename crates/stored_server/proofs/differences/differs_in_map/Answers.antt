use Rattle.std.proofs.Common.{◌∙◌}
use Rattle.stored_server.proofs.DifferenceLaws.{no_map, other_map}
use Rattle.stored_server.proofs.differences.differs_in_map.Goals as goal

pub returns-in-Some : goal.returns-in-Some
returns-in-Some g c = c.has_other_map.ensures ∙ other_map _ _ c.args.file.now.map (rw c.in-Some.is at c.file.ensures)

pub returns-in-None : goal.returns-in-None
returns-in-None g c = no_map _ c.args.file.now.map (rw c.in-None.is at c.file.ensures)
