use Rattle.std.proofs.Common.{◌∙◌}
use Rattle.layout_server.proofs.CreateLaws.{has_entry}
use Rattle.layout_server.proofs.new_files.has_file.Goals as goal

pub returns : goal.returns
returns c = c.contains_key.ensures ∙ has_entry c.args.files.now.entries c.args.number c.requires
