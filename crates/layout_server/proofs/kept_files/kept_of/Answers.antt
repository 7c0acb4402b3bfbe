use Rattle.std.specs.Prelude.{option_map}
use Rattle.std.proofs.Common.{ap, sym}
use Rattle.server_rules.specs.declared.files.File.{File}
use Rattle.server_state.proofs.TableLaws.{file_there, no_file_there}
use Rattle.layout_server.proofs.kept_files.kept_of.Goals as goal

pub returns-in-Some : goal.returns-in-Some
returns-in-Some c =
    ap (option_map (λ (f : File). f.kept))
    (sym (file_there c.args.files.now.entries c.args.number c.in-Some.file.now c.requires (sym c.in-Some.ensures.value)))

pub returns-in-None : goal.returns-in-None
returns-in-None c =
    ap (option_map (λ (f : File). f.kept))
    (sym (no_file_there c.args.files.now.entries c.args.number c.requires (sym c.in-None.ensures.value)))
