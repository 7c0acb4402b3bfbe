use Rattle.std.proofs.Common.{◌∙◌, ap, sym}
use Rattle.std.specs.Prelude.{option_map}
use Rattle.server_rules.specs.declared.files.File.{File}
use Rattle.server_rules.specs.declared.server.Server.{Server}
use Rattle.server_rules.specs.Files.{file_at}
use Rattle.layout_world.specs.declared.machine.Standing.{Standing}
use Rattle.layout_world.specs.Machine.{state_in}
use Rattle.layout_world.proofs.Housed.{kept_there, none_there}
use Rattle.layout_world.proofs.machine.ServerMachine.file.Goals as goal

pub returns-in-Down : goal.returns-in-Down
returns-in-Down c =
    c.file-in-Down.ensures
    ∙ sym (kept_there c.in-Down.was.server.files c.args.number)
    ∙ ap (λ (t : Standing). option_map (λ (f : File). f.kept) (file_at (state_in t).files c.args.number)) (sym c.in-Down.is)
    ∙ ap (λ (s : Server). option_map (λ (f : File). f.kept) (file_at s.files c.args.number)) c.self.view_is

pub returns-in-Gone : goal.returns-in-Gone
returns-in-Gone c =
    none_there c.args.number
    ∙ ap (λ (t : Standing). option_map (λ (f : File). f.kept) (file_at (state_in t).files c.args.number)) (sym c.in-Gone.is)
    ∙ ap (λ (s : Server). option_map (λ (f : File). f.kept) (file_at s.files c.args.number)) c.self.view_is
