use Rattle.component_law.proofs.WithinLaw.{no_tag_is_ahead}
use Rattle.component_law.proofs.tag_laws.no_tag_is_ahead.Goals as goal

pub returns : goal.returns
returns c =
    no_tag_is_ahead c.server_sent_its_run.ensures c.each_tag_was_sent.ensures c.no_command_is_ahead.ensures
    c.all_files_fit.ensures c.server_is_counted.ensures
