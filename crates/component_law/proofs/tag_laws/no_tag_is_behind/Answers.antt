use Rattle.component_law.proofs.LeastLaw.{no_tag_is_behind}
use Rattle.component_law.proofs.tag_laws.no_tag_is_behind.Goals as goal

pub returns : goal.returns
returns c =
    no_tag_is_behind c.server_sent_its_run.ensures c.each_tag_was_sent.ensures c.no_command_is_ahead.ensures
    c.all_files_fit.ensures c.server_is_counted.ensures c.holder_is_server.ensures c.each_step_stands.ensures
    c.creates_are_first.ensures c.one_event_more.ensures
