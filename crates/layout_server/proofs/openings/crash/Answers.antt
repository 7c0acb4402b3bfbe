use Rattle.std.proofs.Common.{◌∙◌}
use Rattle.layout_server.proofs.OpeningLaws.{crashed_at}
use Rattle.layout_server.proofs.openings.crash.Goals as goal

pub list_all-requires : goal.list_all-requires
list_all-requires c =
    (crashed_at c.args.state.now c.at_each_file.new.files _ c.at_each_file.new.effects c.requires.good
    c.in_ok-at_each_file.ensures).1

pub returns-clause-server : goal.returns-clause-server
returns-clause-server c =
    c.in_ok-list_all.ensures.server
    ∙ (crashed_at c.args.state.now c.at_each_file.new.files _ c.at_each_file.new.effects c.requires.good
    c.in_ok-at_each_file.ensures).0
