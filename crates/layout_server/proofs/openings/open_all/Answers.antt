use Rattle.std.proofs.Common.{sym, subst}
use Rattle.server_rules.specs.declared.server.Server.{Server}
use Rattle.server_rules.specs.Openings.{reopen}
use Rattle.server_state.specs.States.{server_of, Did}
use Rattle.layout_server.proofs.OpeningLaws.{opened_at}
use Rattle.layout_server.proofs.openings.open_all.Goals as goal

pub list_all-requires : goal.list_all-requires
list_all-requires c =
    (opened_at c.args.state.now c.at_each_file.new.files c.finish_step.new.state c.at_each_file.new.effects c.in_ok-step.step
    c.requires.good c.requires.room (rw c.no_effects-effects.ensures at c.in_ok-at_each_file.ensures) c.in_ok-step.ensures).1

pub returns-clause-did : goal.returns-clause-did
returns-clause-did c =
    let d = (opened_at c.args.state.now c.at_each_file.new.files c.finish_step.new.state c.at_each_file.new.effects
    c.in_ok-step.step
    c.requires.good c.requires.room (rw c.no_effects-effects.ensures at c.in_ok-at_each_file.ensures) c.in_ok-step.ensures).0 in
    subst (λ (s : Server). Did c.in_ok-step.step s (reopen (server_of c.args.state.now))) (sym c.in_ok-list_all.ensures.server) d
