use Rattle.std.proofs.Common.{sym, subst}
use Rattle.server_rules.specs.declared.server.Server.{Server}
use Rattle.server_state.specs.States.{server_of, HasRoom, carried_in}
use Rattle.server_state.proofs.ReplyLaws.{did_between}
use Rattle.server_state.proofs.requests.carry_out.Goals as goal

pub carry_out_at-requires-clause-room : goal.carry_out_at-requires-clause-room
carry_out_at-requires-clause-room c = subst (λ (s : Server). HasRoom s) (sym c.unlist.ensures.server) c.requires.room

pub returns-clause-did : goal.returns-clause-did
returns-clause-did c = λ chosen.
    did_between c.in_ok-step.step (λ (s : Server). carried_in s c.args.now chosen c.args.request.now) (server_of c.args.state.now)
    (server_of c.unlist.new.state)
    (server_of c.carry_out_at.new.state) (server_of c.list.new.state) c.unlist.ensures.server c.in_ok-list.ensures.server
    (c.in_ok-step.ensures.did chosen)
