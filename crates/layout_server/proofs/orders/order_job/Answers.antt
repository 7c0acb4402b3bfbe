use Rattle.std.proofs.Common.{sym, subst}
use Rattle.server_rules.specs.declared.server.Server.{Server}
use Rattle.server_rules.specs.Files.{file_at}
use Rattle.server_rules.specs.Orders.{starts}
use Rattle.server_state.specs.States.{server_of, HasRoom}
use Rattle.layout_server.proofs.OrderLaws.{obeys_between}
use Rattle.layout_server.proofs.orders.order_job.Goals as goal

pub order_job_at-requires-clause-room : goal.order_job_at-requires-clause-room
order_job_at-requires-clause-room g c = subst (λ (s : Server). HasRoom s) (sym c.unlist.ensures.server) c.requires.room

pub returns-clause-obeys : goal.returns-clause-obeys
returns-clause-obeys g c =
    let did = c.in_ok-obeyed.ensures.obeys in (
      did.0,
      obeys_between c.in_ok-obeyed.obeyed (λ (s : Server). starts s did.0 c.args.kind (file_at s.files c.args.number))
          (server_of c.args.state.now) (server_of c.unlist.new.state)
          (server_of c.order_job_at.new.state)
          (server_of c.list.new.state) c.unlist.ensures.server c.in_ok-list.ensures.server did.1,
    )
