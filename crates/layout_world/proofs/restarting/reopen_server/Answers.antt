use Rattle.std.specs.Prelude.{false}
use Rattle.server_rules.specs.History.{Opens}
use Rattle.layout_world.proofs.Acted.{server_restarts}
use Rattle.layout_world.proofs.restarting.reopen_server.Goals as goal

pub returns : goal.returns
returns c = server_restarts c.args.parties.now c.reopen.new.self c.in_ok-act.act false Opens c.in_ok-act.ensures
