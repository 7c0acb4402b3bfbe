use Rattle.std.specs.Prelude.{true}
use Rattle.server_rules.specs.History.{Crashes}
use Rattle.layout_world.proofs.Acted.{server_restarts}
use Rattle.layout_world.proofs.restarting.crash_server.Goals as goal

pub returns : goal.returns
returns c = server_restarts c.args.parties.now c.crash.new.self c.in_ok-act.act true Crashes c.in_ok-act.ensures
