use Rattle.std.proofs.Common.{[]}
use Rattle.server_rules.specs.History.{Formats}
use Rattle.world_history.specs.Moves.{gives}
use Rattle.world_network.specs.Acts.{nothing}
use Rattle.layout_world.proofs.Acted.{server_keeps}
use Rattle.layout_world.proofs.by_server.set_format.Goals as goal

pub returns : goal.returns
returns c =
    rw c.nothing.ensures
    (server_keeps c.args.parties.now c.set_format.new.self nothing (λ w chosen. gives w chosen (Formats c.args.format)) []
    c.in_ok-set_format.ensures.state c.in_ok-set_format.ensures.mended)
