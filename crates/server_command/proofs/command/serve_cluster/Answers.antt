use Rattle.osd_bytes.specs.Asking.{ends_of}
use Rattle.cluster_text.specs.Outside.{streams}
use Rattle.server_command.proofs.Stopping.{acting}
use Rattle.server_command.proofs.command.serve_cluster.Goals as goal

pub returns-clause-stops : goal.returns-clause-stops
returns-clause-stops g c =
    acting c.args.connections
    (streams (g.S.Source.left c.args.source.now) (g.S.Source.faults c.args.source.now)
    (g.K.Sink.taken c.args.sink.now) (g.K.Sink.faults c.args.sink.now))
    (streams (g.S.Source.left c.cluster_from.new.source) (g.S.Source.faults c.cluster_from.new.source)
    (g.K.Sink.taken c.serve_in.new.sink) (g.K.Sink.faults c.serve_in.new.sink))
    (ends_of (g.L.Links.told c.args.links.now) (g.L.Links.faults c.args.links.now) (g.C.Clock.times c.args.clock.now))
    (ends_of (g.L.Links.told c.serve_in.new.links) (g.L.Links.faults c.serve_in.new.links) (g.C.Clock.times c.serve_in.new.clock))
    (g.L.Links.standing c.serve_in.new.links) c.in-Err-serve_in.stop c.in-Ok.cluster c.in-Ok.ensures.cluster
    c.in-Err-serve_in.ensures.stops
