use Rattle.cluster_text.specs.Outside.{streams_at}
use Rattle.drive_command.specs.declared.stored_stop.StoredStop.TheVariants.{Command}
use Rattle.drive_loop.specs.Ends.{HasStopped}
use Rattle.drive_loop.specs.Service.{network_at}
use Rattle.drive_loop.proofs.StoppingLaws.{stopped-as}
use Rattle.drive_loop.proofs.command.serve_cluster.Goals as goal

pub returns-clause-stops : goal.returns-clause-stops
returns-clause-stops g c =
    let before = network_at g.P.Ports g.N.Notes g.C.Clock c.args.ports.now c.args.notes c.args.clock.now in
    let now =
    network_at g.P.Ports g.N.Notes g.C.Clock c.serve_in.new.ports c.in-Err-serve_in.stop.1 c.serve_in.new.clock in
    stopped-as c.args.number (streams_at g.S.Source g.K.Sink c.args.source.now c.args.sink.now)
    (streams_at g.S.Source g.K.Sink c.cluster_from.new.source c.serve_in.new.sink) before now
    (g.P.Ports.listens c.serve_in.new.ports) _
    (HasStopped c.args.connections before now (g.K.Sink.taken c.args.sink.now) (g.K.Sink.taken c.serve_in.new.sink)
    (g.K.Sink.faults c.args.sink.now) (g.K.Sink.faults c.serve_in.new.sink) c.in-Err-serve_in.stop.0)
    (Command c.in-Err-serve_in.stop.0) c.in-Ok.cluster c.in-Ok.ensures.cluster c.in-Err-serve_in.ensures.stops
