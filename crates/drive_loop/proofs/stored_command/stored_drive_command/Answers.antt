use Rattle.std.proofs.Common.{refl}
use Rattle.cluster_text.specs.Outside.{streams_at}
use Rattle.drive_loop.specs.Service.{network_at}
use Rattle.drive_loop.proofs.StoppingLaws.{told-as}
use Rattle.drive_loop.proofs.stored_command.stored_drive_command.Goals as goal

pub returns-in-Err-clause-stops : goal.returns-in-Err-clause-stops
returns-in-Err-clause-stops g c = record {
  told = streams_at g.S.Source g.K.Sink c.serve_stored_cluster.new.source c.serve_stored_cluster.new.sink;
  stops = told-as g.D.Disk c.args.number c.args.connections
      (streams_at g.S.Source g.K.Sink c.args.source.now c.args.sink.now)
      (streams_at g.S.Source g.K.Sink c.serve_stored_cluster.new.source c.serve_stored_cluster.new.sink)
      (network_at g.P.Ports g.N.Notes g.C.Clock c.args.ports.now c.args.lent.notes c.args.clock.now)
      (network_at g.P.Ports g.N.Notes g.C.Clock c.serve_stored_cluster.new.ports c.in-Err.refusal.1.notes
      c.serve_stored_cluster.new.clock)
      (g.P.Ports.listens c.serve_stored_cluster.new.ports) c.args.lent.disk c.in-Err.refusal.1.disk
      c.in-Err.refusal.0 c.put_stored_stop-cause.result c.put_stored_stop-cause.ensures.cause c.in-Err.ensures.stops;
  input = (refl, refl);
  line = c.put_stored_stop-cause.ensures.puts;
}
