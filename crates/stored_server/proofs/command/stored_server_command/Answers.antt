use Rattle.std.proofs.Common.{refl}
use Rattle.osd_bytes.specs.Asking.{ends_of}
use Rattle.cluster_text.specs.Outside.{streams}
use Rattle.stored_server.proofs.StoppingLaws.{told_as}
use Rattle.stored_server.proofs.command.stored_server_command.Goals as goal

pub returns-in-Err-clause-stops : goal.returns-in-Err-clause-stops
returns-in-Err-clause-stops g c = record {
  told = streams (g.S.Source.left c.serve_stored_cluster.new.source) (g.S.Source.faults c.serve_stored_cluster.new.source)
      (g.K.Sink.taken c.serve_stored_cluster.new.sink) (g.K.Sink.faults c.serve_stored_cluster.new.sink);
  stops = told_as g.D.Disk c.args.connections (g.L.Links.standing c.serve_stored_cluster.new.links) c.args.disk
      c.in-Err.refusal.1
      (streams (g.S.Source.left c.args.source.now) (g.S.Source.faults c.args.source.now) (g.K.Sink.taken c.args.sink.now)
      (g.K.Sink.faults c.args.sink.now))
      (streams (g.S.Source.left c.serve_stored_cluster.new.source) (g.S.Source.faults c.serve_stored_cluster.new.source)
      (g.K.Sink.taken c.serve_stored_cluster.new.sink) (g.K.Sink.faults c.serve_stored_cluster.new.sink))
      (ends_of (g.L.Links.told c.args.links.now) (g.L.Links.faults c.args.links.now) (g.C.Clock.times c.args.clock.now))
      (ends_of (g.L.Links.told c.serve_stored_cluster.new.links) (g.L.Links.faults c.serve_stored_cluster.new.links)
      (g.C.Clock.times c.serve_stored_cluster.new.clock))
      c.in-Err.refusal.0 c.put_stored_stop-cause.result c.put_stored_stop-cause.ensures.cause c.in-Err.ensures.stops;
  input = (refl, refl);
  line = c.put_stored_stop-cause.ensures.puts;
}
