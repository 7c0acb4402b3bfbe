use Rattle.std.proofs.Common.{rules}
use Rattle.osd_bytes.specs.Asking.{ends_of}
use Rattle.server_command.specs.Ends.{IsSettledAs}
use Rattle.cluster_text.specs.Outside.{streams}
use Rattle.server_command.proofs.Described.{sound}
use Rattle.stored_server.proofs.StoppingLaws.{served_in, settled_as, stopped_in}
use Rattle.stored_server.proofs.command.serve_stored_cluster.Goals as goal

pub serve_from-requires-clause-sound : goal.serve_from-requires-clause-sound
serve_from-requires-clause-sound g c = sound c.in-Ok.ensures.cluster.text c.in-Ok.cluster c.in-Ok.ensures.cluster.is

pub returns-in-Ok-serve_from-clause-serves : goal.returns-in-Ok-serve_from-clause-serves
returns-in-Ok-serve_from-clause-serves g c =
    let at : IsSettledAs c.in-Ok.cluster (g.L.Links.standing c.serve_from.new.links) = search rules in
    served_in g.D.Disk c.args.connections (g.L.Links.standing c.serve_from.new.links) c.args.disk c.in-Ok-serve_from.disk
    (streams (g.S.Source.left c.args.source.now) (g.S.Source.faults c.args.source.now) (g.K.Sink.taken c.args.sink.now)
    (g.K.Sink.faults c.args.sink.now))
    (streams (g.S.Source.left c.cluster_from.new.source) (g.S.Source.faults c.cluster_from.new.source)
    (g.K.Sink.taken c.serve_from.new.sink) (g.K.Sink.faults c.serve_from.new.sink))
    (ends_of (g.L.Links.told c.args.links.now) (g.L.Links.faults c.args.links.now) (g.C.Clock.times c.args.clock.now))
    (ends_of (g.L.Links.told c.serve_from.new.links) (g.L.Links.faults c.serve_from.new.links)
    (g.C.Clock.times c.serve_from.new.clock))
    c.in-Ok.cluster _ c.in-Ok.ensures.cluster at
    (settled_as (g.L.Links.told c.args.links.now) (g.L.Links.told c.settle_at.new.links) (g.L.Links.faults c.args.links.now)
    (g.L.Links.faults c.settle_at.new.links) (g.C.Clock.times c.args.clock.now) c.settle_at.ensures.told
    c.in-Ok-settle_at.ensures.same)
    c.in-Ok-serve_from.ensures.serves

pub returns-clause-stops : goal.returns-clause-stops
returns-clause-stops g c =
    let at : IsSettledAs c.in-Ok.cluster (g.L.Links.standing c.serve_from.new.links) = search rules in
    stopped_in g.D.Disk c.args.connections (g.L.Links.standing c.serve_from.new.links) c.args.disk c.in-Err-serve_from.refusal.1
    (streams (g.S.Source.left c.args.source.now) (g.S.Source.faults c.args.source.now) (g.K.Sink.taken c.args.sink.now)
    (g.K.Sink.faults c.args.sink.now))
    (streams (g.S.Source.left c.cluster_from.new.source) (g.S.Source.faults c.cluster_from.new.source)
    (g.K.Sink.taken c.serve_from.new.sink) (g.K.Sink.faults c.serve_from.new.sink))
    (ends_of (g.L.Links.told c.args.links.now) (g.L.Links.faults c.args.links.now) (g.C.Clock.times c.args.clock.now))
    (ends_of (g.L.Links.told c.serve_from.new.links) (g.L.Links.faults c.serve_from.new.links)
    (g.C.Clock.times c.serve_from.new.clock))
    c.in-Ok.cluster _ c.in-Err-serve_from.refusal.0 c.in-Ok.ensures.cluster at
    (settled_as (g.L.Links.told c.args.links.now) (g.L.Links.told c.settle_at.new.links) (g.L.Links.faults c.args.links.now)
    (g.L.Links.faults c.settle_at.new.links) (g.C.Clock.times c.args.clock.now) c.settle_at.ensures.told
    c.in-Ok-settle_at.ensures.same)
    c.in-Err-serve_from.ensures.stops
