use Rattle.drive_command.specs.Opened.{first_of}
use Rattle.drive_loop.specs.Service.{network_at}
use Rattle.drive_loop.proofs.StoredLaws.{served-from, stopped-from, unopened}
use Rattle.drive_loop.proofs.stored_command.serve_from.Goals as goal

pub returns-in-Ok-serve_told-clause-serves : goal.returns-in-Ok-serve_told-clause-serves
returns-in-Ok-serve_told-clause-serves g c =
    let done = c.in-Ok-serve_told.ensures.serves in
    served-from g.D.Disk (first_of c.args.own) c.args.connections
    (network_at g.P.Ports g.N.Notes g.C.Clock c.args.ports.now c.args.lent.notes c.args.clock.now)
    (network_at g.P.Ports g.N.Notes g.C.Clock c.serve_told.new.ports c.serve_told.new.handler.notes c.serve_told.new.clock)
    (g.K.Sink.taken c.args.sink.now) (g.K.Sink.taken c.serve_told.new.sink) c.args.lent.disk c.into_disk.result
    c.in-Ok.store c.serve_told.new.handler.server done.0 c.in-Ok.ensures.begins c.in-Ok.ensures.kept done.1
    done.2.carries done.2.keeps
    c.into_disk.ensures c.in-Ok.ensures.leaves done.2.same c.in-Ok.ensures.no_fault

pub returns-in-Err-serve_told-clause-stops : goal.returns-in-Err-serve_told-clause-stops
returns-in-Err-serve_told-clause-stops g c =
    let x = c.in-Err-serve_told.ensures.stops in
    stopped-from g.D.Disk (first_of c.args.own) c.args.connections
    (network_at g.P.Ports g.N.Notes g.C.Clock c.args.ports.now c.args.lent.notes c.args.clock.now)
    (network_at g.P.Ports g.N.Notes g.C.Clock c.serve_told.new.ports c.serve_told.new.handler.notes c.serve_told.new.clock)
    (g.K.Sink.taken c.args.sink.now) (g.K.Sink.taken c.serve_told.new.sink) c.args.lent.disk
    c.into_disk-disk.result
    c.in-Ok.store c.serve_told.new.handler.server x.steps x.handled x.cut_off (g.K.Sink.faults c.args.sink.now)
    (g.K.Sink.faults c.serve_told.new.sink) c.in-Err-serve_told.stop
    c.in-Ok.ensures.begins c.in-Ok.ensures.kept c.in-Ok.ensures.no_fault x.records x.carries x.why
    c.into_disk-disk.ensures c.in-Ok.ensures.leaves

pub returns-in-Err-clause-stops : goal.returns-in-Err-clause-stops
returns-in-Err-clause-stops g c =
    unopened g.D.Disk (first_of c.args.own) c.args.connections
    (network_at g.P.Ports g.N.Notes g.C.Clock c.args.ports.now c.args.lent.notes c.args.clock.now)
    (g.K.Sink.taken c.args.sink.now)
    (g.K.Sink.faults c.args.sink.now) c.args.lent.disk c.in-Err.disk c.in-Err.stop c.in-Err.ensures.refused
    c.in-Err.ensures.cut_off
