use Rattle.std.proofs.Common.{rules, ◌≡◌, Err, ◌∙◌, ℕ, List, [], ap, refl, inl, inr, subst}
use Rattle.std.specs.Io.KnownBytes.{Appends}
use Rattle.std.specs.Prelude.{take}
use Rattle.osd_bytes.specs.Causes.{Rose}
use Rattle.osd_bytes.specs.Put.{written_of}
use Rattle.osd_bytes.proofs.Known.{Appends-then}
use Rattle.cluster_text.specs.Lines.{listening_line, served_line}
use Rattle.cluster_text.specs.declared.stop.CommandStop.TheVariants.{WriteFault}
use Rattle.drive_command.specs.StoredStops.{no_memory}
use Rattle.drive_command.specs.declared.stored_stop.StoredStop.TheVariants.{Command}
use Rattle.drive_command.proofs.KeptLaws.{went-none}
use Rattle.drive_loop.specs.Service.{network_at}
use Rattle.drive_loop.proofs.ServiceLaws.{served-by, stopped-after, stopped-serving}
use Rattle.drive_loop.proofs.service.serve_told.Goals as goal

pub returns-in-Ok-put_all-clause-serves : goal.returns-in-Ok-put_all-clause-serves
returns-in-Ok-put_all-clause-serves g c =
    let ends = c.in-Ok-serve_drive.ensures.ends in (
      ends.0,
      record {
        served = served-by g.H.DeviceServer c.args.handler.now.server c.serve_drive.new.handler.server
            (network_at g.P.Ports g.N.Notes g.C.Clock c.args.ports.now c.args.handler.now.notes c.args.clock.now)
            (network_at g.P.Ports g.N.Notes g.C.Clock c.serve_drive.new.ports c.serve_drive.new.handler.notes
            c.serve_drive.new.clock) c.args.handler.now.last c.serve_drive.new.handler.last c.requires.untold ends.0 ends.1;
        over = ends.2;
        told = Appends-then (g.K.Sink.taken c.args.sink.now) (g.K.Sink.taken c.put_all.new.sink)
            (g.K.Sink.taken c.put_all-2.new.sink)
            listening_line (served_line c.args.connections) c.in-Ok.ensures.ok
            (subst (λ (line : List ℕ). Appends (g.K.Sink.taken c.put_all.new.sink) (g.K.Sink.taken c.put_all-2.new.sink) line)
            (c.as_bytes.ensures.value ∙ c.in_ok-served.ensures) c.in-Ok-put_all.ensures.ok);
      },
      ends.1.1,
    )

pub returns-in_err-served-clause-stops : goal.returns-in_err-served-clause-stops
returns-in_err-served-clause-stops g c =
    let same : c.from_residual.result ≡ Err no_memory = search rules in
    rw same (stopped-after g.H.DeviceServer c.args.handler.now.server c.args.handler.now.server _ _ _ _ _ _ _ [] no_memory
    (went-none g.H.DeviceServer c.args.handler.now.server (g.met.H.DeviceServer.kept_stays c.args.handler.now.server)
    c.requires.goes_on) (inl (refl, refl, refl, refl)))

pub returns-in-Err-clause-stops : goal.returns-in-Err-clause-stops
returns-in-Err-clause-stops g c =
    stopped-after g.H.DeviceServer c.args.handler.now.server c.args.handler.now.server _ _ _ _ _ _ _ [] (Command WriteFault)
    (went-none g.H.DeviceServer c.args.handler.now.server (g.met.H.DeviceServer.kept_stays c.args.handler.now.server)
    c.requires.goes_on)
    (inl (refl, refl, refl, written_of c.in-Err.field-0, c.in-Err.ensures.err), c.in-Err.ensures.cause.failed)

pub returns-in-Err-serve_drive-clause-stops : goal.returns-in-Err-serve_drive-clause-stops
returns-in-Err-serve_drive-clause-stops g c =
    rw c.stop_of_serving.ensures
    (stopped-serving g.H.DeviceServer c.args.handler.now.server c.serve_drive.new.handler.server
    (network_at g.P.Ports g.N.Notes g.C.Clock c.args.ports.now c.args.handler.now.notes c.args.clock.now)
    (network_at g.P.Ports g.N.Notes g.C.Clock c.serve_drive.new.ports c.serve_drive.new.handler.notes c.serve_drive.new.clock)
    c.args.connections (g.K.Sink.taken c.args.sink.now) (g.K.Sink.taken c.put_all.new.sink)
    (g.K.Sink.faults c.args.sink.now) (g.K.Sink.faults c.put_all.new.sink) c.args.handler.now.last
    c.serve_drive.new.handler.last c.in-Err-serve_drive.e c.requires.untold c.in-Ok.ensures.ok
    c.in-Err-serve_drive.ensures.ends
    (λ is. c.in-Err-serve_drive.ensures.link (ap Err is)) (λ is. c.in-Err-serve_drive.ensures.disk (ap Err is)))

pub returns-clause-stops : goal.returns-clause-stops
returns-clause-stops g c =
    let ends = c.in-Ok-serve_drive.ensures.ends in
    stopped-after g.H.DeviceServer c.args.handler.now.server c.serve_drive.new.handler.server _ _ _ _ _ _ _ ends.0 (Command WriteFault) ends.1.1 (
      inr (
        served-by g.H.DeviceServer c.args.handler.now.server c.serve_drive.new.handler.server
            (network_at g.P.Ports g.N.Notes g.C.Clock c.args.ports.now c.args.handler.now.notes c.args.clock.now)
            (network_at g.P.Ports g.N.Notes g.C.Clock c.serve_drive.new.ports c.serve_drive.new.handler.notes
            c.serve_drive.new.clock) c.args.handler.now.last c.serve_drive.new.handler.last c.requires.untold ends.0 ends.1,
        ends.2,
        written_of c.in-Err-put_all.field-0,
        Appends-then (g.K.Sink.taken c.args.sink.now) (g.K.Sink.taken c.put_all.new.sink)
            (g.K.Sink.taken c.put_all-2.new.sink) listening_line
            (take (written_of c.in-Err-put_all.field-0) (served_line c.args.connections)) c.in-Ok.ensures.ok
            (subst (λ (line : List ℕ). Appends (g.K.Sink.taken c.put_all.new.sink) (g.K.Sink.taken c.put_all-2.new.sink)
            (take (written_of c.in-Err-put_all.field-0) line))
            (c.as_bytes.ensures.value ∙ c.in_ok-served.ensures) c.in-Err-put_all.ensures.err),
      ),
      subst (λ (n : ℕ). Rose n (g.K.Sink.faults c.put_all-2.new.sink)) c.in-Ok.ensures.cause.same
          c.in-Err-put_all.ensures.cause.failed,
    )
