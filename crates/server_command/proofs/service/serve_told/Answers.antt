use Rattle.std.proofs.Common.{rules, ◌∙◌, ℕ, List, [], Err, inl, inr, refl, subst, ◌≡◌}
use Rattle.std.specs.Io.KnownBytes.{Appends}
use Rattle.std.specs.Prelude.{take}
use Rattle.osd_bytes.specs.Causes.{Rose}
use Rattle.osd_bytes.specs.Put.{written_of}
use Rattle.osd_bytes.proofs.Known.{Appends-then}
use Rattle.cluster_text.specs.Lines.{listening_line, served_line}
use Rattle.osd_bytes.specs.Asking.{ends_of}
use Rattle.server_command.proofs.KeptLaws.{cuts_here, cuts_none}
use Rattle.server_command.proofs.Telling.{stopped_serving}
use Rattle.server_command.specs.ServerStops.{no_memory}
use Rattle.server_command.proofs.service.serve_told.Goals as goal

pub returns-in-Ok-put_all-clause-serves : goal.returns-in-Ok-put_all-clause-serves
returns-in-Ok-put_all-clause-serves g c = λ had.
    let x = c.in-Ok-serve.ensures.ends had in (
      x.0,
      record {
        served = x.1;
        told = Appends-then (g.K.Sink.taken c.args.sink.now) (g.K.Sink.taken c.put_all.new.sink)
            (g.K.Sink.taken c.put_all-2.new.sink)
            listening_line (served_line c.args.connections) c.in-Ok.ensures.ok
            (subst (λ (line : List ℕ). Appends (g.K.Sink.taken c.put_all.new.sink) (g.K.Sink.taken c.put_all-2.new.sink) line)
            (c.as_bytes.ensures.value ∙ c.in_ok-served.ensures) c.in-Ok-put_all.ensures.ok);
      },
      x.2,
    )

pub returns-in_err-served-clause-stops : goal.returns-in_err-served-clause-stops
returns-in_err-served-clause-stops g c =
    let same : c.from_residual.result ≡ Err no_memory = search rules in
    rw same (λ had. (
      had,
      [],
      inl (refl, refl, refl, refl),
      cuts_none g.H.MetadataServer _ had c.args.server.now (g.met.H.MetadataServer.kept_stays c.args.server.now)
          c.requires.goes_on (λ e. cc e),
    ))

pub returns-in-Err-clause-stops : goal.returns-in-Err-clause-stops
returns-in-Err-clause-stops g c = λ had. (
  had,
  [],
  (inl (refl, refl, refl, written_of c.in-Err.field-0, c.in-Err.ensures.err), refl, c.in-Err.ensures.cause.failed),
  cuts_none g.H.MetadataServer _ had c.args.server.now (g.met.H.MetadataServer.kept_stays c.args.server.now)
      c.requires.goes_on (λ e. cc e),
)

pub returns-in-Err-serve-clause-stops : goal.returns-in-Err-serve-clause-stops
returns-in-Err-serve-clause-stops g c =
    rw c.stop_of_serving.ensures
    (stopped_serving g.H.MetadataServer c.args.connections c.args.server.now c.serve.new.server
    (ends_of (g.L.Links.told c.args.links.now) (g.L.Links.faults c.args.links.now) (g.C.Clock.times c.args.clock.now))
    (ends_of (g.L.Links.told c.serve.new.links) (g.L.Links.faults c.serve.new.links) (g.C.Clock.times c.serve.new.clock))
    (g.K.Sink.taken c.args.sink.now) (g.K.Sink.taken c.put_all.new.sink) (g.K.Sink.faults c.args.sink.now)
    (g.K.Sink.faults c.put_all.new.sink) c.in-Err-serve.e c.in-Ok.ensures.ok c.in-Err-serve.ensures.ends)

pub returns-clause-stops : goal.returns-clause-stops
returns-clause-stops g c =
    let upto = written_of c.in-Err-put_all.field-0 in
    let cut = subst
    (λ (line : List ℕ). Appends (g.K.Sink.taken c.put_all.new.sink) (g.K.Sink.taken c.put_all-2.new.sink) (take upto line))
    (c.as_bytes.ensures.value ∙ c.in_ok-served.ensures) c.in-Err-put_all.ensures.err in
    λ had.
    let x = c.in-Ok-serve.ensures.ends had in (
      x.0,
      [],
      (
        inr (
          x.1,
          upto,
          Appends-then (g.K.Sink.taken c.args.sink.now) (g.K.Sink.taken c.put_all.new.sink) (g.K.Sink.taken c.put_all-2.new.sink)
              listening_line (take upto (served_line c.args.connections)) c.in-Ok.ensures.ok cut,
        ),
        refl,
        subst (λ (n : ℕ). Rose n (g.K.Sink.faults c.put_all-2.new.sink)) c.in-Ok.ensures.cause.same
            c.in-Err-put_all.ensures.cause.failed,
      ),
      cuts_here g.H.MetadataServer _ had x.0 c.args.server.now c.serve.new.server x.2 (λ e. cc e),
    )
