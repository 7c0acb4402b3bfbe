use Rattle.std.proofs.Common.{rules, ◌≡◌, [], Err, inl, inr, refl}
use Rattle.server_command.specs.declared.metadata_server.StepErr.TheVariants.{Memory}
use Rattle.server_command.proofs.KeptLaws.{cuts_none, cuts_then, from_then}
use Rattle.server_command.proofs.connections.serve_connection.Goals as goal

pub serve_stream-requires-clause-goes_on : goal.serve_stream-requires-clause-goes_on
serve_stream-requires-clause-goes_on g c =
    let worked = c.in_ok-stands.ensures.works [] in (worked.2).went.goes_on

pub returns-clause-serves : goal.returns-clause-serves
returns-clause-serves g c = λ had.
    let first = c.in_ok-stands.ensures.works had in
    let more = c.in_ok-serve_stream.ensures.serves first.0 in
    let works = first.1 in (
      more.0,
      (_, rw c.in_ok-sends.ensures at works, more.1),
      from_then g.H.MetadataServer had first.0 more.0 c.args.server.now c.work_all.new.server c.serve_stream.new.server
          first.2 more.2,
    )

pub returns-in_err-sends-clause-cuts : goal.returns-in_err-sends-clause-cuts
returns-in_err-sends-clause-cuts g c =
    let same : c.from_residual.result ≡ Err Memory = search rules in
    rw same (λ had. (
      had,
      [],
      inl (refl, refl, refl),
      cuts_none g.H.MetadataServer _ had c.args.server.now (g.met.H.MetadataServer.kept_stays c.args.server.now)
          c.requires.goes_on (λ e. cc e),
    ))

pub returns-in_err-stands-clause-cuts : goal.returns-in_err-stands-clause-cuts
returns-in_err-stands-clause-cuts g c =
    let same : c.from_residual-in_err-stands.result ≡ Err c.in_err-stands.field-0.0 = search rules in
    rw same (λ had.
    let x = c.in_err-stands.ensures.cuts had in
    let cut = x.2 in (x.0, x.1, inr (inl (rw c.in_ok-sends.ensures at cut)), x.3))

pub returns-in_err-serve_stream-clause-cuts : goal.returns-in_err-serve_stream-clause-cuts
returns-in_err-serve_stream-clause-cuts g c =
    let same : c.from_residual-in_err-serve_stream.result ≡ Err c.in_err-serve_stream.field-0.0 = search rules in
    rw same (λ had.
    let first = c.in_ok-stands.ensures.works had in
    let x = c.in_err-serve_stream.ensures.cuts first.0 in
    let works = first.1 in (
      x.0,
      x.1,
      inr (inr (_, rw c.in_ok-sends.ensures at works, x.2)),
      cuts_then g.H.MetadataServer _ had first.0 x.0 x.1 c.args.server.now c.work_all.new.server c.serve_stream.new.server
          first.2 x.3,
    ))
