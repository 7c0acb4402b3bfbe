use Rattle.std.proofs.Common.{rules, ◌≡◌, [], Err, inl, inr, refl}
use Rattle.server_command.specs.declared.metadata_server.StepErr.TheVariants.{Memory}
use Rattle.server_command.proofs.KeptLaws.{cuts_none, cuts_then, from_then}
use Rattle.server_command.proofs.connections.serve_record.Goals as goal

pub work_all-requires-clause-goes_on : goal.work_all-requires-clause-goes_on
work_all-requires-clause-goes_on g c =
    let handled = c.in_ok-sends.ensures.handles [] c.args.puts [] in (handled.2).went.goes_on

pub returns-clause-serves : goal.returns-clause-serves
returns-clause-serves g c = λ had.
    let first = c.in_ok-sends.ensures.handles [] c.args.puts had in
    let more = c.in_ok-still.ensures.works first.0 in
    let handles = first.1 in
    let works = more.1 in (
      more.0,
      (_, rw c.in_ok-sender.ensures at handles, rw c.in_ok-sender.ensures at works),
      from_then g.H.MetadataServer had first.0 more.0 c.args.server.now c.handle.new.server c.work_all.new.server first.2 more.2,
    )

pub returns-in_err-sender-clause-cuts : goal.returns-in_err-sender-clause-cuts
returns-in_err-sender-clause-cuts g c =
    let same : c.from_residual.result ≡ Err Memory = search rules in
    rw same (λ had. (
      had,
      [],
      inl (refl, refl, refl),
      cuts_none g.H.MetadataServer _ had c.args.server.now (g.met.H.MetadataServer.kept_stays c.args.server.now)
          c.requires.goes_on (λ e. cc e),
    ))

pub returns-in_err-sends-clause-cuts : goal.returns-in_err-sends-clause-cuts
returns-in_err-sends-clause-cuts g c =
    let same : c.from_residual-in_err-sends.result ≡ Err c.in_err-sends.field-0.0 = search rules in
    rw same (λ had.
    let x = c.in_err-sends.ensures.cuts [] c.args.puts had in
    let cut = x.2 in (x.0, x.1, inr (inl (rw c.in_ok-sender.ensures at cut)), x.3))

pub returns-in_err-still-clause-cuts : goal.returns-in_err-still-clause-cuts
returns-in_err-still-clause-cuts g c =
    let same : c.from_residual-in_err-still.result ≡ Err c.in_err-still.field-0.0 = search rules in
    rw same (λ had.
    let first = c.in_ok-sends.ensures.handles [] c.args.puts had in
    let x = c.in_err-still.ensures.cuts first.0 in
    let handles = first.1 in
    let cut = x.2 in (
      x.0,
      x.1,
      inr (inr (_, rw c.in_ok-sender.ensures at handles, rw c.in_ok-sender.ensures at cut)),
      cuts_then g.H.MetadataServer _ had first.0 x.0 x.1 c.args.server.now c.handle.new.server c.work_all.new.server first.2 x.3,
    ))
