use Rattle.std.proofs.Common.{rules, ◌≡◌, [], Err, refl}
use Rattle.server_command.specs.declared.metadata_server.StepErr.TheVariants.{Memory}
use Rattle.server_command.proofs.KeptLaws.{cuts_none, from_none}
use Rattle.server_command.proofs.messages.work.Goals as goal

pub returns-in_ok-ask_drive-in-Drive-clause-works : goal.returns-in_ok-ask_drive-in-Drive-clause-works
returns-in_ok-ask_drive-in-Drive-clause-works g c = λ had.
    let same : c.as_slice-message.result.now ≡ c.args.sent.now.bytes = search rules in
    let a = c.in_ok-ask_drive-in-Drive.ensures.asks c.args.stands had in
    let asks = a.1 in (a.0, rw c.in-Drive.is (rw same at asks), a.2)

pub returns-in_err-ask_drive-in-Drive-clause-cuts : goal.returns-in_err-ask_drive-in-Drive-clause-cuts
returns-in_err-ask_drive-in-Drive-clause-cuts g c =
    let error : c.from_residual.result ≡ Err c.in_err-ask_drive-in-Drive.field-0.0 = search rules in
    let same : c.as_slice-message.result.now ≡ c.args.sent.now.bytes = search rules in
    rw error (λ had.
    let x = c.in_err-ask_drive-in-Drive.ensures.cuts c.args.stands had in
    let cuts = x.2 in (x.0, x.1, rw c.in-Drive.is (rw same at cuts), x.3))

pub returns-in_ok-still-in-Server-clause-works : goal.returns-in_ok-still-in-Server-clause-works
returns-in_ok-still-in-Server-clause-works g c = λ had. (
  had,
  rw c.in-Server.is (search rules),
  from_none g.H.MetadataServer had c.args.server.now (g.met.H.MetadataServer.kept_stays c.args.server.now) c.requires.goes_on,
)

pub returns-in_err-still-in-Server-clause-cuts : goal.returns-in_err-still-in-Server-clause-cuts
returns-in_err-still-in-Server-clause-cuts g c =
    let error : c.from_residual-in_err-still-in-Server.result ≡ Err Memory = search rules in
    let none = c.in_err-still-in-Server.ensures.none in
    rw error (λ had. (
      had,
      [],
      rw c.in-Server.is (rw (none.0, none.1) (refl, refl, refl)),
      cuts_none g.H.MetadataServer _ had c.args.server.now (g.met.H.MetadataServer.kept_stays c.args.server.now)
          c.requires.goes_on (λ e. cc e),
    ))

pub returns-in_ok-still-in-Client-clause-works : goal.returns-in_ok-still-in-Client-clause-works
returns-in_ok-still-in-Client-clause-works g c = λ had. (
  had,
  rw c.in-Client.is (search rules),
  from_none g.H.MetadataServer had c.args.server.now (g.met.H.MetadataServer.kept_stays c.args.server.now) c.requires.goes_on,
)

pub returns-in_err-still-in-Client-clause-cuts : goal.returns-in_err-still-in-Client-clause-cuts
returns-in_err-still-in-Client-clause-cuts g c =
    let error : c.from_residual-in_err-still-in-Client.result ≡ Err Memory = search rules in
    let none = c.in_err-still-in-Client.ensures.none in
    rw error (λ had. (
      had,
      [],
      rw c.in-Client.is (rw (none.0, none.1) (refl, refl, refl)),
      cuts_none g.H.MetadataServer _ had c.args.server.now (g.met.H.MetadataServer.kept_stays c.args.server.now)
          c.requires.goes_on (λ e. cc e),
    ))
