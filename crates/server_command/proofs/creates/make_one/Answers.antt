use Rattle.std.proofs.Common.{rules, ◌≡◌, refl}
use Rattle.server_command.proofs.KeptLaws.{from_none}
use Rattle.server_command.proofs.creates.make_one.Goals as goal

pub returns-in-Drive-clause-makes : goal.returns-in-Drive-clause-makes
returns-in-Drive-clause-makes g c =
    let same : c.as_slice.result.now ≡ c.args.sent.now.bytes = search rules in
    rw c.in-Drive.is (rw same at c.make_on.ensures.makes)

pub returns-in-Drive-clause-stops : goal.returns-in-Drive-clause-stops
returns-in-Drive-clause-stops g c =
    let same : c.as_slice.result.now ≡ c.args.sent.now.bytes = search rules in
    rw c.in-Drive.is (rw same at c.make_on.ensures.stops)

pub returns-in-Server : goal.returns-in-Server
returns-in-Server g c = record {
  makes = λ had. (
    had,
    search rules,
    from_none g.H.MetadataServer had c.args.server.now (g.met.H.MetadataServer.kept_stays c.args.server.now) c.requires.goes_on,
  );
  stops = tt;
  addresses = (refl, refl);
}
