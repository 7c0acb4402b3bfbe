use Rattle.std.proofs.Common.{rules, ◌≡◌, true, false, refl}
use Rattle.server_command.proofs.KeptLaws.{from_none}
use Rattle.stored_server.specs.Lacking.{has_file}
use Rattle.stored_server.proofs.lacking.make_lacking_one.Goals as goal

pub returns-then-has_file-clause-makes : goal.returns-then-has_file-clause-makes
returns-then-has_file-clause-makes g c =
    let there : has_file (g.H.MetadataServer.server c.args.server.now) c.args.file.now ≡ true = search rules in
    λ had. (
      had,
      rw there refl,
      from_none g.H.MetadataServer had c.args.server.now (g.met.H.MetadataServer.kept_stays c.args.server.now) c.requires.goes_on,
    )

pub returns-in-Ok-clause-makes : goal.returns-in-Ok-clause-makes
returns-in-Ok-clause-makes g c =
    let lacks : has_file (g.H.MetadataServer.server c.args.server.now) c.args.file.now ≡ false = search rules in
    λ had.
    let x = c.in-Ok.ensures.makes had in
    let makes = x.1 in (x.0, rw lacks makes, x.2)
