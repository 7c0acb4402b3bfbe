use Rattle.std.proofs.Common.{rules, ◌≡◌, [], false, true, refl, suc}
use Rattle.osd_bytes.specs.Asking.{ends_of}
use Rattle.server_command.specs.Messages.{serving}
use Rattle.server_command.specs.Files.{Makes}
use Rattle.server_command.proofs.KeptLaws.{cuts_then, from_none, from_then}
use Rattle.server_command.proofs.MakingLaws.{all_stops, makes_end}
use Rattle.server_command.proofs.WorkLaws.{all_worked, round_from, some_wait}
use Rattle.server_command.proofs.creates.make_all.Goals as goal

pub make_round-requires-clause-goes_on : goal.make_round-requires-clause-goes_on
make_round-requires-clause-goes_on g c =
    let so_far = c.rounds.invariant.0 [] in (so_far.2).went.goes_on

pub rounds-init : goal.rounds-init
rounds-init g c = (
  λ had. (
    had,
    (0, refl),
    from_none g.H.MetadataServer had c.args.server.now (g.met.H.MetadataServer.kept_stays c.args.server.now) c.requires.goes_on,
  ),
  search rules,
)

pub rounds-preserved : goal.rounds-preserved
rounds-preserved g c = (
  λ had.
      let first = c.rounds.invariant.0 had in
      let more = c.in-Ok.ensures.makes first.0 in (
        more.0,
        (suc first.1.0, (_, first.1.1, round_from Makes _ _ _ _ (search rules) (search rules) more.1)),
        from_then g.H.MetadataServer had first.0 more.0 c.args.server.now c.rounds.server c.make_round.new.server first.2 more.2,
      ),
  search rules,
)

pub rounds-smaller : goal.rounds-smaller
rounds-smaller g c =
    let empty : c.is_empty.result ≡ false = search rules in
    let more = c.in-Ok.ensures.makes [] in
    makes_end
    (serving (g.H.MetadataServer.server c.rounds.server) c.rounds.waiting true []
    (ends_of (g.L.Links.told c.rounds.links) (g.L.Links.faults c.rounds.links) (g.C.Clock.times c.rounds.clock)))
    (serving (g.H.MetadataServer.server c.make_round.new.server) c.make_round.new.waiting true more.0
    (ends_of (g.L.Links.told c.make_round.new.links) (g.L.Links.faults c.make_round.new.links)
    (g.C.Clock.times c.make_round.new.clock)))
    (some_wait c.is_empty.result c.rounds.waiting empty c.is_empty.ensures)
    (round_from Makes _ _ _ _ (search rules) (search rules) more.1)

pub returns-clause-makes : goal.returns-clause-makes
returns-clause-makes g c = λ had.
    let first = c.rounds.invariant.0 had in
    (first.0, all_worked Makes first.1.0 _ _ _ _ _ _ first.1.1 (search rules), first.2)

pub returns-in-Err-clause-stops : goal.returns-in-Err-clause-stops
returns-in-Err-clause-stops g c = λ had.
    let first = c.rounds.invariant.0 had in
    let x = c.in-Err.ensures.stops first.0 in (
      x.0,
      x.1,
      all_stops first.1.0 _
          (serving (g.H.MetadataServer.server c.rounds.server) c.rounds.waiting true first.0
          (ends_of (g.L.Links.told c.rounds.links) (g.L.Links.faults c.rounds.links) (g.C.Clock.times c.rounds.clock)))
          c.make_round.new.waiting _ _ (g.H.MetadataServer.server c.make_round.new.server)
          (ends_of (g.L.Links.told c.make_round.new.links) (g.L.Links.faults c.make_round.new.links)
          (g.C.Clock.times c.make_round.new.clock))
          c.in-Err.stop x.0 x.1 first.1.1 (search rules) (search rules) x.2,
      cuts_then g.H.MetadataServer _ had first.0 x.0 x.1 c.args.server.now c.rounds.server c.make_round.new.server first.2 x.3,
    )
