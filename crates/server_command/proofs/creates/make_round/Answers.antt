use Rattle.std.proofs.Common.{rules, [], refl, true}
use Rattle.std.proofs.lemmas.List.{take_all}
use Rattle.osd_lists.proofs.Slices.{take_more}
use Rattle.osd_bytes.specs.Asking.{ends_of}
use Rattle.server_command.specs.Messages.{serving}
use Rattle.server_command.specs.Files.{Makes}
use Rattle.server_command.proofs.KeptLaws.{cuts_then, from_none, from_then}
use Rattle.server_command.proofs.MakingLaws.{round_stops}
use Rattle.server_command.proofs.WorkLaws.{turn_more}
use Rattle.server_command.proofs.creates.make_round.Goals as goal

pub make_one-requires-clause-goes_on : goal.make_one-requires-clause-goes_on
make_one-requires-clause-goes_on g c =
    let so_far = c.loop-i.invariant.0 [] in (so_far.2).went.goes_on

pub loop-i-init : goal.loop-i-init
loop-i-init g c = (
  λ had. (
    had,
    refl,
    from_none g.H.MetadataServer had c.args.server.now (g.met.H.MetadataServer.kept_stays c.args.server.now) c.requires.goes_on,
  ),
  search rules,
)

pub loop-i-preserved : goal.loop-i-preserved
loop-i-preserved g c = (
  λ had.
      let first = c.loop-i.invariant.0 had in
      let more = c.in-Ok.ensures.makes first.0 in (
        more.0,
        rw (take_more c.args.round.now c.loop-i.i c.get.result.now (search rules))
            (turn_more Makes _ c.get.result.now _ _ _ first.1 more.1),
        from_then g.H.MetadataServer had first.0 more.0 c.args.server.now c.loop-i.server c.make_one.new.server first.2 more.2,
      ),
  search rules,
)

pub returns-clause-makes : goal.returns-clause-makes
returns-clause-makes g c = rw (take_all c.loop-i.i c.args.round.now (search rules)) at c.loop-i.invariant.0

pub returns-in-Err-clause-stops : goal.returns-in-Err-clause-stops
returns-in-Err-clause-stops g c = λ had.
    let first = c.loop-i.invariant.0 had in
    let x = c.in-Err.ensures.stops first.0 in (
      x.0,
      x.1,
      round_stops c.args.round.now c.loop-i.i c.get.result.now _ _
          (λ has. serving (g.H.MetadataServer.server c.make_one.new.server) c.make_one.new.waiting true has
          (ends_of (g.L.Links.told c.make_one.new.links) (g.L.Links.faults c.make_one.new.links)
          (g.C.Clock.times c.make_one.new.clock)))
          (ends_of (g.L.Links.told c.make_one.new.links) (g.L.Links.faults c.make_one.new.links)
          (g.C.Clock.times c.make_one.new.clock))
          c.in-Err.stop x.0 x.1 (search rules) first.1 x.2,
      cuts_then g.H.MetadataServer _ had first.0 x.0 x.1 c.args.server.now c.loop-i.server c.make_one.new.server first.2 x.3,
    )
