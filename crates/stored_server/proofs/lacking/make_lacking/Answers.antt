use Rattle.std.proofs.Common.{rules, [], get_or, refl}
use Rattle.std.proofs.lemmas.List.{take_all}
use Rattle.std.proofs.lemmas.Option.{slice_get-get_or}
use Rattle.osd_lists.proofs.Slices.{take_more}
use Rattle.osd_bytes.specs.Asking.{ends_of}
use Rattle.cluster_text.specs.declared.cluster.ClusterFile.{ClusterFile}
use Rattle.server_command.proofs.KeptLaws.{cuts_then, from_none, from_then}
use Rattle.server_command.proofs.WorkLaws.{turn_more}
use Rattle.stored_server.specs.Lacking.{MakesLacking}
use Rattle.stored_server.proofs.LackingLaws.{lacking_stops}
use Rattle.stored_server.proofs.lacking.make_lacking.Goals as goal

-- in the place of a file past the end of a list
abbrev no_file : ClusterFile
no_file = record { number = 0; map = record { comps = 0; unit = 0; width = 0; depth = 0; mirrors = 0; algorithm = 0 } }

pub make_lacking_one-requires-clause-goes_on : goal.make_lacking_one-requires-clause-goes_on
make_lacking_one-requires-clause-goes_on g c =
    let so_far = c.loop-i.invariant.0 [] in (so_far.2).went.goes_on

pub returns-clause-makes : goal.returns-clause-makes
returns-clause-makes g c = rw (take_all c.loop-i.i c.args.files.now (search rules)) at c.loop-i.invariant.0

pub returns-in-Err-clause-stops : goal.returns-in-Err-clause-stops
returns-in-Err-clause-stops g c = λ had.
    let first = c.loop-i.invariant.0 had in
    let x = c.in-Err.ensures.stops first.0 in (
      x.0,
      x.1,
      lacking_stops c.args.files.now c.loop-i.i (get_or c.args.files.now c.loop-i.i no_file) _ _
          (g.H.MetadataServer.server c.make_lacking_one.new.server)
          (ends_of (g.L.Links.told c.make_lacking_one.new.links) (g.L.Links.faults c.make_lacking_one.new.links)
          (g.C.Clock.times c.make_lacking_one.new.clock))
          c.in-Err.stop x.0 x.1
          (slice_get-get_or c.args.files.now c.loop-i.i no_file c.loop-i-test.true) first.1 c.in-Err.ensures.lacks x.2,
      cuts_then g.H.MetadataServer _ had first.0 x.0 x.1 c.args.server.now c.loop-i.server c.make_lacking_one.new.server first.2
          x.3,
    )

pub loop-i-preserved : goal.loop-i-preserved
loop-i-preserved g c =
    let file = get_or c.args.files.now c.loop-i.i no_file in (
      λ had.
          let first = c.loop-i.invariant.0 had in
          let more = c.in-Ok.ensures.makes first.0 in (
            more.0,
            rw (take_more c.args.files.now c.loop-i.i file
                (slice_get-get_or c.args.files.now c.loop-i.i no_file c.loop-i-test.true))
                (turn_more MakesLacking _ file _ _ _ first.1 more.1),
            from_then g.H.MetadataServer had first.0 more.0 c.args.server.now c.loop-i.server c.make_lacking_one.new.server
                first.2 more.2,
          ),
      search rules,
    )

pub loop-i-init : goal.loop-i-init
loop-i-init g c = (
  λ had. (
    had,
    refl,
    from_none g.H.MetadataServer had c.args.server.now (g.met.H.MetadataServer.kept_stays c.args.server.now) c.requires.goes_on,
  ),
  search rules,
)
