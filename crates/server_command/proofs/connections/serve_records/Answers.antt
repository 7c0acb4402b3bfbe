use Rattle.std.proofs.Common.{rules, [], refl, ◌≡◌, Err}
use Rattle.std.proofs.lemmas.List.{take_all}
use Rattle.osd_lists.proofs.Slices.{take_more}
use Rattle.server_command.specs.Messages.{ServesRecord}
use Rattle.server_command.proofs.KeptLaws.{cuts_then, from_none, from_then}
use Rattle.server_command.proofs.MakingLaws.{stops_at}
use Rattle.server_command.proofs.WorkLaws.{turn_more}
use Rattle.server_command.proofs.connections.serve_records.Goals as goal

pub serve_record-requires-clause-goes_on : goal.serve_record-requires-clause-goes_on
serve_record-requires-clause-goes_on g c =
    let so_far = c.loop-i.invariant.0 [] in (so_far.2).went.goes_on

pub loop-i-init : goal.loop-i-init
loop-i-init g c = (
  λ had. (
    had,
    refl,
    from_none g.H.MetadataServer had c.args.server.now (g.met.H.MetadataServer.kept_stays c.args.server.now) c.requires.goes_on,
  ),
  search rules,
)

pub loop-i-preserved : goal.loop-i-preserved
loop-i-preserved g c = (
  λ had.
      let first = c.loop-i.invariant.0 had in
      let more = c.in_ok-stands.ensures.serves first.0 in (
        more.0,
        rw (take_more c.args.records.now c.loop-i.i c.as_slice.result.now (search rules))
            (turn_more ServesRecord _ c.as_slice.result.now _ _ _ first.1 more.1),
        from_then g.H.MetadataServer had first.0 more.0 c.args.server.now c.loop-i.server c.serve_record.new.server first.2
            more.2,
      ),
  search rules,
)

pub returns-clause-serves : goal.returns-clause-serves
returns-clause-serves g c = rw (take_all c.loop-i.i c.args.records.now (search rules)) at c.loop-i.invariant.0

pub returns-in_err-stands-clause-cuts : goal.returns-in_err-stands-clause-cuts
returns-in_err-stands-clause-cuts g c =
    let same : c.from_residual.result ≡ Err c.in_err-stands.field-0.0 = search rules in
    rw same (λ had.
    let first = c.loop-i.invariant.0 had in
    let x = c.in_err-stands.ensures.cuts first.0 in (
      x.0,
      x.1,
      stops_at ServesRecord _ c.args.records.now c.loop-i.i c.as_slice.result.now _ _ (search rules) first.1 x.2,
      cuts_then g.H.MetadataServer _ had first.0 x.0 x.1 c.args.server.now c.loop-i.server c.serve_record.new.server first.2 x.3,
    ))
