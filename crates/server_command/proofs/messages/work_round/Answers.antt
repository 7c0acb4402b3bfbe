use Rattle.std.proofs.Common.{rules, [], refl, ◌≡◌, Err}
use Rattle.std.proofs.lemmas.List.{take_all}
use Rattle.osd_lists.proofs.Slices.{take_more}
use Rattle.server_command.specs.Messages.{Works}
use Rattle.server_command.proofs.KeptLaws.{cuts_then, from_none, from_then}
use Rattle.server_command.proofs.MakingLaws.{stops_at}
use Rattle.server_command.proofs.WorkLaws.{turn_more}
use Rattle.server_command.proofs.messages.work_round.Goals as goal

pub work-requires-clause-goes_on : goal.work-requires-clause-goes_on
work-requires-clause-goes_on g c =
    let so_far = c.loop-i.invariant.0 [] in (so_far.2).went.goes_on

pub loop-i-init : goal.loop-i-init
loop-i-init g c = (
  λ had. (
    had,
    refl,
    from_none g.H.MetadataServer had c.args.server.now (g.met.H.MetadataServer.kept_stays c.args.server.now) c.requires.goes_on,
  ),
  search rules,
)

pub loop-i-preserved : goal.loop-i-preserved
loop-i-preserved g c = (
  λ had.
      let first = c.loop-i.invariant.0 had in
      let more = c.in_ok-stands.ensures.works first.0 in (
        more.0,
        rw (take_more c.args.round.now c.loop-i.i c.get.result.now (search rules))
            (turn_more (Works c.args.sender) _ c.get.result.now _ _ _ first.1 more.1),
        from_then g.H.MetadataServer had first.0 more.0 c.args.server.now c.loop-i.server c.work.new.server first.2 more.2,
      ),
  search rules,
)

pub returns-clause-works : goal.returns-clause-works
returns-clause-works g c = rw (take_all c.loop-i.i c.args.round.now (search rules)) at c.loop-i.invariant.0

pub returns-in_err-stands-clause-cuts : goal.returns-in_err-stands-clause-cuts
returns-in_err-stands-clause-cuts g c =
    let same : c.from_residual.result ≡ Err c.in_err-stands.field-0.0 = search rules in
    rw same (λ had.
    let first = c.loop-i.invariant.0 had in
    let x = c.in_err-stands.ensures.cuts first.0 in (
      x.0,
      x.1,
      stops_at (Works c.args.sender) _ c.args.round.now c.loop-i.i c.get.result.now _ _ (search rules) first.1 x.2,
      cuts_then g.H.MetadataServer _ had first.0 x.0 x.1 c.args.server.now c.loop-i.server c.work.new.server first.2 x.3,
    ))
