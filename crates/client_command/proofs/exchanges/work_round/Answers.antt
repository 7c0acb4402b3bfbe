use Rattle.std.proofs.Common.{rules}
use Rattle.std.proofs.lemmas.List.{take_all}
use Rattle.osd_lists.proofs.Slices.{take_more}
use Rattle.client_command.proofs.DealingLaws.{cuts_at, loses_at, turn_more}
use Rattle.client_command.proofs.exchanges.work_round.Goals as goal

pub loop-i-preserved : goal.loop-i-preserved
loop-i-preserved g c = (
  rw (take_more c.args.round.now c.loop-i.i c.get.result.now (search rules))
      (turn_more _ c.get.result.now _ _ _ c.loop-i.invariant.0 c.in-Ok.ensures.works),
  search rules,
)

pub returns-clause-works : goal.returns-clause-works
returns-clause-works g c = rw (take_all c.loop-i.i c.args.round.now (search rules)) at c.loop-i.invariant.0

pub returns-in-Err-clause-loses : goal.returns-in-Err-clause-loses
returns-in-Err-clause-loses g c = λ is.
    loses_at c.args.round.now c.loop-i.i c.get.result.now _ _ _ (search rules) c.loop-i.invariant.0 (c.in-Err.ensures.loses is)

pub returns-in-Err-clause-cuts : goal.returns-in-Err-clause-cuts
returns-in-Err-clause-cuts g c = λ is.
    cuts_at c.args.round.now c.loop-i.i c.get.result.now _ _ _ _ (search rules) c.loop-i.invariant.0 (c.in-Err.ensures.cuts is)
