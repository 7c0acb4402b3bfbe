use Rattle.std.proofs.Common.{rules, refl, suc, inl, inr}
use Rattle.client_command.specs.Exchanges.{dealing}
use Rattle.client_command.proofs.DealingLaws.{all_worked, cuts_from, loses_from, turn_from}
use Rattle.client_command.proofs.exchanges.deal.Goals as goal

pub rounds-init : goal.rounds-init
rounds-init g c = (0, refl, (refl, refl))

pub rounds-preserved : goal.rounds-preserved
rounds-preserved g c = (
  suc c.rounds.invariant.0,
  (_, c.rounds.invariant.1, turn_from _ _ _ _ (search rules) (search rules) c.in-Ok.ensures.works),
  search rules,
)

pub returns-then-is_empty-clause-works : goal.returns-then-is_empty-clause-works
returns-then-is_empty-clause-works g c = all_worked c.rounds.invariant.0 _ _ _ _ _ _ c.rounds.invariant.1 (search rules)

pub returns-in-Err-clause-loses : goal.returns-in-Err-clause-loses
returns-in-Err-clause-loses g c = λ is. (
  c.rounds.invariant.0,
  dealing c.rounds.core c.rounds.waiting c.rounds.notices (g.L.Links.told c.rounds.links) (g.L.Links.faults c.rounds.links),
  c.rounds.invariant.1,
  c.work_round.new.waiting,
  loses_from _ _ _ _ (search rules) (search rules) (c.in-Err.ensures.loses is),
)

pub returns-in-Err-clause-cuts : goal.returns-in-Err-clause-cuts
returns-in-Err-clause-cuts g c = λ is. (
  c.rounds.invariant.0,
  dealing c.rounds.core c.rounds.waiting c.rounds.notices (g.L.Links.told c.rounds.links) (g.L.Links.faults c.rounds.links),
  c.rounds.invariant.1,
  inr (cuts_from _ _ _ _ _ (search rules) (search rules) (c.in-Err.ensures.cuts is)),
)

pub returns-clause-cuts : goal.returns-clause-cuts
returns-clause-cuts g c = λ is. (c.rounds.invariant.0, _, c.rounds.invariant.1, inl (refl, refl))
