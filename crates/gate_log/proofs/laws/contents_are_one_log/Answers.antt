use Rattle.gate_log.proofs.OneLog.{one_log, broken_is_none, broken_at_one_place}
use Rattle.gate_log.proofs.laws.contents_are_one_log.Goals as goal

pub returns-clause-one : goal.returns-clause-one
returns-clause-one c = one_log

pub returns-clause-broken : goal.returns-clause-broken
returns-clause-broken c = broken_is_none

pub returns-clause-place : goal.returns-clause-place
returns-clause-place c = broken_at_one_place
