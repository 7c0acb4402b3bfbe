use Rattle.held_grants.proofs.FileMaps.{got_some, got_none}
use Rattle.held_grants.proofs.grants.HeldGrants.get.Goals as goal

pub returns-clause-some : goal.returns-clause-some
returns-clause-some c = rw (← c.self.view_is) (got_some _ _ _ c.self.invariant c.get.ensures.value)

pub returns-clause-none : goal.returns-clause-none
returns-clause-none c = rw (← c.self.view_is) (got_none _ _ _ c.self.invariant c.get.ensures.value)
