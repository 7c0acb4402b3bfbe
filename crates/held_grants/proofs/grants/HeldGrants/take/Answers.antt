use Rattle.std.proofs.Common.{sym, ◌∙◌}
use Rattle.held_grants.proofs.FileMaps.{found, left_there, by_file_left, put_back_there}
use Rattle.held_grants.proofs.grants.HeldGrants.take.Goals as goal

pub invariant_of-self : goal.invariant_of-self
invariant_of-self c = rw c.remove.ensures.entries (by_file_left _ _ c.self.invariant)

pub returns-clause-found : goal.returns-clause-found
returns-clause-found c = rw (← c.self.view_is) (c.remove.ensures.value ∙ found _ _ c.self.invariant)

pub returns-clause-left : goal.returns-clause-left
returns-clause-left c = rw c.remove.ensures.entries (rw (← c.self.view_is) (sym (left_there _ _ c.self.invariant)))

pub returns-clause-back : goal.returns-clause-back
returns-clause-back c = λ h e. rw c.remove.ensures.entries (rw (← c.self.view_is) (put_back_there _ h _ c.self.invariant e))
