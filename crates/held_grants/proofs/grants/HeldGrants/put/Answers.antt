use Rattle.std.proofs.Common.{sym}
use Rattle.held_grants.proofs.FileMaps.{put_there, by_file_put}
use Rattle.held_grants.proofs.grants.HeldGrants.put.Goals as goal

pub invariant_of-self-2 : goal.invariant_of-self-2
invariant_of-self-2 c = rw c.in_ok-insert.ensures.entries (by_file_put _ _ c.self.invariant)

pub returns-clause-ok : goal.returns-clause-ok
returns-clause-ok c = rw c.in_ok-insert.ensures.entries (rw (← c.self.view_is) (sym (put_there _ _ c.self.invariant)))
