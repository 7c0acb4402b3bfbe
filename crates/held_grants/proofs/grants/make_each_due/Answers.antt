use Rattle.std.proofs.Common.{sym, ◌∙◌}
use Rattle.std.specs.Map.Iter.{deref_pair}
use Rattle.std.proofs.lemmas.Map.Iter.{rest_all}
use Rattle.held_grants.proofs.FileMaps.{due_end}
use Rattle.held_grants.proofs.grants.make_each_due.Goals as goal

pub returns : goal.returns
returns c = sym (due_end c.loop-held.dues _ (rest_all deref_pair _ _ c.next.result c.in-None.is c.next.ensures.steps))
    ∙ c.loop-held.invariant
