use Rattle.std.proofs.Common.{sym, ◌∙◌}
use Rattle.server_rules.proofs.GrantLaws.{apart_same}
use Rattle.grant_table.proofs.GrantLists.{apart_added}
use Rattle.grant_table.proofs.file_grants.FileGrants.add.Goals as goal

pub invariant_of-self-in_err-push-in-None : goal.invariant_of-self-in_err-push-in-None
invariant_of-self-in_err-push-in-None c = apart_same _ _ c.in_err-push-in-None.ensures.items c.self.invariant

pub invariant_of-self : goal.invariant_of-self
invariant_of-self c =
    let h = rw c.as_slice.ensures.value at c.refusal.ensures in
    apart_same _ _ c.in_ok-push-in-None.ensures.items (apart_added _ _ c.self.invariant (sym h ∙ c.in-None.is))
