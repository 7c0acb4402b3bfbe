use Rattle.server_rules.proofs.GrantLaws.{apart_same}
use Rattle.grant_table.proofs.GrantLists.{apart_without}
use Rattle.grant_table.proofs.file_grants.FileGrants.remove.Goals as goal

pub invariant_of-self : goal.invariant_of-self
invariant_of-self c =
    apart_same _ _ c.take_out.ensures.left (apart_without c.args.number c.self.inside.grants.items c.self.invariant)
