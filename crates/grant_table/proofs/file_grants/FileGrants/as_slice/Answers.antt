use Rattle.std.proofs.Common.{sym}
use Rattle.server_rules.proofs.GrantLaws.{apart_same}
use Rattle.grant_table.proofs.file_grants.FileGrants.as_slice.Goals as goal

pub returns-clause-apart : goal.returns-clause-apart
returns-clause-apart c = apart_same _ _ (sym c.self.view_is) c.self.invariant
