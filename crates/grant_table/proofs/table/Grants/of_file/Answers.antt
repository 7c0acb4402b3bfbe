use Rattle.std.proofs.Common.{sym, ap}
use Rattle.server_rules.proofs.GrantLaws.{apart_none, apart_same}
use Rattle.grant_table.specs.Tables.{or_none}
use Rattle.grant_table.proofs.table.Grants.of_file.Goals as goal

pub returns-in-Some-clause-apart : goal.returns-in-Some-clause-apart
returns-in-Some-clause-apart c =
    rw (← c.self.view_is) (apart_same _ _ (ap or_none (sym c.in-Some.ensures.value)) c.as_slice.ensures.apart)

pub returns-in-None-clause-apart : goal.returns-in-None-clause-apart
returns-in-None-clause-apart c = rw (← c.self.view_is) (apart_same _ _ (ap or_none (sym c.in-None.ensures.value)) apart_none)
