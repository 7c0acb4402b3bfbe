-- Why a grant isn't added to those of its file.
use Rattle.std.specs.Prelude.{List, Option, Some, None, find}
use Rattle.server_rules.specs.declared.grants.Grant.{Grant}
use Rattle.server_rules.specs.Grants.{conflicts, grant_of}
use Rattle.grant_table.specs.declared.file_grants.GrantErr.{GrantErr}
use Rattle.grant_table.specs.declared.file_grants.GrantErr.TheVariants.{Conflict, Twice}

-- the client has a grant already
abbrev pub twice : Option Grant → Option GrantErr
twice None = None
twice (Some own) = Some Twice

-- a grant conflicts; else the client may have one already
abbrev pub conflict_or : Option Grant → Option Grant → Option GrantErr
conflict_or (Some held) own = Some (Conflict held.client)
conflict_or None own = twice own

-- None where it is added, unless there is no memory
abbrev pub refusal : List Grant → Grant → Option GrantErr
refusal gs g = conflict_or (find (conflicts g) gs) (grant_of gs g.client)
