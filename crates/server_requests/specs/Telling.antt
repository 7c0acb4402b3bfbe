-- What an answer says, as the code has it.
use Rattle.std.specs.Prelude.{ℕ, Option, Some, None, ◌≢◌, ⊤}
use Rattle.layout_ops.specs.declared.statuses.TheConstants.{NFS4_OK}
use Rattle.server_rules.specs.declared.requests.RequestArgs.{RequestArgs}
use Rattle.server_rules.specs.declared.requests.RequestArgs.TheVariants.{Get, Commit, Return}
use Rattle.server_rules.specs.declared.grants.Grant.{Grant}
use Rattle.server_rules.specs.Served.{Told as ToldRule}
use Rattle.server_requests.specs.Bounds.{IsLow}
use Rattle.server_requests.specs.declared.answers.Told.{Told}

abbrev pub told_rule : Told → ToldRule
told_rule t = record { status = t.status; detail = t.detail; grant = t.grant }

-- a request may be answered by the status alone: a LAYOUTGET only where it is refused
abbrev pub IsAnswer : RequestArgs → (status : ℕ) → Type 0
IsAnswer (Get iomode offset count) status = status ≢ NFS4_OK
IsAnswer (Commit last) status = ⊤
IsAnswer (Return report) status = ⊤

abbrev pub IsGiven : RequestArgs → (status : ℕ) → Option Grant → Type 0
IsGiven args status None = IsAnswer args status
IsGiven args status (Some g) = IsLow g

-- a request may be answered so: by a layout of stripes of a file, or by the status alone
abbrev pub IsTold : RequestArgs → Told → Type 0
IsTold args t = IsGiven args t.status t.grant
