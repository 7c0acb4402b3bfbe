use Rattle.std.proofs.Common.{◌≡◌, drop}
use Rattle.client_rules.specs.Layouts.{any_secured}
use Rattle.held_grants.proofs.credentials.any_secured.Given as goal

abbrev pub invariant-loop-cred : goal.invariant-loop-cred
invariant-loop-cred l = any_secured (drop l.cred-index l.fn.creds) ≡ any_secured l.fn.creds
