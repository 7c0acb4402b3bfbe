use Rattle.std.proofs.Common.{◌≡◌, drop, length}
use Rattle.client_rules.specs.Layouts.{all_listed}
use Rattle.held_grants.specs.Listing.{listed_before}
use Rattle.held_grants.proofs.credentials.all_listed.Given as goal

abbrev pub invariant-loop-cred : goal.invariant-loop-cred
invariant-loop-cred l =
    (listed_before l.all (all_listed (drop l.cred-index l.fn.creds)) ≡ all_listed l.fn.creds) × (length l.all ≡ l.cred-index)
