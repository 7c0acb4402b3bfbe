use Rattle.std.proofs.Common.{◌≡◌, ◌++◌, ℕ, List, drop, length}
use Rattle.std.specs.List.{AllByRecursion}
use Rattle.layout_types.specs.declared.cred.ObjectCred.{ObjectCred}
use Rattle.server_rules.specs.declared.files.Kept.{Kept}
use Rattle.server_rules.specs.declared.grants.Grant.{Grant}
use Rattle.server_rules.specs.declared.server.Drive.{Drive}
use Rattle.server_rules.specs.Layouts.{credentials_from}
use Rattle.server_requests.specs.Bounds.{IsCredential}
use Rattle.server_requests.proofs.layout_answer.credentials.Given as goal

-- the first ones are listed
pub record Lists (ds : List Drive) (f : Kept) (g : Grant) (list : List ObjectCred) (component index : ℕ) : Type 0 where
  pub all : list ++ credentials_from ds f g (drop index f.components) component ≡ credentials_from ds f g f.components 0
  pub place : component ≡ index
  pub many : length list ≡ index
  pub each : AllByRecursion IsCredential list

abbrev pub invariant-loop-at : goal.invariant-loop-at
invariant-loop-at l = Lists l.fn.drives l.fn.kept l.fn.grant l.list l.component l.at-index
