-- What stays within the bounds of types and messages.
use Rattle.std.specs.Prelude.{ℕ, List, ◌≤◌, ◌≡◌, length, if◌then◌else◌}
use Rattle.std.specs.List.{AllByRecursion}
use Rattle.data_map.specs.declared.ranges.TheConstants.{MAX_FILE_SIZE}
use Rattle.layout_types.specs.declared.cred.ObjectCred.{ObjectCred}
use Rattle.layout_types.specs.declared.objid.TheConstants.{DEVICE_ID_BYTES}
use Rattle.server_rules.specs.declared.limits.TheConstants.{MAX_FILE_COMPONENTS}
use Rattle.server_rules.specs.declared.files.Kept.{Kept}
use Rattle.server_rules.specs.declared.grants.Grant.{Grant}
use Rattle.server_rules.specs.declared.server.Drive.{Drive}
use Rattle.server_rules.specs.declared.files.Component.{Component}
use Rattle.server_rules.specs.Layouts.{credential, no_credential}

-- a grant's stripes are those of a file
pub record IsLow (g : Grant) : Type 0 where
  pub rises : g.first ≤ g.end
  pub end : g.end ≤ MAX_FILE_SIZE

-- a credential's parts are as long as one of these has them
pub record IsCredential (c : ObjectCred) : Type 0 where
  pub device : length c.oc_object_id.oid_device_id ≡ DEVICE_ID_BYTES
  pub key : length c.oc_capability_key ≤ 32
  pub capability : length c.oc_capability ≤ 96

-- there are no more credentials than a file has components
pub record IsSmall (cs : List ObjectCred) : Type 0 where
  pub few : length cs ≤ MAX_FILE_COMPONENTS
  pub each : AllByRecursion IsCredential cs

-- the credential of a component; that of a missing one has no capability
abbrev pub listed : List Drive → Kept → Grant → Component → (k : ℕ) → ObjectCred
listed ds f g at k = if at.missing then no_credential at else credential ds f g at k
