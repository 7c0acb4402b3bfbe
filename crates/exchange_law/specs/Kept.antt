-- What a client keeps of a grant.
use Rattle.std.specs.Prelude.{◌≡◌, ℕ, ◌+◌, ◌-◌, ◌*◌, min, length, slice_get, Some}
use Rattle.data_map.specs.declared.ranges.TheConstants.{MAX_FILE_SIZE}
use Rattle.data_map.specs.Check.{IsChecked}
use Rattle.data_map.specs.Striping.{stripe_length}
use Rattle.osd_capability.specs.Layout.{Fits}
use Rattle.client_rules.specs.declared.grants.Credential.{Credential}
use Rattle.client_rules.specs.declared.grants.Listed.{Listed}
use Rattle.client_rules.specs.declared.grants.Held.{Held}
use Rattle.server_rules.specs.declared.files.Component.{Component}
use Rattle.server_rules.specs.declared.files.Kept.{Kept}
use Rattle.server_rules.specs.declared.grants.Grant.{Grant}
use Rattle.server_rules.specs.Layouts.{capability_for, object_of}

-- The client has component k with the object that it had at the server, and with its capability under the grant: the
-- rows that the granted stripes have there.
pub record IsCredentialOf (f : Kept) (g : Grant) (k : ℕ) (l : Listed) (c : Credential) : Type 0 where
  pub at : Component
  pub found : slice_get f.components k ≡ Some at
  pub object : l.id ≡ object_of at
  pub drive : c.drive ≡ at.drive
  pub capability : c.capability ≡ capability_for f g at k
  pub fits : Fits (capability_for f g at k)

-- A grant that is held is one that the server gave on a file: with its map, for the bytes of its stripes as far as a
-- file may have them, and with all components. Those that the layout doesn't list as missing have a credential.
pub record IsGrant (f : Kept) (g : Grant) (h : Held) : Type 0 where
  pub map : h.map ≡ f.map
  pub checked : IsChecked f.map
  pub writes : h.reach.rw ≡ g.rw
  pub first : h.reach.first ≡ g.first * stripe_length f.map
  pub end : h.reach.end
      ≡ min (g.first * stripe_length f.map + (g.end - g.first) * stripe_length f.map) MAX_FILE_SIZE
  pub complete : length h.components ≡ f.map.comps
  pub present : (k : ℕ) (l : Listed) (c : Credential) → slice_get h.components k ≡ Some l → l.credential ≡ Some c →
      IsCredentialOf f g k l c

-- so it is of each grant that this client holds
pub record IsOwnGrant (client : ℕ) (h : Held) : Type 0 where
  pub file : Kept
  pub grant : Grant
  pub client_is : grant.client ≡ client
  pub kept : IsGrant file grant h
