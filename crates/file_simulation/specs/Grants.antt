-- The grants of the machine of a file, beside those that the server keeps and those that clients hold.
use Rattle.std.specs.Prelude.{◌≡◌, ℕ, ◌&&◌, Bool, nat_le, nat_lt, slice_get, is_none, Some}
use Rattle.data_map.specs.declared.check.RawMap.{RawMap}
use Rattle.fence_law.specs.State as machine
use Rattle.world_history.specs.ServerNames as server_rules
use Rattle.world_history.specs.ClientNames.{Held, Listed, Credential}
use Rattle.exchange_law.specs.Held.{Agrees}
use Rattle.plan_law.specs.FileLayout.{stripe_of_column}

-- the column is of one of the stripes from `first` to below `end`
abbrev pub covers_column : RawMap → (first end x : ℕ) → Bool
covers_column m first end x = nat_le first (stripe_of_column m x) && nat_lt (stripe_of_column m x) end

-- the machine's grant x is grant g of the server, for the columns of the same stripes
pub record GrantIs (m : RawMap) (g : server_rules.Grant) (x : machine.Grant) : Type 0 where
  pub number : x.number ≡ g.number
  pub rw : x.rw ≡ g.rw
  pub extending : x.extending ≡ g.extending
  pub covers : (q : ℕ) → x.covers q ≡ covers_column m g.first g.end q

-- The machine's grant x is the one that a client holds: it leaves out the components that have no credential, and its tag is
-- that of each capability.
pub record LayoutIs (m : RawMap) (x : machine.Grant) (h : Held) : Type 0 where
  pub given : server_rules.Grant
  pub same : GrantIs m given x
  pub agrees : Agrees m given h
  pub left : (k : ℕ) (l : Listed) → slice_get h.components k ≡ Some l → x.left k ≡ is_none l.credential
  pub tag : (k : ℕ) (l : Listed) (c : Credential) → slice_get h.components k ≡ Some l → l.credential ≡ Some c →
      c.capability.tag ≡ x.tag
