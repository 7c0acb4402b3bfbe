-- What a client holds, beside the grant that the server gave.
use Rattle.std.specs.Prelude.{◌≡◌, ℕ, ◌+◌, ◌*◌, List, [], ◌∷◌, Some, None, min, if◌then◌else◌}
use Rattle.data_map.specs.declared.ranges.TheConstants.{MAX_FILE_SIZE}
use Rattle.data_map.specs.Striping.{stripe_length}
use Rattle.osd_capability.specs.Keys.{key_of}
use Rattle.world_history.specs.ClientNames.{Credential, Listed, Held}
use Rattle.world_history.specs.ServerNames.{RawMap, Component, Grant, Kept, Drive}
use Rattle.server_rules.specs.Commands.{key_at}
use Rattle.server_rules.specs.Layouts.{capability_for, object_of}

-- ---- the components

-- the server's credential of component k under the grant
abbrev pub credential_of : List Drive → Kept → Grant → Component → (k : ℕ) → Credential
credential_of ds f g at k = record {
  drive = at.drive;
  key = key_of (key_at ds at.drive) (capability_for f g at k);
  capability = capability_for f g at k;
}

-- the component with it, or without any where it is missing
abbrev pub listed_at : List Drive → Kept → Grant → Component → (k : ℕ) → Listed
listed_at ds f g at k = record {
  id = object_of at;
  credential = if at.missing then None else Some (credential_of ds f g at k);
}

-- those of the components from number k on
unfoldable pub listed_from : List Drive → Kept → Grant → List Component → (k : ℕ) → List Listed
listed_from ds f g [] k = []
listed_from ds f g (at ∷ cs) k = listed_at ds f g at k ∷ listed_from ds f g cs (k + 1)

-- ---- the grant

-- the client holds this grant of a file with this map, for the same bytes
pub record Agrees (m : RawMap) (g : Grant) (h : Held) : Type 0 where
  pub file : h.file ≡ g.file
  pub number : h.number ≡ g.number
  pub rw : h.reach.rw ≡ g.rw
  pub extending : h.reach.extending ≡ g.extending
  pub first : h.reach.first ≡ g.first * stripe_length m
  pub end : h.reach.end ≡ min (g.end * stripe_length m) MAX_FILE_SIZE
  pub map : h.map ≡ m

-- with the file's size and the server's credentials, as they were when the server gave it
pub record IsGiven (ds : List Drive) (f : Kept) (g : Grant) (h : Held) : Type 0 where
  pub agrees : Agrees f.map g h
  pub size : h.size ≡ f.size
  pub components : h.components ≡ listed_from ds f g f.components 0
  pub count : h.count ≡ 0
