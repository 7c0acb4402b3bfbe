-- LAYOUTCOMMIT: the last offset written makes the size.
use Rattle.std.specs.Prelude.{ℕ, Bool, Option, Some, None, ◌+◌, ◌*◌, ◌&&◌, nat_lt, nat_le, max, if◌then◌else◌}
use Rattle.data_map.specs.Striping.{stripe_length}
use Rattle.data_map.specs.declared.ranges.TheConstants.{MAX_FILE_SIZE}
use Rattle.layout_ops.specs.declared.statuses.TheConstants.{NFS4_OK, NFS4ERR_BADLAYOUT, NFS4ERR_INVAL}
use Rattle.server_rules.specs.State.{Grant, Kept}
use Rattle.server_rules.specs.Grants.{grant_of}
use Rattle.server_rules.specs.Going.{Going, keeping}
use Rattle.server_rules.specs.Served.{Served, says}

-- what a commit comes to
pub data Committed : Type 0 where
  NoGrant : Committed
  Wrong : Committed
  Sizes : (size : ℕ) → Committed

-- the last offset may be committed under the grant
unfoldable pub may_commit : (stripe : ℕ) → Grant → (last : ℕ) → Bool
may_commit stripe g last =
    g.extending && (nat_le (g.first * stripe) last && (nat_lt last (g.end * stripe) && nat_lt last MAX_FILE_SIZE))

-- the row that applies under the client's grant
unfoldable pub commit_under : (stripe size : ℕ) → Option ℕ → Option Grant → Committed
commit_under stripe size last None = NoGrant
commit_under stripe size None (Some g) = Wrong
commit_under stripe size (Some last) (Some g) = if may_commit stripe g last then Sizes (max size (last + 1)) else Wrong

-- the row that applies on the file
abbrev pub commit_row : Kept → (client : ℕ) → Option ℕ → Committed
commit_row f client last = commit_under (stripe_length f.map) f.size last (grant_of f.grants client)

-- what the row does
abbrev pub by_commit : Going → Committed → Served
by_commit go NoGrant = says go NFS4ERR_BADLAYOUT 0
by_commit go Wrong = says go NFS4ERR_INVAL 0
by_commit go (Sizes size) = says (keeping go (record go.file.kept { size = size })) NFS4_OK 0

-- a LAYOUTCOMMIT on a file
unfoldable pub commits : Going → (client : ℕ) → Option ℕ → Served
commits go client last = by_commit go (commit_row go.file.kept client last)
