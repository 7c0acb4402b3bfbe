-- Why a LAYOUTCOMMIT is answered as it is, in the words of the file's book.
use Rattle.std.specs.Prelude.{◌≡◌, ◌<◌, ◌≤◌, ◌+◌, ◌*◌, ℕ, true, Option, Some, None, max}
use Rattle.data_map.specs.Striping.{stripe_length}
use Rattle.data_map.specs.declared.ranges.TheConstants.{MAX_FILE_SIZE}
use Rattle.layout_ops.specs.declared.results.LayoutCommitResult.TheVariants as commit
use Rattle.layout_ops.specs.declared.results.Results.{Results}
use Rattle.layout_ops.specs.declared.results.Results.TheVariants as results
use Rattle.layout_ops.specs.declared.statuses.TheConstants.{NFS4ERR_BADLAYOUT, NFS4ERR_INVAL}
use Rattle.server_rules.specs.Laws.{In}
use Rattle.world_history.specs.ServerNames.{Kept, Grant}

-- a live grant of the client
pub record HasGrant (f : Kept) (client : ℕ) : Type 0 where
  pub grant : Grant
  pub live : In grant f.grants
  pub client_is : grant.client ≡ client

-- the last offset is inside the stripes of a grant that is extending, and a file may be so long
pub record MayCommit (f : Kept) (g : Grant) (last : ℕ) : Type 0 where
  pub extending : g.extending ≡ true
  pub from : g.first * stripe_length f.map ≤ last
  pub upto : last < g.end * stripe_length f.map
  pub limit : last < MAX_FILE_SIZE

-- What it comes to, of the file as the book has it when the request comes and behind its step: the client has no grant; the
-- last offset is committed, and the size is at least so much; or it may not be, or there is none. Nothing else changes.
pub data Commits (before behind : Kept) (client : ℕ) : (last : Option ℕ) → (detail : ℕ) → Results → Type 0 where
  NoGrant : (last : Option ℕ) → (HasGrant before client → ⊥) → behind ≡ before
      → Commits before behind client last 0 (results.LayoutCommit (commit.Refused NFS4ERR_BADLAYOUT))
  Sizes : (last : ℕ) → (h : HasGrant before client) → MayCommit before h.grant last
      → behind ≡ record before { size = max before.size (last + 1) }
      → Commits before behind client (Some last) 0 (results.LayoutCommit (commit.Committed None))
  Wrong : (last : Option ℕ) → HasGrant before client
      → ((h : HasGrant before client) (n : ℕ) → last ≡ Some n → MayCommit before h.grant n → ⊥) → behind ≡ before
      → Commits before behind client last 0 (results.LayoutCommit (commit.Refused NFS4ERR_INVAL))
