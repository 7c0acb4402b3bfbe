-- What an answer of the server says.
use Rattle.std.specs.Prelude.{ℕ, Option, Some, None}
use Rattle.layout_ops.specs.declared.statuses.TheConstants.{NFS4_OK, NFS4ERR_LAYOUTTRYLATER}
use Rattle.layout_ops.specs.declared.results.LayoutGetOk.{LayoutGetOk}
use Rattle.layout_ops.specs.declared.results.LayoutGetResult.{LayoutGetResult}
use Rattle.layout_ops.specs.declared.results.LayoutGetResult.TheVariants as get
use Rattle.layout_ops.specs.declared.results.LayoutCommitResult.{LayoutCommitResult}
use Rattle.layout_ops.specs.declared.results.LayoutCommitResult.TheVariants as commit
use Rattle.layout_ops.specs.declared.results.LayoutReturnResult.{LayoutReturnResult}
use Rattle.layout_ops.specs.declared.results.LayoutReturnResult.TheVariants as return
use Rattle.layout_ops.specs.declared.results.Results.{Results}
use Rattle.layout_ops.specs.declared.results.Results.TheVariants as results

-- the status of a LAYOUTGET
abbrev pub get_status : LayoutGetResult → ℕ
get_status (get.Granted ok) = NFS4_OK
get_status (get.TryLater signal) = NFS4ERR_LAYOUTTRYLATER
get_status (get.Refused status) = status

-- of a LAYOUTCOMMIT
abbrev pub commit_status : LayoutCommitResult → ℕ
commit_status (commit.Committed size) = NFS4_OK
commit_status (commit.Refused status) = status

-- of a LAYOUTRETURN
abbrev pub return_status : LayoutReturnResult → ℕ
return_status (return.Returned state) = NFS4_OK
return_status (return.Refused status) = status

-- whichever was answered
abbrev pub status_of : Results → ℕ
status_of (results.LayoutGet r) = get_status r
status_of (results.LayoutCommit r) = commit_status r
status_of (results.LayoutReturn r) = return_status r

-- the layouts that a LAYOUTGET gave; no other operation gives any
abbrev pub layouts_in : Results → Option LayoutGetOk
layouts_in (results.LayoutGet (get.Granted ok)) = Some ok
layouts_in r = None
