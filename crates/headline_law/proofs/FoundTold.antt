-- A grant that the server tells a client is live behind the request, and no other answer gives a layout.
use Rattle.std.proofs.Common.{◌≡◌, ◌==◌, ℕ, Bool, true, false, None, refl, if◌then◌else◌}
use Rattle.layout_ops.specs.declared.results.LayoutGetResult.TheVariants as get
use Rattle.layout_ops.specs.declared.results.Results.TheVariants as results
use Rattle.layout_ops.specs.declared.statuses.TheConstants.{NFS4ERR_LAYOUTTRYLATER}
use Rattle.server_rules.specs.Answers.{result_of}
use Rattle.client_rules.specs.Results.{layouts_in}
use Rattle.world_history.specs.ServerNames.{RequestArgs, Get, Commit, Return}

-- a status alone gives no layout
pub ungiven : (a : RequestArgs) (status : ℕ) → layouts_in (result_of a status) ≡ None
ungiven (Get iomode offset count) status = either (status == NFS4ERR_LAYOUTTRYLATER)
  where
    either : (b : Bool) → layouts_in (results.LayoutGet (if b then get.TryLater false else get.Refused status)) ≡ None
    either true = refl
    either false = refl
ungiven (Commit last) status = refl
ungiven (Return report) status = refl
