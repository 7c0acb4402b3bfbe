use Rattle.std.proofs.Common.{◌<◌, ℕ, arith, w8}
use Rattle.std.proofs.lemmas.Simd.{Each1-get_or, below_from_Fits}
use Rattle.gf256.proofs.LaneLaws.{doubled_lanes}
use Rattle.gf256.proofs.lanes.doubled.Goals as goal

pub returns : goal.returns
returns c = doubled_lanes c.args.v c.fits-v.0
    (λ k lt. Each1-get_or (λ (x : ℕ). x < 256) c.args.v k 0 (omega arith) (below_from_Fits w8 c.args.v c.fits-v.1))
