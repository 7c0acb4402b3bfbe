use Rattle.std.proofs.Common.{◌∙◌, get_or, arith, ◌<◌, ℕ, w8}
use Rattle.std.proofs.lemmas.Simd.{Each1-get_or, below_from_Fits}
use Rattle.gf256.proofs.LaneLaws.{lane}
use Rattle.gf256.proofs.lanes.ProductTables.times.Goals as goal

pub returns : goal.returns
returns c = λ e tables. record {
  long = c.sum.ensures.long;
  each = λ k lt. c.sum.ensures.each k lt
      ∙ lane e k (get_or c.args.v k 0) c.args.self.now c.low_half.result c.high_half.result c.looked_up-by_low.result
      c.looked_up-by_high.result lt
      (Each1-get_or (λ (x : ℕ). x < 256) c.args.v k 0 (omega arith) (below_from_Fits w8 c.args.v c.fits-v.1)) tables
      (c.low_half.ensures.each k lt) (c.high_half.ensures.each k lt) (c.looked_up-by_low.ensures.each k lt)
      (c.looked_up-by_high.ensures.each k lt);
}
