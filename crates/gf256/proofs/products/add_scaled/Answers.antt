use Rattle.std.proofs.Common.{ℕ, ◌+◌, ◌*◌, ◌∙◌, ap, get_or, arith}
use Rattle.std.specs.Prelude.{bit_xor}
use Rattle.gf256.specs.Field.{product}
use Rattle.gf256.proofs.Blocks.{block_stored, sum_lane, all_reached}
use Rattle.gf256.proofs.products.add_scaled.Goals as goal

pub loop-b-preserved : goal.loop-b-preserved
loop-b-preserved c =
    let at : ℕ = 64 * c.loop-b.b in
    let f = λ (k : ℕ). bit_xor (get_or c.args.out.now k 0) (product c.args.c (get_or c.args.src.now k 0)) in
    let products = c.times-product.ensures c.args.c c.new-tables.ensures in
    block_stored f c.args.out.now c.loop-b.out c.store.new.s at _ (λ k. get_or c.sum.result k 0)
    (omega arith) c.loop-b.invariant c.store.ensures (λ k lt.
    sum_lane at k
    (λ (i : ℕ). product c.args.c (get_or c.args.src.now i 0)) c.args.out.now c.loop-b.out c.load-before.result
    c.times-product.result c.sum.result lt c.sum.ensures c.load-before.ensures.lanes
    (products.each k lt ∙ ap (product c.args.c) (c.load.ensures.lanes.each k lt))
    (c.loop-b.invariant.above (at + k) (omega arith)))

pub returns : goal.returns
returns c = all_reached
    (λ (o s : ℕ). bit_xor o (product c.args.c s)) c.args.src.now c.args.out.now c.loop-i.out c.loop-i.i c.requires
    (omega arith) c.loop-i.invariant
