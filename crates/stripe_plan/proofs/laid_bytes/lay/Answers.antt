use Rattle.std.proofs.Common.{◌≡◌, ◌∙◌, ℕ, ◌+◌, ◌-◌, ◌++◌, List, ap, take, drop, length, arith}
use Rattle.std.specs.Prelude.{min, max}
use Rattle.stripe_plan.proofs.Laid.{laid_all, laid_not}
use Rattle.stripe_plan.proofs.laid_bytes.lay.Goals as goal

pub returns-then-start-end : goal.returns-then-start-end
returns-then-start-end c =
    let start : ℕ = c.from-start.result in
    let old : List ℕ = c.args.buffer.now in
    let part : List ℕ = c.split_at-then-start-end.result.0.now in
    let first : start ≡ max c.args.offset c.args.from = c.from-start.ensures ∙ c.max.ensures in
    let last : c.min-end.result ≡ min (c.args.offset + length old) (c.args.from + length c.args.bytes.now) =
    omega (arith, c.min-end.ensures, c.from.ensures, c.from-2.ensures) in
    let skip : start - c.from-then-start-end.result ≡ start - c.args.from =
    ap (λ (z : ℕ). start - z) c.from-then-start-end.ensures in
    let at : start - c.from-then-start-end-2.result ≡ start - c.args.offset =
    ap (λ (z : ℕ). start - z) c.from-then-start-end-2.ensures in
    laid_all c.args.offset c.args.from start c.min-end.result c.args.bytes.now old part c.put_at.new.block first last
    c.if-start-end.true
    (c.split_at-then-start-end.ensures.front
    ∙ ap (take (c.min-end.result - start)) (c.split_at.ensures.back ∙ ap (λ (z : ℕ). drop z c.args.bytes.now) skip))
    (c.put_at.ensures ∙ ap (λ (z : ℕ). take z old ++ (part ++ drop (z + length part) old)) at)

pub returns-else-start-end : goal.returns-else-start-end
returns-else-start-end c =
    let last : c.min-end.result ≡ min (c.args.offset + length c.args.buffer.now) (c.args.from + length c.args.bytes.now) =
    omega (arith, c.min-end.ensures, c.from.ensures, c.from-2.ensures) in
    laid_not c.args.offset c.args.from c.from-start.result c.min-end.result c.args.bytes.now c.args.buffer.now
    (c.from-start.ensures ∙ c.max.ensures) last c.if-start-end.false
