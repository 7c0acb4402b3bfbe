use Rattle.std.proofs.Common.{◌≡◌, ◌∙◌, ◌+◌, ◌*◌, ◌/◌, ◌<◌, ap, arith}
use Rattle.data_map.specs.declared.check.RawMap.{RawMap}
use Rattle.stripe_plan.proofs.Turns.{within_turn, next_turn}
use Rattle.stripe_plan.proofs.lost.next_turn.Goals as goal

pub returns-clause-same : goal.returns-clause-same
returns-clause-same c = λ s le lt.
    let depth : c.from-depth.result ≡ c.args.map.now.depth =
    c.from-depth.ensures ∙ ap (λ (m : RawMap). m.depth) c.raw-raw.ensures.value in
    let up : s < (c.args.stripe / c.from-depth.result + 1) * c.from-depth.result = omega (arith, lt, c.min.ensures) in
    within_turn c.args.map.now s c.args.stripe
    (λ e. c.if-raw-eq0.false (ap (λ (m : RawMap). m.width) c.raw-raw.ensures.value ∙ e)) le (rw depth at up)

pub returns-clause-turn : goal.returns-clause-turn
returns-clause-turn c = λ lt.
    let depth : c.from-depth.result ≡ c.args.map.now.depth =
    c.from-depth.ensures ∙ ap (λ (m : RawMap). m.depth) c.raw-raw.ensures.value in
    let is : c.min.result ≡ (c.args.stripe / c.from-depth.result + 1) * c.from-depth.result = omega (arith, lt, c.min.ensures) in
    next_turn c.args.map.now c.min.result c.args.stripe c.known.ensures
    (λ e. c.if-raw-eq0.false (ap (λ (m : RawMap). m.width) c.raw-raw.ensures.value ∙ e)) (rw depth at is)
