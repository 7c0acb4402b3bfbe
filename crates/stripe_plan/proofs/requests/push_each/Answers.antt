use Rattle.std.proofs.Common.{◌∙◌, ℕ, ◌+◌, ◌-◌, ◌++◌, ap, sym, arith}
use Rattle.data_map.specs.Striping.{replicas}
use Rattle.stripe_plan.specs.Asks.{asks_of, asks_each}
use Rattle.stripe_plan.proofs.Steps.{each_first, each_step, each_end, one_more, no_more}
use Rattle.stripe_plan.proofs.requests.push_each.Goals as goal
use Rattle.stripe_plan.proofs.requests.push_each.Goals.{then-not-is_among+in_ok-push_component, else-not-is_among}

pub loop-component-init : goal.loop-component-init
loop-component-init c =
    ap (λ xs. c.args.asks.now ++ xs)
    (each_first c.args.out.now.components c.args.stripe c.args.position c.replica-first.result
    (replicas c.args.map.now) c.args.bytes.now
    ∙ ap (λ (k : ℕ). asks_each c.args.out.now.components c.args.stripe c.args.position k
    (replicas c.args.map.now) c.args.bytes.now) (c.replica-first.ensures.value ∙ omega arith))

pub loop-component-preserved : goal.loop-component-preserved
loop-component-preserved c =
    let out = c.args.out.now.components in
    let k = c.loop-component.component in
    let e = c.replica-first.result + replicas c.args.map.now in
    let step = each_step out c.args.stripe c.args.position k e c.args.bytes.now
    (omega (arith, c.loop-component-test.true, c.replicas.ensures.value)) in
    elim c.if-not-is_among.branch [
      | then-not-is_among+in_ok-push_component w ↦
          one_more c.loop-component.asks (asks_of c.args.stripe c.args.position k c.args.bytes.now)
          (asks_each out c.args.stripe c.args.position (k + 1) (e - (k + 1)) c.args.bytes.now) _ c.if-not-is_among.asks
          (w.asks-is ∙ w.in_ok-push_component.ensures)
          (ap (λ xs. c.loop-component.asks ++ xs) (sym (rw (sym c.is_among.ensures ∙ w.if-not-is_among.true) at step))
          ∙ c.loop-component.invariant)
      | else-not-is_among w ↦
          ap (λ xs. xs ++ asks_each out c.args.stripe c.args.position (k + 1) (e - (k + 1)) c.args.bytes.now) w.asks-is
          ∙ ap (λ xs. c.loop-component.asks ++ xs) (sym (rw (sym c.is_among.ensures ∙ w.if-not-is_among.false) at step))
          ∙ c.loop-component.invariant
    ]

pub returns : goal.returns
returns c = no_more _ _ _
    (each_end c.args.out.now.components c.args.stripe c.args.position c.loop-component.component
    (c.replica-first.result + replicas c.args.map.now) c.args.bytes.now
    (omega (arith, c.loop-component-test.false, c.replicas.ensures.value))) c.loop-component.invariant
