use Rattle.std.proofs.Common.{sym, ap, ◌∙◌, ◌++◌, ◌+◌, ◌-◌, List, arith, append_assoc, append-nil}
use Rattle.call_io.specs.State.{Ask}
use Rattle.client_rules.specs.Reads.{probe_each}
use Rattle.call_io.specs.Probes.{probe_unless}
use Rattle.call_io.proofs.Places.{probe_step, probe_end}
use Rattle.call_io.proofs.probing.probe_each.Goals as goal

pub loop-position-preserved : goal.loop-position-preserved
loop-position-preserved c =
    let h = c.args.held.now in
    let out = c.args.out.now.components in
    let p = c.loop-position.position in
    let e = c.args.end in
    ap (λ (xs : List Ask). xs ++ probe_each h out c.args.have.now (p + 1) (e - (p + 1))) c.in_ok-push_probe.ensures
    ∙ append_assoc c.loop-position.asks (probe_unless h out c.args.have.now p)
    (probe_each h out c.args.have.now (p + 1) (e - (p + 1)))
    ∙ ap (λ (xs : List Ask). c.loop-position.asks ++ xs)
    (sym (probe_step h out c.args.have.now p e (omega (arith, c.loop-position-test.true))))
    ∙ c.loop-position.invariant

pub returns : goal.returns
returns c =
    sym (append-nil c.loop-position.asks)
    ∙ ap (λ (xs : List Ask). c.loop-position.asks ++ xs)
    (sym (probe_end c.args.held.now c.args.out.now.components c.args.have.now c.loop-position.position c.args.end
    (omega (arith, c.loop-position-test.false))))
    ∙ c.loop-position.invariant
