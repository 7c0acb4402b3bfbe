use Rattle.std.proofs.Common.{sym, ap, ◌∙◌, ◌++◌, ◌+◌, drop, arith}
use Rattle.client_rules.specs.Io.{timed_with}
use Rattle.std.proofs.lemmas.Bool.Decides.{nat_tests}
use Rattle.call_commands.proofs.Lists.{snoc, timed_before, timed_behind, timed_end}
use Rattle.call_commands.proofs.having.timed_with.Goals as goal

pub returns-then-one-other : goal.returns-then-one-other
returns-then-one-other c =
    c.in_ok-extend_from_slice.ensures.ok
    ∙ rw (c.in_ok-push.ensures.ok, c.split_at.ensures.back, c.as_slice.ensures)
    (snoc c.loop-i.all c.args.one (drop c.loop-i.i c.args.timed.now))
    ∙ ap (λ z. c.loop-i.all ++ z)
    (sym (timed_before c.args.one c.args.timed.now c.loop-i.i c.get-other.result.now c.get-other.ensures
    (grind (arith, nat_tests, c.if-one-other.true))))
    ∙ c.loop-i.invariant

pub loop-i-preserved : goal.loop-i-preserved
loop-i-preserved c =
    ap (λ z. z ++ timed_with c.args.one (drop (c.loop-i.i + 1) c.args.timed.now)) c.in_ok-push-2.ensures.ok
    ∙ snoc c.loop-i.all c.get-other.result.now (timed_with c.args.one (drop (c.loop-i.i + 1) c.args.timed.now))
    ∙ ap (λ z. c.loop-i.all ++ z)
    (sym (timed_behind c.args.one c.args.timed.now c.loop-i.i c.get-other.result.now c.get-other.ensures
    (grind (arith, nat_tests, c.if-one-other.false))))
    ∙ c.loop-i.invariant

pub returns : goal.returns
returns c =
    c.in_ok-push-3.ensures.ok
    ∙ ap (λ z. c.loop-i.all ++ z)
    (sym (timed_end c.args.one c.args.timed.now c.loop-i.i (omega (arith, c.loop-i-test.false, c.len-i-end.ensures))))
    ∙ c.loop-i.invariant
