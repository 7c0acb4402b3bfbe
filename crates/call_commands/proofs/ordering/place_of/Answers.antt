use Rattle.std.proofs.Common.{◌≡◌, ◌∙◌, ◌<◌, ◌+◌, ◌-◌, ◌∷◌, ℕ, ap, sym, length, drop, arith, false}
use Rattle.std.proofs.Math.Seq.{drop-length}
use Rattle.std.proofs.lemmas.List.{drop_more, get_or_default}
use Rattle.std.proofs.lemmas.List.Elements.{All-nil, All-cons}
use Rattle.client_rules.specs.Commands.{before}
use Rattle.call_commands.specs.State.{Awaited}
use Rattle.call_commands.proofs.ordering.place_of.Goals as goal

pub loop-i-init : goal.loop-i-init
loop-i-init c = rw (drop-length c.args.falling.now) (All-nil (λ (b : Awaited). before c.args.ask.now b.ask ≡ false))

pub loop-i-preserved : goal.loop-i-preserved
loop-i-preserved c =
    let xs = c.args.falling.now in
    let i = c.loop-i.i in
    let x = c.index-falling-i.result in
    let lt : i - 1 < length xs = omega (arith, c.loop-i-test.true, c.loop-i.auto.i) in
    let next : i - 1 + 1 ≡ i = omega (arith, c.loop-i-test.true) in
    let at : drop (i - 1) xs ≡ x ∷ drop i xs =
    drop_more xs (i - 1) x lt ∙ ap (λ y. y ∷ drop (i - 1 + 1) xs) (sym c.index-falling-i.is)
    ∙ ap (λ (z : ℕ). x ∷ drop z xs) next in
    rw at (All-cons (λ (b : Awaited). before c.args.ask.now b.ask ≡ false) x (drop i xs)
    (ap (λ (b : Awaited). before c.args.ask.now b.ask) c.index-falling-i.is ∙ sym c.before-in-loop-i.ensures
    ∙ c.if-before.false) c.loop-i.invariant)

pub returns-then-before-clause-passed : goal.returns-then-before-clause-passed
returns-then-before-clause-passed c =
    let next : c.loop-i.i - 1 + 1 ≡ c.loop-i.i = omega (arith, c.loop-i-test.true) in
    rw next c.loop-i.invariant

pub returns-then-before-clause-here : goal.returns-then-before-clause-here
returns-then-before-clause-here c = λ d some.
    let xs = c.args.falling.now in
    let i = c.loop-i.i in
    let x = c.index-falling-i.result in
    let lt : i - 1 < length xs = omega (arith, c.loop-i-test.true, c.loop-i.auto.i) in
    let at : i - 1 + 1 - 1 ≡ i - 1 = omega arith in
    rw at (ap (λ (b : Awaited). before c.args.ask.now b.ask) (get_or_default xs (i - 1) d x lt) ∙ sym c.before-in-loop-i.ensures
    ∙ c.if-before.true)

pub returns-clause-passed : goal.returns-clause-passed
returns-clause-passed c =
    let first : c.loop-i.i ≡ 0 = omega (arith, c.loop-i-test.false) in
    rw first at c.loop-i.invariant
