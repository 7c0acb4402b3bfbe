use Rattle.std.proofs.Common.{arith, rules, ◌≡◌, ◌∙◌, ◌+◌, ◌++◌, List, ℕ, ap, sym, add-one}
use Rattle.std.specs.List.{flat_map}
use Rattle.zone_place.specs.Zones.{every, counted, in_line, dealt}
use Rattle.zone_place.specs.Choosing.{online_placed}
use Rattle.zone_place.proofs.Lines.{counted_push}
use Rattle.zone_place.proofs.Dealt.{dealt_is, deal_spreads}
use Rattle.zone_place.proofs.dealing.deal.Goals as goal

pub loop-group-init : goal.loop-group-init
unfolding counted
loop-group-init c = c.new-chosen.ensures

pub loop-group-preserved : goal.loop-group-preserved
loop-group-preserved c =
    let ask = c.args.ask.now in
    let j = c.loop-group.group in
    let line : c.as_slice.result.now ≡ in_line ask (online_placed c.args.loads.now) = search rules in
    let turn = λ (k : ℕ). every ask.groups k (in_line ask (online_placed c.args.loads.now)) in
    let here : 0 + j ≡ j = omega arith in
    c.in_ok-add_every.ensures
    ∙ ap (λ (l : List ℕ). c.loop-group.chosen ++ every ask.groups j l) line
    ∙ ap (λ (l : List ℕ). l ++ turn j) c.loop-group.invariant
    ∙ ap (λ (k : ℕ). flat_map turn (counted 0 j) ++ turn k) (sym here)
    ∙ sym (counted_push turn 0 j)
    ∙ ap (λ (k : ℕ). flat_map turn (counted 0 k)) (sym (add-one j))

pub returns-clause-exact : goal.returns-clause-exact
returns-clause-exact c =
    dealt_is c.args.ask.now c.args.loads.now c.loop-group.group c.loop-group.chosen c.loop-group.auto.group-end
    c.loop-group-test.false c.loop-group.invariant

pub returns-clause-spread : goal.returns-clause-spread
returns-clause-spread c = λ can x is.
    let same : x ≡ c.loop-group.chosen = cc is in
    let exact : c.loop-group.chosen ≡ dealt c.args.ask.now (online_placed c.args.loads.now) =
    dealt_is c.args.ask.now c.args.loads.now c.loop-group.group c.loop-group.chosen c.loop-group.auto.group-end
    c.loop-group-test.false c.loop-group.invariant in
    deal_spreads c.args.ask.now c.args.loads.now x can (same ∙ exact)
