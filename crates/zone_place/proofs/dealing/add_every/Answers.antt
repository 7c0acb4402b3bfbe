use Rattle.std.proofs.Common.{◌∙◌, ◌+◌, ◌++◌, ◌∷◌, [], List, ℕ, ap, sym, drop, get_or, append_assoc, append-nil}
use Rattle.zone_place.specs.Zones.{every}
use Rattle.zone_place.proofs.Steps.{every_from, every_at, every_none}
use Rattle.zone_place.proofs.dealing.add_every.Goals as goal

pub loop-next-init : goal.loop-next-init
loop-next-init c = ap (λ (l : List ℕ). c.args.chosen.now ++ l) (sym (every_from c.args.groups c.args.group c.args.line.now))

pub loop-next-preserved : goal.loop-next-preserved
loop-next-preserved c =
    let xs = c.args.line.now in
    let i = c.loop-next.next in
    let rest = every c.args.groups 0 (drop (i + c.args.groups) xs) in
    ap (λ (l : List ℕ). l ++ rest) c.in_ok-push.ensures.ok
    ∙ append_assoc c.loop-next.chosen (get_or xs i 0 ∷ []) rest
    ∙ ap (λ (l : List ℕ). c.loop-next.chosen ++ l) (sym (every_at c.args.groups i xs c.requires c.loop-next-test.true))
    ∙ c.loop-next.invariant

pub returns : goal.returns
returns c = sym (append-nil c.loop-next.chosen)
    ∙ rw (every_none c.args.groups c.loop-next.next c.args.line.now c.loop-next-test.false) at c.loop-next.invariant
