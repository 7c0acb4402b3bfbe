use Rattle.std.proofs.Common.{◌≡◌, ◌∙◌, ◌-◌, ◌++◌, List, [], take, sym, ap}
use Rattle.std.specs.Prelude.{reverse}
use Rattle.call_commands.specs.State.{Awaited}
use Rattle.call_commands.proofs.Orders.{turned_more, all_turned}
use Rattle.call_commands.proofs.ordering.reversed.Goals as goal

pub loop-awaited-preserved : goal.loop-awaited-preserved
loop-awaited-preserved c =
    ap (λ (xs : List Awaited). xs ++ reverse c.pop.new.self.items) c.in_ok-push.ensures.ok
    ∙ turned_more c.loop-awaited.commands c.pop.new.self.items c.in-Some.awaited
    ∙ ap (λ (xs : List Awaited). c.loop-awaited.commands ++ reverse xs) (sym c.in-Some.ensures.items)
    ∙ c.loop-awaited.invariant

pub returns : goal.returns
returns c =
    let items = c.loop-awaited.falling.items in
    let none : items ≡ [] =
    c.in_default.ensures.items
    ∙ ap (λ (xs : List Awaited). xs ++ [])
    (c.in_default.ensures.rest ∙ ap (λ n. take (n - 1) items) c.in_default.ensures.cases.0) in
    all_turned c.loop-awaited.commands items none ∙ c.loop-awaited.invariant
