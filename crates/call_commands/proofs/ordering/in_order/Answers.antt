use Rattle.std.proofs.Common.{◌≡◌, ◌∙◌, ◌-◌, ◌++◌, List, [], take, sym, ap}
use Rattle.std.specs.Prelude.{reverse}
use Rattle.call_commands.specs.State.{Awaited}
use Rattle.call_commands.specs.Ordering.{placed_all}
use Rattle.call_commands.proofs.Orders.{last_placed, none_placed, placed_each}
use Rattle.call_commands.proofs.ordering.in_order.Goals as goal

pub loop-awaited-preserved : goal.loop-awaited-preserved
loop-awaited-preserved c =
    ap (placed_all c.pop.new.self.items) c.in_ok-place.ensures
    ∙ sym (last_placed c.pop.new.self.items c.in-Some.awaited (reverse c.loop-awaited.falling.items))
    ∙ ap (λ (xs : List Awaited). placed_all xs (reverse c.loop-awaited.falling.items)) (sym c.in-Some.ensures.items)
    ∙ c.loop-awaited.invariant

pub returns : goal.returns
returns c =
    let items = c.loop-awaited.unplaced.items in
    let none : items ≡ [] =
    c.in_default.ensures.items
    ∙ ap (λ (xs : List Awaited). xs ++ [])
    (c.in_default.ensures.rest ∙ ap (λ n. take (n - 1) items) c.in_default.ensures.cases.0) in
    c.in_ok-commands.ensures
    ∙ sym (none_placed items (reverse c.loop-awaited.falling.items) none)
    ∙ c.loop-awaited.invariant
    ∙ placed_each c.args.pending.now
