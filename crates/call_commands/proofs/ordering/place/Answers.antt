use Rattle.std.proofs.Common.{◌∙◌, ap}
use Rattle.std.specs.Prelude.{reverse}
use Rattle.call_commands.proofs.Orders.{placed_falling}
use Rattle.call_commands.proofs.ordering.place.Goals as goal

pub returns : goal.returns
returns c =
    let there = rw c.as_slice.ensures.value at c.place_of-place.ensures in
    ap reverse c.in_ok-insert.ensures.items
    ∙ placed_falling c.args.awaited c.args.falling.now.items c.place_of-place.result there.inside there.passed there.here
