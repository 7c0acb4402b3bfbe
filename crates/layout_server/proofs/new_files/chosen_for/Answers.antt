use Rattle.layout_server.proofs.PlacingLaws.{can_create, placed_if, many_if}
use Rattle.layout_server.proofs.new_files.chosen_for.Goals as goal

pub place-requires-clause-asked : goal.place-requires-clause-asked
place-requires-clause-asked g c =
    rw c.as_slice.ensures
    (can_create _ c.args.state.now.drives c.args.count c.in_ok-loads.ensures.drives c.in_ok-loads.ensures.fits
    c.requires.good.drives c.requires.enough)

pub returns-clause-placed : goal.returns-clause-placed
returns-clause-placed g c =
    placed_if c.place.result _ c.args.state.now.drives c.args.count c.in_ok-loads.ensures.drives
    (rw c.as_slice.ensures at c.place.ensures)

pub returns-clause-many : goal.returns-clause-many
returns-clause-many g c = many_if c.place.result _ c.args.count (rw c.as_slice.ensures at c.place.ensures)
