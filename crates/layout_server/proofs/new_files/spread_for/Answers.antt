use Rattle.layout_server.proofs.ZoneLaws.{can_spread, fits_ask, many_spread, spread_if}
use Rattle.layout_server.proofs.new_files.spread_for.Goals as goal

pub spread-requires-clause-asked : goal.spread-requires-clause-asked
spread-requires-clause-asked g c =
    let fits = rw (c.in_ok-zones.ensures.value, c.as_slice.ensures) at c.in_ok-zones.ensures.fits in
    rw (c.as_slice-2.ensures, c.in_ok-zones.ensures.value, c.as_slice.ensures, c.zone_ask.ensures.exact)
    (can_spread _ c.in_ok-loads.loads c.args.state.now.drives c.in_ok-loads.ensures.drives fits
    (fits_ask c.args.map.now c.known.ensures) c.requires.good.drives c.requires.room)

pub returns-clause-placed : goal.returns-clause-placed
returns-clause-placed g c =
    spread_if c.spread.result c.args.map.now c.in_ok-loads.loads c.args.state.now.drives c.in_ok-loads.ensures.drives
    (rw (c.as_slice-2.ensures, c.in_ok-zones.ensures.value, c.as_slice.ensures, c.zone_ask.ensures.exact) at c.spread.ensures)

pub returns-clause-many : goal.returns-clause-many
returns-clause-many g c =
    many_spread c.spread.result c.args.map.now c.in_ok-loads.loads c.known.ensures
    (rw (c.as_slice-2.ensures, c.in_ok-zones.ensures.value, c.as_slice.ensures, c.zone_ask.ensures.exact) at c.spread.ensures)
