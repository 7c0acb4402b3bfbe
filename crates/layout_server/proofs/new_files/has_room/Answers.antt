use Rattle.std.proofs.Common.{◌∙◌}
use Rattle.file_jobs.proofs.Zoned.{online_alike}
use Rattle.layout_server.proofs.ZoneLaws.{room_is}
use Rattle.layout_server.proofs.new_files.has_room.Goals as goal

pub returns-then-zoned : goal.returns-then-zoned
returns-then-zoned c =
    let told = rw (
      c.zone_ask.ensures.exact,
      c.as_slice-then-zoned.ensures,
      c.in_ok-zones.ensures.value,
      c.as_slice.ensures,
      online_alike c.in_ok-loads.loads c.args.state.now.drives c.in_ok-loads.ensures.drives,
    ) at c.zone_room.ensures in
    rw c.if-zoned.true (told ∙ room_is c.args.map.now c.args.state.now.drives)
