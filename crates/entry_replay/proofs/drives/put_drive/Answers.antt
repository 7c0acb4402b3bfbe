use Rattle.std.proofs.Common.{sym}
use Rattle.entry_replay.proofs.DriveLaws.{put_split}
use Rattle.entry_replay.proofs.drives.put_drive.Goals as goal

pub returns-clause-put : goal.returns-clause-put
returns-clause-put c =
    rw (
      c.in_ok-add_from.ensures,
      c.in_ok-all.ensures,
      c.split_at.ensures.front,
      c.split_at.ensures.back,
      c.place_of-place.ensures.value,
      c.as_slice-2.ensures,
      c.as_slice.ensures,
    )
    (sym (put_split c.args.drives.now c.args.entry.now))
