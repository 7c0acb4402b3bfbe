use Rattle.std.specs.Prelude.{List, [], ◌∷◌, take, drop}
use Rattle.std.proofs.Common.{append_assoc, sym, subst, ◌∙◌}
use Rattle.server_rules.specs.declared.server.Drive.{Drive}
use Rattle.server_state.specs.Drives.{AreDrives}
use Rattle.layout_server.specs.Adding.{drive_of, rank_in}
use Rattle.layout_server.proofs.DriveLaws.{added_at, drives_added}
use Rattle.layout_server.proofs.drives.add_drive.Goals as goal

pub returns-clause-added : goal.returns-clause-added
returns-clause-added c =
    let ds : List Drive = c.args.drives.now in
    let place = rank_in ds c.args.info.number in
    rw (
      c.in_ok-extend_from_slice.ensures.ok,
      c.in_ok-push.ensures.ok,
      c.in_ok-all.ensures,
      c.split_at.ensures.front,
      c.split_at.ensures.back,
      c.drive_of.ensures,
      c.rank_of.ensures.value,
      c.as_slice-2.ensures,
      c.as_slice.ensures,
    )
    (append_assoc (take place ds) (drive_of c.args.info ∷ []) (drop place ds) ∙ added_at ds (drive_of c.args.info))

pub returns-clause-drives : goal.returns-clause-drives
returns-clause-drives c =
    subst (λ (ds : List Drive). AreDrives ds) (sym (returns-clause-added c))
    (drives_added c.args.drives.now (drive_of c.args.info) c.requires.drives c.requires.low c.requires.new)
