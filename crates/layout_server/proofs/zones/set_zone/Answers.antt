use Rattle.std.specs.Prelude.{List, refl}
use Rattle.std.proofs.Common.{sym, subst, ◌∙◌}
use Rattle.server_rules.specs.declared.server.Drive.{Drive}
use Rattle.server_state.specs.Drives.{AreDrives}
use Rattle.layout_server.proofs.ZoneLaws.{goes_at, in_zone_at, known_inside, put_rises, stays_at}
use Rattle.layout_server.proofs.zones.set_zone.Goals as goal

pub get-requires : goal.get-requires
get-requires c = rw (c.place_of-place.ensures, c.as_slice.ensures) (known_inside c.args.drives.now c.args.number c.requires.known)

pub returns-then-is_some-clause-put : goal.returns-then-is_some-clause-put
returns-then-is_some-clause-put c =
    let here = rw (c.place_of-place.ensures, c.as_slice.ensures) at c.get.ensures in
    sym (stays_at c.args.drives.now c.args.number c.args.zone c.get.result.now c.requires.drives here
    (sym c.is_some.ensures ∙ c.if-is_some.true))

pub returns-then-is_some-clause-taken : goal.returns-then-is_some-clause-taken
returns-then-is_some-clause-taken c =
    let here = rw (c.place_of-place.ensures, c.as_slice.ensures) at c.get.ensures in (
      λ e. in_zone_at 0 c.args.drives.now c.args.number c.get.result.now c.requires.drives here ∙ sym c.is_some.ensures
          ∙ c.if-is_some.true,
      λ t. refl,
    )

pub get_mut-drive-requires : goal.get_mut-drive-requires
get_mut-drive-requires c =
    rw (c.place_of-place.ensures, c.as_slice.ensures) (known_inside c.args.drives.now c.args.number c.requires.known)

pub returns-clause-put : goal.returns-clause-put
returns-clause-put c =
    let here = rw (c.place_of-place.ensures, c.as_slice.ensures) at c.get.ensures in
    let again = rw (c.place_of-place.ensures, c.as_slice.ensures) at c.get_mut-drive.ensures.value in
    let none = sym (in_zone_at 0 c.args.drives.now c.args.number c.get_mut-drive.result.now c.requires.drives again)
    ∙ in_zone_at 0 c.args.drives.now c.args.number c.get.result.now c.requires.drives here ∙ sym c.is_some.ensures
    ∙ c.if-is_some.false in
    rw (c.place_of-place.ensures, c.as_slice.ensures)
    (goes_at c.args.drives.now c.args.number c.args.zone c.get_mut-drive.result.now c.requires.drives again none)

pub returns-clause-drives : goal.returns-clause-drives
returns-clause-drives c =
    subst (λ (ds : List Drive). AreDrives ds) (sym (returns-clause-put c))
    (put_rises 0 c.args.drives.now c.args.number c.args.zone c.requires.drives)

pub returns-clause-taken : goal.returns-clause-taken
returns-clause-taken c =
    let here = rw (c.place_of-place.ensures, c.as_slice.ensures) at c.get.ensures in
    let none = in_zone_at 0 c.args.drives.now c.args.number c.get.result.now c.requires.drives here ∙ sym c.is_some.ensures
    ∙ c.if-is_some.false in
    (λ e. absurd (cc e), λ t. sym (sym t ∙ none))
