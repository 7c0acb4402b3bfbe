use Rattle.std.proofs.Common.{◌≡◌, ◌∙◌, List, ap, false, sym}
use Rattle.server_rules.specs.declared.server.Drive.{Drive}
use Rattle.server_command.specs.Drives.{has_number}
use Rattle.server_command.proofs.KnowingLaws.{is_new}
use Rattle.server_command.proofs.drives.add_drive.Goals as goal

pub add_drive-requires-clause-new : goal.add_drive-requires-clause-new
add_drive-requires-clause-new c =
    let none : has_number c.args.core.now.drives c.args.drive.now.number ≡ false =
    ap (λ (ds : List Drive). has_number ds c.args.drive.now.number) (sym c.drives.ensures)
    ∙ (sym c.has_number.ensures ∙ c.if-has_number.false) in
    is_new c.args.core.now.drives c.args.drive.now.number none
