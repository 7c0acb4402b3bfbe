use Rattle.std.proofs.Common.{◌≡◌, ◌∙◌, List, ap, false, sym}
use Rattle.server_rules.specs.declared.server.Drive.{Drive}
use Rattle.server_command.specs.Drives.{has_number}
use Rattle.server_command.proofs.KeptLaws.{broke_behind, went_none}
use Rattle.server_command.proofs.KnowingLaws.{is_new}
use Rattle.stored_server.proofs.lacking.add_lacking_one.Goals as goal

pub add_drive-requires-clause-new : goal.add_drive-requires-clause-new
add_drive-requires-clause-new g c =
    let none : has_number (g.H.MetadataServer.server c.args.server.now).drives c.args.drive.now.number ≡ false =
    ap (λ (ds : List Drive). has_number ds c.args.drive.now.number) (sym c.drives.ensures)
    ∙ (sym c.has_number.ensures ∙ c.if-has_number.false) in
    is_new (g.H.MetadataServer.server c.args.server.now).drives c.args.drive.now.number none

pub returns-in_default-clause-goes : goal.returns-in_default-clause-goes
returns-in_default-clause-goes g c =
    broke_behind g.H.MetadataServer _ _ _
    (went_none g.H.MetadataServer c.args.server.now (g.met.H.MetadataServer.kept_stays c.args.server.now) c.requires.goes_on)
    (λ e. cc e)

pub returns-then-drive-ge-MAX_DRIVES-clause-goes : goal.returns-then-drive-ge-MAX_DRIVES-clause-goes
returns-then-drive-ge-MAX_DRIVES-clause-goes g c =
    broke_behind g.H.MetadataServer _ _ _
    (went_none g.H.MetadataServer c.args.server.now (g.met.H.MetadataServer.kept_stays c.args.server.now) c.requires.goes_on)
    (λ e. cc e)
