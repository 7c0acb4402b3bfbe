use Rattle.drive_store.proofs.ContentLaws.{one_drive, refused_is_none}
use Rattle.drive_store.proofs.laws.contents_stand_for_one_drive.Goals as goal

pub returns-clause-one : goal.returns-clause-one
returns-clause-one c = one_drive

pub returns-clause-refused : goal.returns-clause-refused
returns-clause-refused c = refused_is_none
