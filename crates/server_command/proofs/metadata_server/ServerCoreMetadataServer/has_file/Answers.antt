use Rattle.server_command.proofs.CoreLaws.{is_absent, is_there}
use Rattle.server_command.proofs.metadata_server.ServerCoreMetadataServer.has_file.Goals as goal

pub returns-in-Some : goal.returns-in-Some
returns-in-Some c = is_there _ _ (rw c.in-Some.is at c.file.ensures)

pub returns-in-None : goal.returns-in-None
returns-in-None c = is_absent _ (rw c.in-None.is at c.file.ensures)
