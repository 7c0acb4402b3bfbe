use Rattle.std.proofs.Common.{[], refl}
use Rattle.server_command.proofs.CoreLaws.{core_went}
use Rattle.server_command.proofs.metadata_server.ServerCoreMetadataServer.keep_made.Goals as goal

pub returns-clause-ok : goal.returns-clause-ok
returns-clause-ok c = core_went [] _ _ refl
