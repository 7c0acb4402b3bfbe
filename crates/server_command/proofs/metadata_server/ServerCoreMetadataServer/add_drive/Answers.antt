use Rattle.server_command.proofs.CoreLaws.{core_broke, core_went}
use Rattle.server_command.proofs.metadata_server.ServerCoreMetadataServer.add_drive.Goals as goal

pub returns-in-Ok-clause-ok : goal.returns-in-Ok-clause-ok
returns-in-Ok-clause-ok c = core_went _ _ _ c.in-Ok.ensures

pub returns-in-Err-clause-err : goal.returns-in-Err-clause-err
returns-in-Err-clause-err c = core_broke _ _ _ _ (λ e. cc e)
