use Rattle.std.proofs.Common.{[]}
use Rattle.server_command.proofs.CoreLaws.{core_broke, core_went}
use Rattle.server_command.proofs.metadata_server.ServerCoreMetadataServer.on_message.Goals as goal

pub returns-in-Ok-clause-ok : goal.returns-in-Ok-clause-ok
returns-in-Ok-clause-ok g c = (c.in-Ok.ensures.0, c.in-Ok.ensures.1, core_went _ _ _ c.in-Ok.ensures.1.state)

pub returns-in-Err-clause-err : goal.returns-in-Err-clause-err
returns-in-Err-clause-err g c = ([], core_broke _ _ _ _ (λ e. cc e))
