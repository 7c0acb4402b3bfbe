use Rattle.server_command.proofs.CoreLaws.{core_made, core_not}
use Rattle.server_command.proofs.metadata_server.ServerCoreMetadataServer.create_file.Goals as goal

pub returns-in-Ok-clause-ok : goal.returns-in-Ok-clause-ok
returns-in-Ok-clause-ok g c =
    let made = c.in-Ok.ensures.made in
    (made.0, made.1, made.2, made.3, core_made _ _ _ made.0 _ _ made.1 made.2 made.3.state)

pub returns-in-Err-clause-err : goal.returns-in-Err-clause-err
returns-in-Err-clause-err g c =
    core_not _ _ _ _ _ c.in-Err.e c.make_err_of.result c.make_err_of.ensures.refused c.make_err_of.ensures.memory
    c.in-Err.ensures.refused
