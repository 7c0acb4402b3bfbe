-- The server as a party of a world.
use Rattle.std.specs.Prelude.{List}
use Rattle.server_rules.specs.declared.notes.Mended.{Mended}
use Rattle.server_rules.specs.declared.server.Server.{Server}

-- the server of the rules, and the repairs that its last step ended, until they are taken
pub record WorldServerState : Type 0 where
  pub state : Server
  pub mended : List Mended
