-- What contracts see of a server that keeps its changes.
use Rattle.std.specs.Prelude.{Bool}
use Rattle.server_rules.specs.declared.server.Server.{Server}
use Rattle.server_entries.specs.declared.record.Record.{Record}

-- the server, the entries of its last call, and that it can't go on
pub record Keeping : Type 0 where
  pub server : Server
  pub changes : Record
  pub is_over : Bool
