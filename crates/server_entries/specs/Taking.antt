-- What comes of entries that are taken into a state.
use Rattle.std.specs.Prelude.{◌≡◌, Option, Some, None}
use Rattle.server_rules.specs.declared.server.Server.{Server}
use Rattle.server_entries.specs.declared.applied.Applied.{Applied}
use Rattle.server_entries.specs.declared.applied.Applied.TheVariants.{Done, Unmade}

-- they make this of it, or nothing can be made of one of them
abbrev pub Takes : Applied → (new : Server) → Option Server → Type 0
Takes Done new after = after ≡ Some new
Takes Unmade new after = after ≡ None
