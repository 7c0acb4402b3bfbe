-- Commands by stripe, component and offset, placed one after the other.
use Rattle.std.specs.Prelude.{List, [], ◌∷◌}
use Rattle.call_commands.specs.State.{Awaited}
use Rattle.client_rules.specs.Commands.{placed}

-- these, each placed among others, the last one first
unfoldable pub placed_all : (xs among : List Awaited) → List Awaited
placed_all [] among = among
placed_all (a ∷ xs) among = placed a (placed_all xs among)
