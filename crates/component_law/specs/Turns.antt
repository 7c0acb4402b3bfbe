-- Whether a server is up or down in a run of it, and what may come to it then.
use Rattle.std.specs.Prelude.{◌≡◌, Bool, true, not, List, [], ◌∷◌}
use Rattle.server_rules.specs.History.{Input, Opens, Act}
use Rattle.history_law.specs.Moves.{down_behind}

-- a server that is down is opened, and hears nothing; one that is up isn't opened
abbrev pub in_turn : (down : Bool) → Input → Bool
in_turn down Opens = down
in_turn down i = not down

-- each of these is in its turn
abbrev pub AreInTurn : (down : Bool) → List Act → Type 0
AreInTurn down [] = Unit {0}
AreInTurn down (a ∷ acts) = (in_turn down a.input ≡ true) × AreInTurn (down_behind down a.input) acts

-- the server is down behind them
abbrev pub down_after : (down : Bool) → List Act → Bool
down_after down [] = down
down_after down (a ∷ acts) = down_after (down_behind down a.input) acts
