-- The lines that say why a run ended before its input did.
use Rattle.std.specs.Prelude.{ℕ, List, [], ◌∷◌, ◌++◌, codes}
use Rattle.std.specs.Fmt.{decimal}
use Rattle.scenario_text.specs.Errors.{event_error_name}
use Rattle.world_history.specs.declared.err.WorldErr.{WorldErr}
use Rattle.world_history.specs.declared.err.WorldErr.TheVariants.{NoName, Taken, Dead, Alive, NotKept, Down, Running, NoMessage}
use Rattle.world_history.specs.declared.err.WorldErr.TheVariants.{KeptFull, Memory}
use Rattle.osd_replay.specs.declared.status.Quantity.{Quantity}
use Rattle.osd_replay.specs.declared.status.Quantity.TheVariants.{Input, Line, Kept}
use Rattle.osd_replay.specs.declared.status.ScenarioKind.{ScenarioKind}
use Rattle.osd_replay.specs.declared.status.ScenarioKind.TheVariants.{Event, World, BadHex as NoDigits}

-- `error words`
abbrev pub words_error : List ℕ
words_error = codes "error words\n"

-- `error LINE REASON`
abbrev pub error_line : ℕ → List ℕ → List ℕ
error_line number reason = codes "error " ++ (decimal number ++ (32 ∷ (reason ++ (10 ∷ []))))

-- the name of a quantity that passes its limit
abbrev pub full_name : Quantity → List ℕ
full_name Input = codes "full input"
full_name Line = codes "full line"
full_name Kept = codes "full kept"

-- the name of why the world doesn't carry an event out
abbrev pub world_error_name : WorldErr → List ℕ
world_error_name NoName = codes "NoName"
world_error_name Taken = codes "Taken"
world_error_name Dead = codes "Dead"
world_error_name Alive = codes "Alive"
world_error_name NotKept = codes "NotKept"
world_error_name Down = codes "Down"
world_error_name Running = codes "Running"
world_error_name (NoMessage index) = codes "NoMessage"
world_error_name KeptFull = codes "KeptFull"
world_error_name Memory = codes "Memory"

-- the name of what refused a line
abbrev pub kind_name : ScenarioKind → List ℕ
kind_name (Event why) = event_error_name why
kind_name (World why) = world_error_name why
kind_name NoDigits = codes "BadHex"
