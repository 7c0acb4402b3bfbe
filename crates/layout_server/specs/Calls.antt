-- What a call did to the server.
use Rattle.std.specs.Prelude.{ℕ, Bool, List, Some, Ok, ◌≡◌, ◌≢◌}
use Rattle.data_map.specs.declared.check.RawMap.{RawMap}
use Rattle.server_rules.specs.declared.server.Server.{Server}
use Rattle.server_rules.specs.Files.{Step as RulesStep}
use Rattle.server_rules.specs.declared.server.Refusal.{Refusal}
use Rattle.server_rules.specs.Making.{create_file, refusal}
use Rattle.server_state.specs.declared.step.Step.{Step}
use Rattle.server_state.specs.States.{Did}
use Rattle.layout_server.specs.declared.new_files.FileErr.{FileErr}
use Rattle.layout_server.specs.declared.new_files.FileErr.TheVariants.{Memory}
use Rattle.layout_server.specs.Creating.{cause_of}

-- a file was made, on some drives
abbrev pub Makes : (number : ℕ) → RawMap → (tag : ℕ) → (zoned : Bool) → Server → Server → Step → Type 0
Makes number raw tag zoned old new out =
    (chosen : List ℕ) × (s : RulesStep) × (create_file old number raw tag zoned chosen ≡ Ok s) × Did out new s

-- the file is refused as the rules say, and nothing changed; that there is no memory says nothing
abbrev pub IsRefused : (number : ℕ) → RawMap → (zoned : Bool) → Server → Server → FileErr → Type 0
IsRefused number raw zoned old new e =
    e ≢ Memory → (r : Refusal) × (refusal old number raw zoned ≡ Some r) × (e ≡ cause_of r) × (new ≡ old)
