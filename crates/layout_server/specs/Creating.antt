-- A file is made.
use Rattle.std.specs.Prelude.{ℕ, Bool, true, false, List, Option, Some, Ok, ◌≡◌, ◌≢◌, ◌≤◌, length, IsTrue}
use Rattle.data_map.specs.declared.check.RawMap.{RawMap}
use Rattle.zone_place.specs.Zones.{ask_of, has_room}
use Rattle.server_rules.specs.declared.server.Drive.{Drive}
use Rattle.server_rules.specs.declared.server.Refusal.{Refusal}
use Rattle.server_rules.specs.declared.server.Refusal.TheVariants as why
use Rattle.server_rules.specs.Files.{Step as RulesStep}
use Rattle.server_rules.specs.Making.{create_file, online, refusal, unmade}
use Rattle.server_rules.specs.Zoning.{in_zones}
use Rattle.file_jobs.specs.declared.job.FileState.{FileState}
use Rattle.file_jobs.specs.Steps.{file_of}
use Rattle.layout_server.specs.declared.new_files.FileErr.{FileErr}
use Rattle.layout_server.specs.declared.new_files.FileErr.TheVariants as cause
use Rattle.layout_server.specs.declared.new_files.NewFile.{NewFile}
use Rattle.server_state.specs.declared.state.State.{State}
use Rattle.server_state.specs.declared.step.Step.{Step}
use Rattle.server_state.specs.States.{server_of, Did}

-- the cause of a refusal
abbrev pub cause_of : Refusal → FileErr
cause_of why.FileExists = cause.FileExists
cause_of (why.BadMap e) = cause.BadMap e
cause_of (why.TooFewDrives n) = cause.TooFewDrives n
cause_of (why.NoSpread n) = cause.NoSpread n

-- the file is refused for this cause; that there is no memory says nothing
abbrev pub RefusedFor : Option Refusal → FileErr → Type 0
RefusedFor why e = e ≢ cause.Memory → (r : Refusal) × (why ≡ Some r) × (e ≡ cause_of r)

-- there are drives for the components
abbrev pub HasDrives : (zoned : Bool) → List Drive → RawMap → Type 0
HasDrives false ds m = m.comps ≤ length (online ds)
HasDrives true ds m = IsTrue (has_room (ask_of m) (in_zones (online ds)))

-- the file isn't made yet
abbrev pub unmade_by : State → NewFile → (drives : List ℕ) → FileState → Type 0
unmade_by s f ds file = file_of file ≡ unmade (server_of s) f.number f.map f.tag f.zoned ds

-- a file was made, on some drives
abbrev pub Creates : NewFile → State → State → Step → Type 0
Creates f old new out =
    (chosen : List ℕ) × (s : RulesStep) × (create_file (server_of old) f.number f.map f.tag f.zoned chosen ≡ Ok s)
    × Did out (server_of new) s

-- the file is refused as the rules say, and nothing changed; that there is no memory says nothing
abbrev pub IsRefused : (number : ℕ) → RawMap → (zoned : Bool) → State → State → FileErr → Type 0
IsRefused number raw zoned old new e =
    e ≢ cause.Memory →
    (r : Refusal) × (refusal (server_of old) number raw zoned ≡ Some r) × (e ≡ cause_of r) × (new ≡ old)
