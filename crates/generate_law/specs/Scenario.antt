-- The scenario that is made from a seed.
use Rattle.std.specs.Prelude.{ℕ, zero, suc, ◌+◌, ◌*◌, ◌/◌, ◌%◌, ◌^◌, ◌==◌, if◌then◌else◌, List, [], ◌∷◌, ◌++◌, replicate}
use Rattle.scenario_text.specs.declared.event.Call.{Call}
use Rattle.scenario_text.specs.declared.event.Call.TheVariants.{Write, Read}
use Rattle.scenario_text.specs.declared.event.Event.{Event}
use Rattle.scenario_text.specs.declared.event.FileMap.{FileMap}
use Rattle.scenario_text.specs.declared.event.Event.TheVariants.{Drive, Client, File, Do}

-- a drive of 20,000,000 bytes with the key 0b twenty times
abbrev pub makes_drive : ℕ → Event
makes_drive d = Drive d (replicate 20 11) 20000000

-- five components of RAID_5 in units of 4,096 bytes
abbrev pub file_map : FileMap
file_map = record { components = 5; unit = 4096; width = 0; depth = 0; mirrors = 0; algorithm = 3 }

abbrev pub makes_file : Event
makes_file = File 0 file_map 1

-- one zero byte behind all that is written later
abbrev pub first_write : Call
first_write = Write 0 262143 (0 ∷ [])

abbrev pub first_call : Event
first_call = Do 0 first_write

-- such events for the first n numbers
abbrev pub each_below : (ℕ → Event) → (n : ℕ) → List Event
each_below make zero = []
each_below make (suc n) = each_below make n ++ make n ∷ []

-- six drives, three clients, the file and its first call
abbrev pub opening : List Event
opening = each_below makes_drive 6 ++ (each_below (λ c. Client c) 3 ++ (makes_file ∷ first_call ∷ []))

-- the random numbers, modulo 2^64
abbrev pub next_random : ℕ → ℕ
next_random x = (x * 6364136223846793005 + 1442695040888963407) % 2 ^ 64

abbrev pub offset_of : (x : ℕ) → ℕ
offset_of x = x / 2 ^ 40 % 261000

abbrev pub length_of : (x : ℕ) → ℕ
length_of x = 1 + x / 2 ^ 20 % 1000

-- call k is a write where k is even, else a read
abbrev pub call_of : (k x : ℕ) → Call
call_of k x =
    if k % 2 == 0 then Write 0 (offset_of x) (replicate (length_of x) (k % 256)) else Read 0 (offset_of x) (length_of x)

abbrev pub call_event : (k x : ℕ) → Event
call_event k x = Do (k % 3) (call_of k x)

-- n calls from call k on, x being its random number
abbrev pub calls_from : (n k x : ℕ) → List Event
calls_from zero k x = []
calls_from (suc n) k x = call_event k x ∷ calls_from n (k + 1) (next_random x)

-- all events
abbrev pub scenario_of : (seed calls : ℕ) → List Event
scenario_of seed calls = opening ++ calls_from calls 0 seed
