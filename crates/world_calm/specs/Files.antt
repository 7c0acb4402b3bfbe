-- The files as a moment shows them, and the drives that failed.
use Rattle.std.specs.Prelude.{ℕ, Bool, true, false, ◌==◌, ◌&&◌, ◌||◌, nat_lt, List, [], ◌∷◌, ◌++◌, map, slice_get, slice_set, Option, Some, None, if◌then◌else◌}
use Rattle.data_map.specs.declared.check.RawMap.{RawMap}
use Rattle.data_map.specs.Striping.{group_of, parities}
use Rattle.server_rules.specs.Numbers.{among}
use Rattle.server_rules.specs.Standing.{is_short}
use Rattle.world_history.specs.ServerNames.{Component, Kept}
use Rattle.world_history.specs.State.{at_number, with_number, and_number}
use Rattle.world_history.specs.Stripes.{component_at, stripe_of}
use Rattle.world_calm.specs.declared.files.TheConstants.{MAX_OFFSET}
pub use Rattle.world_calm.specs.declared.files.SeenFile.{SeenFile}
pub use Rattle.world_calm.specs.declared.files.StripeOf.{StripeOf}

-- files by number
abbrev pub Table : Type 0
Table = List (ℕ × SeenFile)

pub record FilesState : Type 0 where
  pub files : Table
  pub failed : List ℕ

abbrev pub no_files : FilesState
no_files = record { files = []; failed = [] }

-- ---- files change

-- the file is as the server keeps it
abbrev pub seen_as : Kept → SeenFile
seen_as k = record { map = k.map; components = k.components }

abbrev pub shown : FilesState → Kept → FilesState
shown s k = record s { files = and_number s.files k.number (seen_as k) }

-- a component becomes another, where there is one
abbrev pub component_with : List Component → (k : ℕ) → (Component → Component) → Option Component → List Component
component_with cs k becomes None = cs
component_with cs k becomes (Some at) = slice_set cs k (becomes at)

abbrev pub component_as : (k : ℕ) → (Component → Component) → SeenFile → SeenFile
component_as k becomes f =
    record f { components = component_with f.components k becomes (slice_get f.components k) }

-- a file becomes another, where there is one
abbrev pub file_with : Table → (number : ℕ) → (SeenFile → SeenFile) → Option SeenFile → Table
file_with t n becomes None = t
file_with t n becomes (Some f) = with_number t n (becomes f)

abbrev pub file_as : FilesState → (number : ℕ) → (SeenFile → SeenFile) → FilesState
file_as s n becomes = record s { files = file_with s.files n becomes (at_number s.files n) }

-- a component became missing, or stands on a drive again
abbrev pub missing : Component → Component
missing at = record at { missing = true }

abbrev pub standing_on : (drive : ℕ) → Component → Component
standing_on d at = record at { drive = d; missing = false }

-- ---- short stripes

-- the components, each missing that is lost: missing, or on a drive that failed
abbrev pub lost_as : (failed : List ℕ) → Component → Component
lost_as failed at = record at { missing = at.missing || among at.drive failed }

abbrev pub standing : (failed : List ℕ) → List Component → List Component
standing failed cs = map (lost_as failed) cs

-- the stripe of a file with parity is short
abbrev pub is_short_in : (failed : List ℕ) → (stripe : ℕ) → Option SeenFile → Bool
is_short_in failed s None = false
is_short_in failed s (Some f) =
    nat_lt 0 (parities f.map) && is_short f.map (standing failed f.components) (group_of f.map s)

abbrev pub is_short_at : FilesState → (file stripe : ℕ) → Bool
is_short_at s n stripe = is_short_in s.failed stripe (at_number s.files n)

-- ---- where a WRITE is performed

-- the stripe of an offset in a component of the map
abbrev pub stripe_with : (file : ℕ) → RawMap → (offset : ℕ) → Option ℕ → List StripeOf
stripe_with n m offset None = []
stripe_with n m offset (Some k) =
    if nat_lt k m.comps then record { file = n; stripe = stripe_of m k offset } ∷ [] else []

-- of a file with parity, where a component that isn't missing stands on the drive in the object
abbrev pub stripe_in : (file : ℕ) → SeenFile → (drive object offset : ℕ) → List StripeOf
stripe_in n f d object offset =
    if parities f.map == 0 then [] else stripe_with n f.map offset (component_at d object f.components 0)

abbrev pub stripes_in : Table → (drive object offset : ℕ) → List StripeOf
stripes_in [] d object offset = []
stripes_in (e ∷ es) d object offset = stripe_in e.0 e.1 d object offset ++ stripes_in es d object offset

abbrev pub stripes_at : FilesState → (drive object offset : ℕ) → List StripeOf
stripes_at s d object offset = if nat_lt MAX_OFFSET offset then [] else stripes_in s.files d object offset
