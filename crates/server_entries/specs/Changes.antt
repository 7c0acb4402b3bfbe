-- Numbers that are in use, and what a change and a grant make of a file.
use Rattle.std.specs.Prelude.{◌<◌, IsTrue, None, ℕ, Bool, true, false, List, [], ◌∷◌, ◌++◌, ◌+◌, ◌==◌, ◌&&◌, ◌||◌, not, nat_lt, nat_le, length, find, filter, is_some, slice_set}
use Rattle.std.specs.List.{list_any}
use Rattle.data_map.specs.declared.ranges.TheConstants.{MAX_FILE_SIZE}
use Rattle.osd_capability.specs.Layout.{is_format}
use Rattle.server_rules.specs.declared.limits.TheConstants.{FIRST_OBJECT, MAX_CLIENT}
use Rattle.server_rules.specs.declared.server.Server.{Server}
use Rattle.server_rules.specs.declared.files.File.{File}
use Rattle.server_rules.specs.declared.files.Kept.{Kept}
use Rattle.server_rules.specs.declared.server.Drive.{Drive}
use Rattle.server_rules.specs.declared.files.Component.{Component}
use Rattle.server_rules.specs.declared.files.Phase.{Phase}
use Rattle.server_rules.specs.declared.files.Phase.TheVariants.{Still, Fencing, Repairing, FencingAgain}
use Rattle.server_rules.specs.Get.{high_after}
use Rattle.server_rules.specs.Grants.{conflicts, grant_of}
use Rattle.server_rules.specs.Jobs.{fencing}
use Rattle.server_rules.specs.Standing.{lose_from}
use Rattle.server_entries.specs.State.{Grant, FileChange, Size, FenceStarted, Fenced, Repaired, Missing, Present, Ready, Format, Zoned}

-- a file on which no job runs
abbrev pub kept_file : Kept → File
kept_file f = record { kept = f; spent = false; job = None }

-- ---- drives

-- there is a drive of that number
abbrev pub is_known : (number : ℕ) → List Drive → Bool
is_known n ds = is_some (find (λ d. d.number == n) ds)

-- the drive of that number is in a zone
abbrev pub is_in_zone : (number : ℕ) → List Drive → Bool
is_in_zone n ds = list_any (λ d. (d.number == n) && is_some d.zone) ds

-- ---- numbers in use

-- a component of one of these files is that object, or was it last
abbrev pub has_object : List File → (object : ℕ) → Bool
has_object fs object = list_any (λ f. list_any (λ at. at.object == object) f.kept.components) fs

-- the object's number was given out, and no component has it
abbrev pub is_free_object : Server → (object : ℕ) → Bool
is_free_object s object = nat_le FIRST_OBJECT object && (nat_lt object s.next_object && not (has_object s.files object))

-- one of these grants has the number
abbrev pub has_number : List Grant → (number : ℕ) → Bool
has_number gs number = list_any (λ g. g.number == number) gs

-- a grant of the file has it, live or ended by the fence under way
abbrev pub has_grant : Kept → (number : ℕ) → Bool
has_grant f number = has_number f.grants number || has_number f.ended number

-- the grant's number was given out, and no grant has it
abbrev pub is_free_grant : Server → (number : ℕ) → Bool
is_free_grant s number =
    nat_lt 0 number && (nat_lt number s.next_grant && not (list_any (λ f. has_grant f.kept number) s.files))

-- ---- grants

-- its stripes lie inside the longest file, it is extending only for writing, and its client is one that there may be
abbrev pub is_grant : Grant → Bool
is_grant g = (nat_le g.first g.end && nat_le g.end MAX_FILE_SIZE) && ((not g.extending || g.rw) && nat_le g.client MAX_CLIENT)

-- its client has none on the file, and it conflicts with none
abbrev pub can_grant : Server → Grant → Kept → Bool
can_grant s g f =
    is_grant g && (is_free_grant s g.number
    && (not (is_some (grant_of f.grants g.client)) && not (is_some (find (conflicts g) f.grants))))

abbrev pub granted : Grant → Kept → Kept
granted g f = record f { grants = f.grants ++ (g ∷ []); high = high_after f.high g }

-- a grant is given back
abbrev pub returned : (number : ℕ) → Kept → Kept
returned number f = record f { grants = filter (λ g. not (g.number == number)) f.grants }

-- ---- changes

abbrev pub is_fencing : Phase → Bool
is_fencing Still = false
is_fencing Fencing = true
is_fencing Repairing = false
is_fencing FencingAgain = true

abbrev pub is_repairing : Phase → Bool
is_repairing Still = false
is_repairing Fencing = false
is_repairing Repairing = true
is_repairing FencingAgain = false

-- each of these stands, or last stood, on a drive that is in a zone
abbrev pub are_in_zones : List Drive → List Component → Bool
are_in_zones ds cs = not (list_any (λ at. not (is_in_zone at.drive ds)) cs)

-- component k may stand there: the others of a zoned file are in zones
abbrev pub can_stand : Server → Kept → (k drive object : ℕ) → Bool
can_stand s f k drive object =
    nat_lt k (length f.components) && (is_known drive s.drives
    && (is_free_object s object && (not f.zoned || is_in_zone drive s.drives)))

-- the numbers of the change fit the file
abbrev pub IsInside : FileChange → Kept → Type 0
IsInside (Size size) f = Unit {0}
IsInside FenceStarted f = Unit {0}
IsInside (Fenced tag format) f = IsTrue (is_format format)
IsInside Repaired f = Unit {0}
IsInside (Missing k) f = Unit {0}
IsInside (Present k drive object) f = k < length f.components
IsInside Ready f = Unit {0}
IsInside (Format format) f = IsTrue (is_format format)
IsInside Zoned f = Unit {0}

-- the change may come
abbrev pub can_change : Server → FileChange → Kept → Bool
can_change s (Size size) f = nat_le size MAX_FILE_SIZE
can_change s FenceStarted f = true
can_change s (Fenced tag format) f = is_fencing f.phase && is_format format
can_change s Repaired f = is_repairing f.phase
can_change s (Missing k) f = nat_lt k (length f.components)
can_change s (Present k drive object) f = can_stand s f k drive object
can_change s Ready f = true
can_change s (Format format) f = is_format format
can_change s Zoned f = are_in_zones s.drives f.components

-- what it makes of the file
abbrev pub changed : FileChange → Kept → Kept
changed (Size size) f = record f { size = size }
changed FenceStarted f = record f { phase = fencing f.phase; grants = []; ended = f.ended ++ f.grants }
changed (Fenced tag format) f = record f { tag = tag; format = format; phase = Repairing }
changed Repaired f = record f { phase = Still; ended = [] }
changed (Missing k) f = record f { components = lose_from (k ∷ []) f.components 0 }
changed (Present k drive object) f =
    record f { components = slice_set f.components k (record { drive = drive; object = object; missing = false }) }
changed Ready f = record f { ready = true }
changed (Format format) f = record f { format = format }
changed Zoned f = record f { zoned = true }
