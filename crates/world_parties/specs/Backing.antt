-- What has the objects of a drive: memory alone, a store, or the disk that a crash left.
use Rattle.std.specs.Prelude.{◌≡◌, ◌⊎◌, ℕ, zero, suc, ◌-◌, List, [], ◌∷◌, length, take, drop, Bool, true, false, nat_eq, nat_le, if◌then◌else◌, Option, Some, None}
use Rattle.std.specs.Int.{w32, from_be_bytes}
use Rattle.osd_disk.specs.Medium.{Medium, bytes_of, may_hold}
use Rattle.gate_log.specs.declared.entry.TheConstants.{MAX_BODY}
use Rattle.gate_log.specs.declared.form.Form.{Form}
use Rattle.gate_log.specs.declared.form.Form.TheVariants.{Plain, Checked}
use Rattle.gate_log.specs.declared.header.TheConstants.{HEADER_SIZE}
use Rattle.gate_log.specs.Forms.{head_size, size_of}
use Rattle.osd_objects.specs.Store.{empty_store}
use Rattle.osd_drive.specs.State.{DriveState, new_drive}
use Rattle.drive_store.specs.declared.store.StoredDrive.{StoredDrive}
use Rattle.drive_store.specs.Records.{replayed}
use Rattle.drive_store.specs.Stores.{IsKept, IsStoreOf, core_of, is_over_in}
use Rattle.world_history.specs.Drives.{first_key}
use Rattle.world_parties.specs.Drive.{IsMadeOf}
use Rattle.world_parties.specs.declared.backing.DriveMake.{DriveMake}
use Rattle.world_parties.specs.declared.backing.Backing.{Backing}
use Rattle.world_parties.specs.declared.backing.Backing.TheVariants.{Volatile, Stored, Resting}

-- ---- the drive that contents stand for

-- the number with which the bytes begin
abbrev pub number_in : List ℕ → ℕ
number_in c = from_be_bytes w32 (take 4 c)

-- the form of the record with which they begin: no body is as long as the complement of a length says
abbrev pub form_in : List ℕ → Form
form_in c = if nat_le (number_in c) MAX_BODY then Plain else Checked

-- how long its body is
abbrev pub length_in : Form → List ℕ → ℕ
length_in form c = number_in (drop (head_size form - 4) c)

-- the body, and what stands behind the record
abbrev pub body_in : Form → List ℕ → List ℕ
body_in form c = take (length_in form c) (drop (head_size form) c)

abbrev pub behind_in : Form → List ℕ → List ℕ
behind_in form c = drop (size_of form (length_in form c)) c

-- the bodies behind open gates, up to the first closed one, and so many at most
abbrev pub bodies_in : (most : ℕ) → List ℕ → List (List ℕ)
bodies_in zero c = []
bodies_in (suc most) [] = []
bodies_in (suc most) (gate ∷ c) =
    if nat_eq gate 0 then [] else body_in (form_in c) c ∷ bodies_in most (behind_in (form_in c) c)

abbrev pub drive_or : DriveState → Option DriveState → DriveState
drive_or d None = d
drive_or d (Some e) = e

-- a drive without objects that was made so
abbrev pub made_core : DriveMake → DriveState
made_core made = new_drive made.number (first_key made.key ∷ []) made.capacity

-- the drive that was made so and then did what the records say
unfoldable pub drive_on : DriveMake → List ℕ → DriveState
drive_on made c = drive_or (made_core made) (replayed (Some (made_core made)) (bodies_in (length c) (drop HEADER_SIZE c)))

-- ---- the drive and what has it

-- its keys, its least format and its objects
abbrev pub state_in : DriveMake → Backing → DriveState
state_in made (Volatile core) = core
state_in made (Stored store) = core_of store
state_in made (Resting disk) = drive_on made (bytes_of disk)

-- its disk has the drive as it is
abbrev pub IsOnDisk : StoredDrive Medium → Type 0
IsOnDisk store = IsKept (λ (m : Medium). true) bytes_of may_hold store

-- a store of a drive that was made so; it is on its disk, unless a call of the disk wanted memory
pub record IsOwnStore (made : DriveMake) (store : StoredDrive Medium) : Type 0 where
  pub stored : made.stored ≡ true
  pub made_of : IsMadeOf made (core_of store)
  pub on_disk : is_over_in store ≡ false → IsOnDisk store

-- a disk that has such a store
pub record Rests (made : DriveMake) (disk : Medium) : Type 0 where
  pub stored : made.stored ≡ true
  pub made_of : IsMadeOf made (drive_on made (bytes_of disk))
  pub store : IsStoreOf (drive_on made (bytes_of disk)) (bytes_of disk)

-- it has a drive that was made so
abbrev pub Stands : DriveMake → Backing → Type 0
Stands made (Volatile core) = IsMadeOf made core
Stands made (Stored store) = IsOwnStore made store
Stands made (Resting disk) = Rests made disk

-- the drive is down to its disk
abbrev pub is_resting : Backing → Bool
is_resting (Resting disk) = true
is_resting other = false

-- it has the same drive
pub record Stays (made : DriveMake) (old new : Backing) : Type 0 where
  pub state : state_in made new ≡ state_in made old
  pub stands : Stands made new

-- it stays, or a stored one did what was asked
abbrev pub StaysOr : DriveMake → (after old new : DriveState) → Type 0
StaysOr made after old new = (new ≡ old) ⊎ ((made.stored ≡ true) × (new ≡ after))

-- without objects
abbrev pub emptied : DriveState → DriveState
emptied d = record d { store = empty_store d.store.capacity }

-- ---- stores that are made and opened

-- a store of this drive, which is on its disk
pub record IsOpened (drive : DriveState) (store : StoredDrive Medium) : Type 0 where
  pub drive_is : core_of store ≡ drive
  pub on_disk : IsOnDisk store
  pub goes_on : is_over_in store ≡ false
