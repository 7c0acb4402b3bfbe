-- Making a file, a drive, and the server.
use Rattle.std.specs.Prelude.{ℕ, Bool, true, false, List, [], ◌∷◌, Option, Some, None, Result, Ok, Err, ◌+◌, ◌==◌, ◌&&◌, not, nat_lt, max, length, take, map, find, filter, is_some, if◌then◌else◌}
use Rattle.data_map.specs.Check.{bad_unit, checked}
use Rattle.data_map.specs.declared.check.MapErr.{MapErr}
use Rattle.data_map.specs.declared.check.MapErr.TheVariants.{Unit as BadUnit, TooMany}
use Rattle.server_rules.specs.declared.limits.TheConstants.{MAX_FILE_COMPONENTS, FIRST_OBJECT}
use Rattle.osd_capability.specs.declared.layout.TheConstants.{FORMAT_SHA1}
use Rattle.server_rules.specs.State.{Server, File, RawMap, Component, Drive, Still, Refusal, FileExists, BadMap, TooFewDrives, NoSpread}
use Rattle.zone_place.specs.Zones.{ask_of, has_room, spread}
use Rattle.server_rules.specs.Numbers.{among}
use Rattle.server_rules.specs.Zoning.{in_zones}
use Rattle.server_rules.specs.Files.{Step, file_at, add_file, at_file, step_at}
use Rattle.server_rules.specs.Jobs.{making}

-- a server without files
abbrev pub new_server : List Drive → Server
new_server ds = record {
  files = [];
  slots = [];
  drives = ds;
  next_grant = 1;
  next_object = FIRST_OBJECT;
  next_nonce = 1;
  next_recall = 1;
  format = FORMAT_SHA1;
}

-- a new drive, before those with greater numbers
unfoldable pub add_drive : List Drive → Drive → List Drive
add_drive [] d = d ∷ []
add_drive (e ∷ ds) d = if nat_lt e.number d.number then e ∷ add_drive ds d else d ∷ e ∷ ds

-- the server's format only rises
abbrev pub set_format : Server → (format : ℕ) → Server
set_format s format = record s { format = max s.format format }

-- ---- whether a file is made

-- a map as it is checked, with at most MAX_FILE_COMPONENTS components
unfoldable pub checked_64 : RawMap → Result RawMap MapErr
checked_64 m = if bad_unit m then Err BadUnit else if nat_lt MAX_FILE_COMPONENTS m.comps then Err TooMany else checked m

-- the drives that weren't declared
abbrev pub online : List Drive → List Drive
online ds = filter (λ d. d.online) ds

-- how many drives may take components: online ones, and for a zoned file those in a zone
abbrev pub usable : (zoned : Bool) → List Drive → ℕ
usable false ds = length (online ds)
usable true ds = length (in_zones (online ds))

-- the components of a zoned file can't be spread over the zones
abbrev pub by_zones : RawMap → (zoned : Bool) → List Drive → Option Refusal
by_zones m false ds = None
by_zones m true ds = if has_room (ask_of m) (in_zones (online ds)) then None else Some (NoSpread (usable true ds))

-- fewer drives may be taken than the map has components
abbrev pub by_online : RawMap → (zoned : Bool) → List Drive → Option Refusal
by_online m zoned ds = if nat_lt (usable zoned ds) m.comps then Some (TooFewDrives (usable zoned ds)) else by_zones m zoned ds

-- the map is refused, or the drives don't do
abbrev pub by_check : (zoned : Bool) → List Drive → Result RawMap MapErr → Option Refusal
by_check zoned ds (Err e) = Some (BadMap e)
by_check zoned ds (Ok m) = by_online m zoned ds

-- why no file of that number and map is made
unfoldable pub refusal : Server → (number : ℕ) → RawMap → (zoned : Bool) → Option Refusal
refusal s number m zoned =
    if is_some (file_at s.files number) then Some FileExists
    else by_check zoned s.drives (checked_64 m)

-- ---- where it is made

-- different numbers of these drives
unfoldable pub are_of : List Drive → List ℕ → Bool
are_of ds [] = true
are_of ds (n ∷ ns) = is_some (find (λ d. d.number == n) ds) && (not (among n ns) && are_of ds ns)

-- the drives that the placer names, where they are as many different online drives; else the first online ones
unfoldable pub places : List Drive → (count : ℕ) → (chosen : List ℕ) → List ℕ
places ds count chosen =
    if (length chosen == count) && are_of (online ds) chosen then chosen
    else take count (map (λ d. d.number) (online ds))

-- those on which a file's components are put: of a zoned file they are spread over the zones
abbrev pub drives_for : (zoned : Bool) → List Drive → RawMap → (chosen : List ℕ) → List ℕ
drives_for false ds m chosen = places ds m.comps chosen
drives_for true ds m chosen = spread (ask_of m) (in_zones (online ds)) chosen

-- components on these drives, with object numbers from one on
unfoldable pub components_on : List ℕ → (object : ℕ) → List Component
components_on [] object = []
components_on (d ∷ ds) object = record { drive = d; object = object; missing = false } ∷ components_on ds (object + 1)

-- a file that isn't made yet
abbrev pub unmade : Server → (number : ℕ) → RawMap → (tag : ℕ) → (zoned : Bool) → (drives : List ℕ) → File
unmade s number m tag zoned ds = record {
  kept = record {
    number = number;
    map = m;
    zoned = zoned;
    first_tag = tag;
    tag = tag;
    format = s.format;
    size = 0;
    high = 0;
    ready = false;
    phase = Still;
    components = components_on ds s.next_object;
    grants = [];
    ended = [];
  };
  spent = false;
  job = None;
}

-- the server with the file, and its object numbers used
abbrev pub with_file : Server → File → Server
with_file s f = record s { files = add_file s.files f; next_object = s.next_object + length f.kept.components }

-- the step of a file that is made
abbrev pub makes_file : Server → File → Step
makes_file s f = step_at (with_file s f) f.kept.number (making (at_file (with_file s f) [] f))

-- the refusal, or the step
abbrev pub unless_refused : Option Refusal → Step → Result Step Refusal
unless_refused (Some r) step = Err r
unless_refused None step = Ok step

-- a file is made, and its components are sent CREATE
unfoldable pub create_file : Server → (number : ℕ) → RawMap → (tag : ℕ) → (zoned : Bool) → (chosen : List ℕ) → Result Step Refusal
create_file s number m tag zoned chosen =
    unless_refused (refusal s number m zoned)
    (makes_file s (unmade s number m tag zoned (drives_for zoned s.drives m chosen)))
