-- What the entries of a new file and of a drive make.
use Rattle.std.specs.Prelude.{ℕ, suc, Bool, true, false, List, [], ◌∷◌, ◌+◌, ◌==◌, ◌&&◌, not, nat_lt, nat_le, length, map, is_some, is_ok, None, if◌then◌else◌}
use Rattle.data_map.specs.declared.check.RawMap.{RawMap}
use Rattle.data_map.specs.declared.check.TheConstants.{RAID_0, RAID_PQ}
use Rattle.osd_capability.specs.Layout.{is_format}
use Rattle.server_rules.specs.declared.limits.TheConstants.{FIRST_OBJECT}
use Rattle.server_rules.specs.declared.server.Server.{Server}
use Rattle.server_rules.specs.declared.files.File.{File}
use Rattle.server_rules.specs.declared.server.Drive.{Drive}
use Rattle.server_rules.specs.declared.files.Component.{Component}
use Rattle.server_rules.specs.declared.files.Phase.TheVariants.{Still}
use Rattle.server_rules.specs.Files.{file_at}
use Rattle.server_rules.specs.Making.{checked_64}
use Rattle.server_entries.specs.State.{DriveEntry, Placed, FileEntry}
use Rattle.server_entries.specs.Changes.{is_free_object, is_known, kept_file}
use Rattle.server_entries.specs.declared.applied.TheConstants.{MAX_FILES}

-- ---- drives

-- a drive that is in no zone
abbrev pub new_drive : DriveEntry → Drive
new_drive d = record { number = d.number; key = d.key; capacity = d.capacity; online = d.online; zone = None }

-- it comes in the place of a drive, whose zone it keeps
abbrev pub in_place_of : Drive → DriveEntry → Drive
in_place_of e d = record (new_drive d) { zone = e.zone }

-- a drive in the order of their numbers, or in the place of its former
unfoldable pub put_drive : List Drive → DriveEntry → List Drive
put_drive [] d = new_drive d ∷ []
put_drive (e ∷ ds) d =
    if nat_lt e.number d.number then e ∷ put_drive ds d
    else if e.number == d.number then in_place_of e d ∷ ds
    else new_drive d ∷ e ∷ ds

-- the place of the first drive whose number isn't less, behind all where there is none
unfoldable pub drive_place : List Drive → (number : ℕ) → ℕ
drive_place [] n = 0
drive_place (d ∷ ds) n = if nat_le n d.number then 0 else suc (drive_place ds n)

-- ---- files

-- the map can be used, with at most MAX_FILE_COMPONENTS components
abbrev pub is_usable : RawMap → Bool
is_usable m = (nat_le RAID_0 m.algorithm && nat_le m.algorithm RAID_PQ) && is_ok (checked_64 m)

-- components on drives that there are, whose objects rise from the least on and are free
unfoldable pub are_placed : Server → (least : ℕ) → List Placed → Bool
are_placed s least [] = true
are_placed s least (p ∷ ps) =
    (nat_le least p.object && (is_known p.drive s.drives && is_free_object s p.object)) && are_placed s (p.object + 1) ps

-- what a file asks besides its map
abbrev pub can_place : Server → FileEntry → Bool
can_place s f =
    not (is_some (file_at s.files f.file)) && (nat_lt (length s.files) MAX_FILES
    && ((length f.components == f.map.comps) && (is_format f.format && are_placed s FIRST_OBJECT f.components)))

-- the file may be made
abbrev pub can_make : Server → FileEntry → Bool
can_make s f = is_usable f.map && can_place s f

abbrev pub component_of : Placed → Component
component_of p = record { drive = p.drive; object = p.object; missing = false }

-- the file, before anything was done to it
abbrev pub new_file : FileEntry → File
new_file f = kept_file (record {
  number = f.file;
  map = f.map;
  zoned = false;
  first_tag = f.tag;
  tag = f.tag;
  format = f.format;
  size = 0;
  high = 0;
  ready = false;
  phase = Still;
  components = map component_of f.components;
  grants = [];
  ended = [];
})
