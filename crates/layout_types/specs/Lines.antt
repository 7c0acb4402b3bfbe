-- The lines in which a structure is shown: for each leaf its path, a space and its value.
use Rattle.std.specs.Prelude.{ℕ, ℤ, ◌+◌, List, [], ◌∷◌, ◌++◌, length, codes, Bool, true, false, Option, Some, None}
use Rattle.std.specs.Fmt.{decimal, signed_decimal}
use Rattle.hex.specs.Hex.{encode_lower}
use Rattle.data_map.specs.declared.check.RawMap.{RawMap}
use Rattle.layout_types.specs.declared.objid.ObjId.{ObjId}
use Rattle.layout_types.specs.declared.cred.ObjectCred.{ObjectCred}
use Rattle.layout_types.specs.declared.layout.Layout.{Layout}
use Rattle.layout_types.specs.declared.device_addr.TargetId.{TargetId}
use Rattle.layout_types.specs.declared.device_addr.TargetId.TheVariants as target
use Rattle.layout_types.specs.declared.device_addr.NetAddr.{NetAddr}
use Rattle.layout_types.specs.declared.device_addr.DeviceAddr.{DeviceAddr}
use Rattle.layout_types.specs.declared.update.LayoutUpdate.{LayoutUpdate}
use Rattle.layout_types.specs.declared.ioerrs.IoErr.{IoErr}
use Rattle.layout_types.specs.declared.ioerrs.IoErrs.{IoErrs}
use Rattle.layout_types.specs.declared.hint.LayoutHint.{LayoutHint}
use Rattle.layout_types.specs.Enumerations.{version_number, security_number, errno_number}

-- ---- leaves

abbrev pub line : List ℕ → List ℕ → List ℕ
line path value = path ++ (32 ∷ (value ++ (10 ∷ [])))

-- numbers and enumerations are decimal
unfoldable pub number_line : List ℕ → ℕ → List ℕ
number_line path n = line path (decimal n)

unfoldable pub signed_line : List ℕ → ℤ → List ℕ
signed_line path z = line path (signed_decimal z)

abbrev pub bool_line : List ℕ → Bool → List ℕ
bool_line path false = number_line path 0
bool_line path true = number_line path 1

abbrev pub hex_word : List ℕ → List ℕ
hex_word [] = codes "-"
hex_word (b ∷ bytes) = encode_lower (b ∷ bytes)

-- bytes are lower-case hexadecimal, or `-` where there are none
unfoldable pub opaque_line : List ℕ → List ℕ → List ℕ
opaque_line path bytes = line path (hex_word bytes)

-- ---- optional parts and lists

-- the bool under `flag`, and where it is 1 the lines of the value
abbrev pub optional_lines : {V : Type 0} → (List ℕ → V → List ℕ) → List ℕ → List ℕ → Option V → List ℕ
optional_lines lines flag path None = bool_line flag false
optional_lines lines flag path (Some v) = bool_line flag true ++ lines path v

-- what stands before the names of the fields of member n
abbrev pub member_front : List ℕ → ℕ → List ℕ
member_front path n = path ++ (46 ∷ (decimal n ++ (46 ∷ [])))

-- the members from number n on
unfoldable pub members_lines : {V : Type 0} → (List ℕ → V → List ℕ) → List ℕ → ℕ → List V → List ℕ
members_lines lines path n [] = []
members_lines lines path n (v ∷ vs) = lines (member_front path n) v ++ members_lines lines path (n + 1) vs

-- the count, and the members
abbrev pub list_lines : {V : Type 0} → (List ℕ → V → List ℕ) → List ℕ → List V → List ℕ
list_lines lines path vs = number_line path (length vs) ++ members_lines lines path 0 vs

-- ---- structures, whose fields' names stand behind `front`

unfoldable pub objid_lines : List ℕ → ObjId → List ℕ
objid_lines front v =
    opaque_line (front ++ codes "oid_device_id") v.oid_device_id
    ++ (number_line (front ++ codes "oid_partition_id") v.oid_partition_id
    ++ number_line (front ++ codes "oid_object_id") v.oid_object_id)

unfoldable pub cred_lines : List ℕ → ObjectCred → List ℕ
cred_lines front v =
    objid_lines (front ++ codes "oc_object_id.") v.oc_object_id
    ++ (number_line (front ++ codes "oc_osd_version") (version_number v.oc_osd_version)
    ++ (number_line (front ++ codes "oc_cap_key_sec") (security_number v.oc_cap_key_sec)
    ++ (opaque_line (front ++ codes "oc_capability_key") v.oc_capability_key
    ++ opaque_line (front ++ codes "oc_capability") v.oc_capability)))

unfoldable pub map_lines : List ℕ → RawMap → List ℕ
map_lines front v =
    number_line (front ++ codes "odm_num_comps") v.comps
    ++ (number_line (front ++ codes "odm_stripe_unit") v.unit
    ++ (number_line (front ++ codes "odm_group_width") v.width
    ++ (number_line (front ++ codes "odm_group_depth") v.depth
    ++ (number_line (front ++ codes "odm_mirror_cnt") v.mirrors
    ++ number_line (front ++ codes "odm_raid_algorithm") v.algorithm))))

unfoldable pub layout_lines : List ℕ → Layout → List ℕ
layout_lines front v =
    map_lines (front ++ codes "olo_map.") v.olo_map
    ++ (number_line (front ++ codes "olo_comps_index") v.olo_comps_index
    ++ list_lines cred_lines (front ++ codes "olo_components") v.olo_components)

-- the enumeration, and behind it the value, if there is one
unfoldable pub target_lines : List ℕ → TargetId → List ℕ
target_lines front target.Anon = number_line (front ++ codes "oti_type") 1
target_lines front (target.ScsiName name) =
    number_line (front ++ codes "oti_type") 2 ++ opaque_line (front ++ codes "oti_value") name
target_lines front (target.ScsiDeviceId id) =
    number_line (front ++ codes "oti_type") 3 ++ opaque_line (front ++ codes "oti_value") id

unfoldable pub netaddr_lines : List ℕ → NetAddr → List ℕ
netaddr_lines front v =
    opaque_line (front ++ codes "na_r_netid") v.na_r_netid ++ opaque_line (front ++ codes "na_r_addr") v.na_r_addr

-- the bool of an address, and the address
abbrev pub targetaddr_lines : List ℕ → Option NetAddr → List ℕ
targetaddr_lines front o =
    optional_lines netaddr_lines (front ++ codes "oda_targetaddr.ota_available") (front ++ codes "oda_targetaddr.") o

unfoldable pub deviceaddr_lines : List ℕ → DeviceAddr → List ℕ
deviceaddr_lines front v =
    target_lines (front ++ codes "oda_targetid.") v.oda_targetid
    ++ (targetaddr_lines front v.oda_targetaddr
    ++ (opaque_line (front ++ codes "oda_lun") v.oda_lun
    ++ (opaque_line (front ++ codes "oda_systemid") v.oda_systemid
    ++ (cred_lines (front ++ codes "oda_root_obj_cred.") v.oda_root_obj_cred
    ++ opaque_line (front ++ codes "oda_osdname") v.oda_osdname))))

-- the bool of a delta, and the delta
abbrev pub delta_lines : List ℕ → Option ℤ → List ℕ
delta_lines front o = optional_lines signed_line (front ++ codes "dsu_valid") (front ++ codes "dsu_delta") o

unfoldable pub update_lines : List ℕ → LayoutUpdate → List ℕ
update_lines front v =
    delta_lines front v.dsu_delta
    ++ bool_line (front ++ codes "olu_ioerr_flag") v.olu_ioerr_flag

unfoldable pub ioerr_lines : List ℕ → IoErr → List ℕ
ioerr_lines front v =
    objid_lines (front ++ codes "oer_component.") v.oer_component
    ++ (number_line (front ++ codes "oer_comp_offset") v.oer_comp_offset
    ++ (number_line (front ++ codes "oer_comp_length") v.oer_comp_length
    ++ (bool_line (front ++ codes "oer_iswrite") v.oer_iswrite
    ++ number_line (front ++ codes "oer_errno") (errno_number v.oer_errno))))

unfoldable pub ioerrs_lines : List ℕ → IoErrs → List ℕ
ioerrs_lines front v = list_lines ioerr_lines (front ++ codes "olr_ioerr_report") v.olr_ioerr_report

-- a number whose bool has the number's path and `_set`
abbrev pub hint_part : List ℕ → Option ℕ → List ℕ
hint_part path o = optional_lines number_line (path ++ codes "_set") path o

unfoldable pub hint_lines : List ℕ → LayoutHint → List ℕ
hint_lines front v =
    hint_part (front ++ codes "max_comps") v.max_comps
    ++ (hint_part (front ++ codes "stripe_unit") v.stripe_unit
    ++ (hint_part (front ++ codes "group_width") v.group_width
    ++ (hint_part (front ++ codes "group_depth") v.group_depth
    ++ (hint_part (front ++ codes "mirror_cnt") v.mirror_cnt
    ++ hint_part (front ++ codes "raid_algorithm") v.raid_algorithm))))
