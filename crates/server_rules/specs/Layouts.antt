-- The layout that an answer carries.
use Rattle.std.specs.Prelude.{ℕ, false, List, [], ◌∷◌, ◌++◌, ◌+◌, ◌-◌, ◌*◌, replicate, if◌then◌else◌}
use Rattle.std.specs.Int.{w32, w64, to_be_bytes}
use Rattle.data_map.specs.Striping.{stripe_length}
use Rattle.osd_capability.specs.declared.keys.CapKey.{CapKey}
use Rattle.osd_capability.specs.declared.keys.CapKey.TheVariants.{One, Two}
use Rattle.osd_capability.specs.Layout.{spelling}
use Rattle.osd_capability.specs.Keys.{key_of}
use Rattle.layout_types.specs.declared.objid.ObjId.{ObjId}
use Rattle.layout_types.specs.declared.cred.ObjectCred.{ObjectCred}
use Rattle.layout_types.specs.declared.cred.OsdVersion.TheVariants as version
use Rattle.layout_types.specs.declared.cred.KeySecurity.TheVariants as security
use Rattle.layout_types.specs.declared.layout.Layout.{Layout}
use Rattle.layout_types.specs.Spelling.{layout_item}
use Rattle.layout_ops.specs.declared.items.StateId.{StateId}
use Rattle.layout_ops.specs.declared.results.LayoutSegment.{LayoutSegment}
use Rattle.layout_ops.specs.declared.results.LayoutGetOk.{LayoutGetOk}
use Rattle.layout_ops.specs.declared.statuses.TheConstants.{LAYOUTIOMODE4_READ, LAYOUTIOMODE4_RW}
use Rattle.server_rules.specs.declared.limits.TheConstants.{READ_RIGHTS, WRITE_RIGHTS, KEY_VERSION, FIRST_PARTITION}
use Rattle.server_rules.specs.State.{Kept, Component, Grant, Stripes, Capability, Drive}
use Rattle.server_rules.specs.Maps.{group_with, rows_in}
use Rattle.server_rules.specs.Commands.{key_at}

-- ---- the capability of a component

-- under a grant, whether it is missing or not: these rows of the component
abbrev pub capability_on : Kept → Grant → Component → Stripes → Capability
capability_on f g at rows = record {
  format = f.format;
  key_version = KEY_VERSION;
  rights = if g.rw then WRITE_RIGHTS else READ_RIGHTS;
  expiry = g.expiry;
  grant = g.number;
  holder = g.client;
  tag = f.tag;
  partition = FIRST_PARTITION + at.drive;
  object = at.object;
  range_start = rows.first * f.map.unit;
  range_len = (rows.end - rows.first) * f.map.unit;
}

-- the capability for component k: the rows that the granted stripes have there
abbrev pub capability_for : Kept → Grant → Component → (k : ℕ) → Capability
capability_for f g at k = capability_on f g at (rows_in f.map (group_with f.map k) g.first g.end)

-- ---- its credential

-- the 16 bytes that name a drive
abbrev pub device_of : (drive : ℕ) → List ℕ
device_of drive = replicate 8 0 ++ to_be_bytes w64 drive

-- the object of a component, its last one where it is missing
abbrev pub object_of : Component → ObjId
object_of at = record {
  oid_device_id = device_of at.drive;
  oid_partition_id = FIRST_PARTITION + at.drive;
  oid_object_id = at.object;
}

-- the bytes of a key
abbrev pub key_bytes : CapKey → List ℕ
key_bytes (One key) = key
key_bytes (Two key) = key

-- a capability with its key in clear
abbrev pub credential_with : Component → CapKey → Capability → ObjectCred
credential_with at key c = record {
  oc_object_id = object_of at;
  oc_osd_version = version.Version2;
  oc_cap_key_sec = security.None;
  oc_capability_key = key_bytes key;
  oc_capability = spelling c;
}

-- no capability
abbrev pub no_credential : Component → ObjectCred
no_credential at = record {
  oc_object_id = object_of at;
  oc_osd_version = version.Missing;
  oc_cap_key_sec = security.None;
  oc_capability_key = [];
  oc_capability = [];
}

-- the credential of component k, as if it were present
unfoldable pub credential : List Drive → Kept → Grant → Component → (k : ℕ) → ObjectCred
credential ds f g at k =
    credential_with at (key_of (key_at ds at.drive) (capability_for f g at k)) (capability_for f g at k)

-- the credentials of the components from number k on; a missing one has no capability
unfoldable pub credentials_from : List Drive → Kept → Grant → List Component → (k : ℕ) → List ObjectCred
credentials_from ds f g [] k = []
credentials_from ds f g (at ∷ cs) k =
    (if at.missing then no_credential at else credential ds f g at k) ∷ credentials_from ds f g cs (k + 1)

-- ---- the layout

-- every component
abbrev pub layout_for : List Drive → Kept → Grant → Layout
layout_for ds f g = record {
  olo_map = f.map;
  olo_comps_index = 0;
  olo_components = credentials_from ds f g f.components 0;
}

-- the layout as the bytes of an answer
unfoldable pub body_of : Layout → List ℕ
body_of l = layout_item l

-- what names a grant: 8 bytes of zeros, and its number
abbrev pub stateid_of : (grant : ℕ) → StateId
stateid_of number = record { seqid = 1; other = replicate 8 0 ++ to_be_bytes w32 number }

-- the stripes of the grant, in bytes of the file
abbrev pub segment_for : List Drive → Kept → Grant → LayoutSegment
segment_for ds f g = record {
  offset = g.first * stripe_length f.map;
  length = (g.end - g.first) * stripe_length f.map;
  iomode = if g.rw then LAYOUTIOMODE4_RW else LAYOUTIOMODE4_READ;
  body = body_of (layout_for ds f g);
}

-- what LAYOUTGET gives
abbrev pub granted : List Drive → Kept → Grant → LayoutGetOk
granted ds f g = record { return_on_close = false; stateid = stateid_of g.number; layouts = segment_for ds f g ∷ [] }
