-- The layout of an answer: the grant that a client takes from it, or why it doesn't.
use Rattle.std.specs.Prelude.{ℕ, Bool, true, false, not, List, [], ◌∷◌, Option, Some, None, Result, Ok, Err, ◌+◌, ◌-◌, ◌==◌, ◌&&◌, ◌||◌, nat_lt, min, length, is_some, is_err, if◌then◌else◌}
use Rattle.std.specs.Int.{w128, from_be_bytes}
use Rattle.std.specs.List.{list_any}
use Rattle.data_map.specs.declared.ranges.TheConstants.{MAX_FILE_SIZE}
use Rattle.data_map.specs.Check.{checked}
use Rattle.layout_types.specs.declared.err.LayoutErr.{LayoutErr}
use Rattle.layout_types.specs.declared.cred.ObjectCred.{ObjectCred}
use Rattle.layout_types.specs.declared.cred.OsdVersion.{OsdVersion}
use Rattle.layout_types.specs.declared.cred.OsdVersion.TheVariants.{Missing, Version1, Version2}
use Rattle.layout_types.specs.declared.cred.KeySecurity.{KeySecurity}
use Rattle.layout_types.specs.declared.cred.KeySecurity.TheVariants.{None as InClear, Ssv as UnderSsv}
use Rattle.layout_types.specs.declared.layout.Layout.{Layout}
use Rattle.layout_types.specs.Grammar.{whole}
use Rattle.layout_types.specs.Reading.{layout_in}
use Rattle.layout_ops.specs.declared.statuses.TheConstants.{LAYOUTIOMODE4_RW}
use Rattle.layout_ops.specs.declared.results.LayoutSegment.{LayoutSegment}
use Rattle.layout_ops.specs.declared.results.LayoutGetOk.{LayoutGetOk}
use Rattle.osd_capability.specs.declared.layout.TheConstants.{FORMAT_SHA1}
use Rattle.osd_capability.specs.declared.layout.CapErr.{CapErr}
use Rattle.osd_capability.specs.declared.keys.TheConstants.{SHA1_TAG_BYTES, CHECK_BYTES}
use Rattle.osd_capability.specs.declared.keys.CapKey.{CapKey}
use Rattle.osd_capability.specs.declared.keys.CapKey.TheVariants.{One, Two}
use Rattle.osd_capability.specs.Layout as capabilities
use Rattle.stripe_plan.specs.Touched.{stripes}
use Rattle.stripe_plan.specs.Lost.{unwritable}
use Rattle.client_rules.specs.declared.limits.TheConstants.{MAX_DRIVE, MAX_FILE_COMPONENTS}
use Rattle.client_rules.specs.State.{CallOp, Listed, Reach, Held, Why, Unreadable, Index, Partial, Secured, BadMap, BadCredential, Answer, Capability, RawMap, Span}
use Rattle.client_rules.specs.Calls.{file_of, is_write}
use Rattle.client_rules.specs.Grants.{is_for, missing_of}
use Rattle.client_rules.specs.Requests.{asked_span, grant_in}
use Rattle.client_rules.specs.Results.{layouts_in}

-- ---- credentials

-- a device id is the drive's number
abbrev pub drive_of : List ℕ → ℕ
drive_of id = from_be_bytes w128 id

-- a key is as long as those of the capability's format
abbrev pub key_of : (format : ℕ) → List ℕ → Option CapKey
key_of format key =
    if format == FORMAT_SHA1
    then (if length key == SHA1_TAG_BYTES then Some (One key) else None)
    else (if length key == CHECK_BYTES then Some (Two key) else None)

-- with a key that fits
abbrev pub with_key : ObjectCred → Capability → Option CapKey → Option Listed
with_key o c None = None
with_key o c (Some key) = Some (record {
  id = o.oc_object_id;
  credential = Some (record { drive = drive_of o.oc_object_id.oid_device_id; key = key; capability = c });
})

-- with a capability that can be read
abbrev pub with_capability : ObjectCred → Result Capability CapErr → Option Listed
with_capability o (Err e) = None
with_capability o (Ok c) = with_key o c (key_of c.format o.oc_capability_key)

-- a missing component has none; there are no drives of version 1
abbrev pub with_version : ObjectCred → OsdVersion → Option Listed
with_version o Missing = Some (record { id = o.oc_object_id; credential = None })
with_version o Version1 = None
with_version o Version2 =
    if nat_lt MAX_DRIVE (drive_of o.oc_object_id.oid_device_id) then None
    else with_capability o (capabilities.reading o.oc_capability)

-- a component as the client keeps it, where its credential can be used
unfoldable pub listed : ObjectCred → Option Listed
listed o = with_version o o.oc_osd_version

-- one more component, if none fails
abbrev pub and_listed : Option Listed → Option (List Listed) → Option (List Listed)
and_listed None rest = None
and_listed (Some l) None = None
and_listed (Some l) (Some ls) = Some (l ∷ ls)

-- all of them
unfoldable pub all_listed : List ObjectCred → Option (List Listed)
all_listed [] = Some []
all_listed (o ∷ os) = and_listed (listed o) (all_listed os)

-- ---- what stands against a layout

-- a key isn't in clear
abbrev pub is_secured : KeySecurity → Bool
is_secured InClear = false
is_secured UnderSsv = true

-- some key isn't
abbrev pub any_secured : List ObjectCred → Bool
any_secured os = list_any (λ (o : ObjectCred). is_secured o.oc_cap_key_sec) os

-- a map that can be used
abbrev pub is_map : RawMap → Bool
is_map m = not (is_err (checked m) || nat_lt MAX_FILE_COMPONENTS m.comps)

-- the first that stands against it, but for credentials
unfoldable pub first_why : Reach → (size : ℕ) → CallOp → Layout → Option Why
first_why g size op l =
    if not (is_for g size op) then Some Unreadable
    else if not (l.olo_comps_index == 0) then Some Index
    else if not (length l.olo_components == l.olo_map.comps) then Some Partial
    else if any_secured l.olo_components then Some Secured
    else if not (is_map l.olo_map) then Some BadMap
    else None

-- ---- the grant

-- for the bytes of the answer: extending as the server gives it, where what was asked passes the size
abbrev pub reach_of : (size : ℕ) → CallOp → LayoutSegment → Reach
reach_of size op g = record {
  rw = g.iomode == LAYOUTIOMODE4_RW;
  extending = (g.iomode == LAYOUTIOMODE4_RW) && nat_lt size ((asked_span op).offset + (asked_span op).length);
  first = g.offset;
  end = min (g.offset + g.length) MAX_FILE_SIZE;
}

-- under which no command was sent yet
abbrev pub fresh : (file number size : ℕ) → Reach → RawMap → List Listed → Held
fresh file number size g m ls = record {
  file = file;
  number = number;
  reach = g;
  size = size;
  map = m;
  components = ls;
  count = 0;
}

-- its bytes
abbrev pub granted_span : Reach → Span
granted_span g = record { offset = g.first; length = g.end - g.first }

-- a stripe of what was asked or granted lacks more positions than its parity brings back
unfoldable pub is_lacking : Held → CallOp → Bool
is_lacking h op =
    is_some (unwritable h.map (missing_of h) (stripes h.map (asked_span op)))
    || is_some (unwritable h.map (missing_of h) (stripes h.map (granted_span h.reach)))

-- what is for writing must leave each stripe enough
unfoldable pub enough : Held → CallOp → Result Held Why
enough h op = if (is_write op || h.reach.rw) && is_lacking h op then Err BadCredential else Ok h

-- by the components
abbrev pub with_listed : Answer → (number : ℕ) → CallOp → Reach → Layout → Option (List Listed) → Result Held Why
with_listed a number op g l None = Err BadCredential
with_listed a number op g l (Some ls) = enough (fresh (file_of op) number a.size g l.olo_map ls) op

-- unless something stands against it
abbrev pub unless_why : Answer → (number : ℕ) → CallOp → Reach → Layout → Option Why → Result Held Why
unless_why a number op g l (Some w) = Err w
unless_why a number op g l None = with_listed a number op g l (all_listed l.olo_components)

-- by its body
abbrev pub with_body : Answer → (number : ℕ) → CallOp → Reach → Result Layout LayoutErr → Result Held Why
with_body a number op g (Err e) = Err Unreadable
with_body a number op g (Ok l) = unless_why a number op g l (first_why g a.size op l)

-- there has to be one layout
abbrev pub one_layout : Answer → (number : ℕ) → CallOp → List LayoutSegment → Result Held Why
one_layout a number op [] = Err Unreadable
one_layout a number op (g ∷ []) = with_body a number op (reach_of a.size op g) (whole layout_in g.body)
one_layout a number op (g ∷ f ∷ gs) = Err Unreadable

-- what a LAYOUTGET gave
abbrev pub in_layouts : Answer → CallOp → Option LayoutGetOk → Result Held Why
in_layouts a op None = Err Unreadable
in_layouts a op (Some ok) = one_layout a (grant_in ok.stateid) op ok.layouts

-- the grant that a client takes from the answer to the call's LAYOUTGET, or why it takes none
unfoldable pub taken : Answer → CallOp → Result Held Why
taken a op = in_layouts a op (layouts_in a.results)
