-- An object, and what each change makes of it.
use Rattle.std.specs.Prelude.{ℕ, ◌+◌, ◌<◌, ◌⊎◌, List, [], ◌∷◌, length, Option, Some, IsSome, if◌then◌else◌, nat_eq}
use Rattle.std.specs.Int.{w32, w64, to_be_bytes}
use Rattle.std.specs.Ordering.{nat_cmp}
use Rattle.std.specs.BTreeMap.{insert_entry}
use Rattle.osd_objects.specs.declared.attributes.TheConstants.{FIRST_USER_ATTRIBUTE, MAX_ATTRIBUTES}
use Rattle.osd_objects.specs.declared.lanes.LaneEntry.{LaneEntry}
use Rattle.osd_objects.specs.declared.object.ObjectState.{ObjectState}
use Rattle.osd_objects.specs.declared.object.StoredObject.{StoredObject}
use Rattle.osd_objects.specs.declared.object.TheConstants.{LENGTH_ATTRIBUTE, TAG_ATTRIBUTE}
use Rattle.osd_objects.specs.Attributes.{value_of}
use Rattle.osd_objects.specs.Lanes.{with_lane}
use Rattle.osd_objects.specs.Sparse.{no_bytes, written}

-- ---- what is read of an object

abbrev pub length_of : StoredObject → ℕ
length_of o = length o.content.bytes

-- two attributes are the length and the tag, each as its bytes; the others are what was set
abbrev pub attribute_of : StoredObject → ℕ → Option (List ℕ)
attribute_of o number =
    if nat_eq number LENGTH_ATTRIBUTE then Some (to_be_bytes w64 (length_of o))
    else if nat_eq number TAG_ATTRIBUTE then Some (to_be_bytes w32 o.tag)
    else value_of o.attributes number

abbrev pub state_of : StoredObject → ObjectState
state_of o = record { length = length_of o; tag = o.tag; lanes = length o.lanes; user_attrs = length o.attributes }

-- ---- changes, each of which leaves its lane

-- an empty object with its label
abbrev pub created : ℕ → List ℕ → LaneEntry → StoredObject
created tag label lane = record {
  content = no_bytes;
  tag = tag;
  attributes = (FIRST_USER_ATTRIBUTE, label) ∷ [];
  lanes = lane ∷ [];
}

abbrev pub after_write : ℕ → List ℕ → LaneEntry → StoredObject → StoredObject
after_write offset bytes lane o = record o { content = written o.content offset bytes; lanes = with_lane o.lanes lane }

abbrev pub after_set_tag : LaneEntry → StoredObject → StoredObject
after_set_tag lane o = record o { tag = o.tag + 1; lanes = with_lane o.lanes lane }

abbrev pub after_set_attr : ℕ → List ℕ → LaneEntry → StoredObject → StoredObject
after_set_attr number value lane o = record o {
  attributes = insert_entry nat_cmp o.attributes number value;
  lanes = with_lane o.lanes lane;
}

-- the object has the attribute, or room for one more
abbrev pub TakesAttribute : StoredObject → ℕ → Type 0
TakesAttribute o number = IsSome (value_of o.attributes number) ⊎ (length o.attributes < MAX_ATTRIBUTES)
