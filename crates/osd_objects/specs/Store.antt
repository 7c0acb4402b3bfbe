-- The objects of a drive by number, and the capacity that they share.
use Rattle.std.specs.Prelude.{◌≡◌, ℕ, ◌+◌, ◌-◌, ◌≤◌, List, [], ◌∷◌, length, Option, Some, None, IfSome}
use Rattle.std.specs.Ordering.{nat_cmp}
use Rattle.std.specs.List.{sum_by}
use Rattle.std.specs.BTreeMap.{is_at, insert_entry}
use Rattle.std.specs.Map.{lookup, set_value, values_of}
use Rattle.osd_objects.specs.declared.lanes.LaneEntry.{LaneEntry}
use Rattle.osd_objects.specs.declared.object.StoredObject.{StoredObject}
use Rattle.osd_objects.specs.Objects.{length_of, attribute_of}
use Rattle.osd_objects.specs.Lanes.{lane_of, HasRoom}

-- objects by number, in order
pub record StoreState : Type 0 where
  pub capacity : ℕ
  pub objects : List (ℕ × StoredObject)

abbrev pub empty_store : ℕ → StoreState
empty_store capacity = record { capacity = capacity; objects = [] }

abbrev pub object_at : StoreState → ℕ → Option StoredObject
object_at s object = lookup (is_at (nat_cmp object)) s.objects

-- what the objects take is the sum of their lengths, holes included
abbrev pub used_of : List (ℕ × StoredObject) → ℕ
used_of objects = sum_by length_of (values_of objects)

abbrev pub free_of : StoreState → ℕ
free_of s = s.capacity - used_of s.objects

-- ---- what is read of an object that may not be there

-- no object has no bytes
abbrev pub bytes_or_none : Option StoredObject → List ℕ
bytes_or_none None = []
bytes_or_none (Some o) = o.content.bytes

abbrev pub touched_or_none : Option StoredObject → List ℕ
touched_or_none None = []
touched_or_none (Some o) = o.content.touched

abbrev pub attribute_or_none : Option StoredObject → ℕ → Option (List ℕ)
attribute_or_none None number = None
attribute_or_none (Some o) number = attribute_of o number

abbrev pub lane_or_none : Option StoredObject → ℕ → Option LaneEntry
lane_or_none None holder = None
lane_or_none (Some o) holder = lane_of o.lanes holder

abbrev pub bytes_at : StoreState → ℕ → List ℕ
bytes_at s object = bytes_or_none (object_at s object)

abbrev pub attribute_at : StoreState → ℕ → ℕ → Option (List ℕ)
attribute_at s object number = attribute_or_none (object_at s object) number

-- no attribute has no bytes
abbrev pub attribute_bytes : Option (List ℕ) → List ℕ
attribute_bytes None = []
attribute_bytes (Some value) = value

-- ---- changes

-- one object more
abbrev pub with_object : StoreState → ℕ → StoredObject → StoreState
with_object s object o = record s { objects = insert_entry nat_cmp s.objects object o }

abbrev pub changed_if_there : StoreState → ℕ → (StoredObject → StoredObject) → Option StoredObject → StoreState
changed_if_there s object change None = s
changed_if_there s object change (Some o) =
    record s { objects = set_value (is_at (nat_cmp object)) s.objects (change o) }

-- one object changed, and no other
abbrev pub changed : StoreState → ℕ → (StoredObject → StoredObject) → StoreState
changed s object change = changed_if_there s object change (object_at s object)

-- how much longer an object of this length gets by bytes in a range
abbrev pub growth : ℕ → ℕ → List ℕ → ℕ
growth size offset [] = 0
growth size offset (b ∷ bytes) = (offset + length (b ∷ bytes)) - size

-- the growth by bytes in a range is free
abbrev pub HasSpace : StoreState → ℕ → ℕ → List ℕ → Type 0
HasSpace s object offset bytes = IfSome (object_at s object) (λ o. growth (length_of o) offset bytes ≤ free_of s)

-- the holder has a lane of the object, or there is room for one
abbrev pub HasLane : StoreState → ℕ → ℕ → Type 0
HasLane s object holder = IfSome (object_at s object) (λ o. HasRoom o.lanes holder)

-- no other object changed
abbrev pub AreOthersKept : StoreState → ℕ → StoreState → Type 0
AreOthersKept before object after = (q : ℕ) → (q ≡ object → ⊥) → object_at after q ≡ object_at before q

-- what is kept of the objects is what they take, and no more than the capacity
pub record IsCounted (capacity used : ℕ) (objects : List (ℕ × StoredObject)) : Type 0 where
  pub all : used ≡ used_of objects
  pub inside : used ≤ capacity
