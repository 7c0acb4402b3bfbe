-- A command without fault meets what its change of the objects asks.
use Rattle.std.proofs.Common.{◌≡◌, ◌≢◌, ℕ, ◌+◌, ◌-◌, ◌<◌, ◌≤◌, ◌⊎◌, List, [], ◌∷◌, length, false, not, ◌&&◌, nat_eq, nat_lt, nat_le, is_some, is_none, Option, Some, None, IsSome, IsNone, IfSome, refl, arith, inl, inr}
use Rattle.std.specs.Option.{option_map}
use Rattle.osd_objects.specs.declared.attributes.TheConstants.{FIRST_USER_ATTRIBUTE, MAX_ATTRIBUTES}
use Rattle.osd_objects.specs.declared.lanes.TheConstants.{MAX_LANES}
use Rattle.osd_drive.specs.declared.limits.TheConstants.{MAX_TAG}
use Rattle.osd_objects.specs.declared.lanes.LaneEntry.{LaneEntry}
use Rattle.osd_objects.specs.declared.object.StoredObject.{StoredObject}
use Rattle.osd_objects.specs.Lanes.{place_of, lane_at, HasRoom}
use Rattle.osd_objects.specs.Objects.{length_of, state_of, TakesAttribute}
use Rattle.osd_objects.specs.Store.{lane_or_none, attribute_or_none, growth}
use Rattle.osd_drive.specs.Table.{of_object}

pub absent : (o : Option StoredObject) → is_some (option_map state_of o) ≡ false → IsNone o
absent None e = refl
absent (Some o) e = absurd (cc e)

room_by_place : (lanes : List LaneEntry) (place : Option ℕ) →
    (is_none (lane_at lanes place) && nat_le MAX_LANES (length lanes)) ≡ false → IsSome place ⊎ (length lanes < MAX_LANES)
room_by_place lanes (Some i) e = inl refl
room_by_place lanes None e = inr (grind (arith, e))

pub has_room : (o : Option StoredObject) (holder : ℕ) →
    (is_none (lane_or_none o holder) && of_object (λ s. nat_le MAX_LANES s.lanes) (option_map state_of o)) ≡ false →
    IfSome o (λ x. HasRoom x.lanes holder)
has_room None holder e = tt
has_room (Some o) holder e = room_by_place o.lanes (place_of o.lanes holder) e

within : (size offset free : ℕ) (bytes : List ℕ) →
    (nat_lt 0 (length bytes) && nat_lt free ((offset + length bytes) - size)) ≡ false → growth size offset bytes ≤ free
within size offset free [] e = omega arith
within size offset free (b ∷ bytes) e = grind (arith, e)

pub has_space : (o : Option StoredObject) (offset free : ℕ) (bytes : List ℕ) →
    (nat_lt 0 (length bytes) && of_object (λ s. nat_lt free ((offset + length bytes) - s.length)) (option_map state_of o))
    ≡ false →
    IfSome o (λ x. growth (length_of x) offset bytes ≤ free)
has_space None offset free bytes e = tt
has_space (Some o) offset free bytes e = within (length_of o) offset free bytes e

pub other_tag : (o : Option StoredObject) → of_object (λ s. nat_eq s.tag MAX_TAG) (option_map state_of o) ≡ false →
    IfSome o (λ x. x.tag ≢ MAX_TAG)
other_tag None e = tt
other_tag (Some o) e = λ same. absurd (grind (arith, e, same))

pub takes_attribute : (o : Option StoredObject) (number : ℕ) → FIRST_USER_ATTRIBUTE ≤ number →
    (not (is_some (attribute_or_none o number)) && of_object (λ s. nat_le MAX_ATTRIBUTES s.user_attrs) (option_map state_of o))
    ≡ false →
    IfSome o (λ x. TakesAttribute x number)
takes_attribute None number user e = tt
takes_attribute (Some o) number user e = grind (arith, e, user)
