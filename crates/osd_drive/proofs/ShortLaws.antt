-- Each attribute stays short, and so does each reply.
use Rattle.std.proofs.Common.{◌≡◌, ℕ, ◌≤◌, ◌&&◌, Bool, true, false, if◌then◌else◌, nat_eq, nat_lt, List, [], length, Option, Some, None, IfSome, refl, inl, inr, arith}
use Rattle.std.specs.Int.{w32, w64, to_be_bytes}
use Rattle.std.specs.Ordering.{nat_cmp}
use Rattle.std.specs.BTreeMap.{insert_entry}
use Rattle.std.proofs.lemmas.Bool.{cases_eq}
use Rattle.std.proofs.lemmas.List.{length-take}
use Rattle.osd_commands.specs.declared.actions.Action.{Action}
use Rattle.osd_commands.specs.declared.actions.Action.TheVariants.{Create, Read, Write, GetAttr, SetAttr, SetTag}
use Rattle.osd_commands.specs.declared.commands.Command.{Command}
use Rattle.osd_objects.specs.declared.object.StoredObject.{StoredObject}
use Rattle.osd_objects.specs.Attributes.{Values, value_of}
use Rattle.osd_objects.specs.Objects.{length_of}
use Rattle.osd_objects.specs.declared.object.TheConstants.{LENGTH_ATTRIBUTE, TAG_ATTRIBUTE}
use Rattle.osd_objects.specs.Store.{StoreState, attribute_bytes, attribute_or_none, changed, changed_if_there, object_at, with_object}
use Rattle.osd_objects.proofs.Entries.{lookup_inserted, lookup_beside, lookup_set, lookup_set_beside}
use Rattle.osd_drive.specs.declared.limits.TheConstants.{MAX_LENGTH, MAX_VALUE}
use Rattle.osd_drive.specs.declared.verdict.Verdict.TheVariants.{Perform}
use Rattle.osd_drive.specs.State.{view_of}
use Rattle.osd_drive.specs.Table.{has_value, late_fault_of}
use Rattle.osd_drive.specs.Effects.{effect_of, result_of}
use Rattle.osd_drive.specs.Short.{AreShort, HasShortValues}
use Rattle.osd_drive.proofs.Clear.{clear_late}

inserted-short : (values : Values) (number : ℕ) (value : List ℕ) → length value ≤ MAX_VALUE → AreShort values →
    AreShort (insert_entry nat_cmp values number value)
inserted-short values number value short others q = elim (cases_eq q number) [
  | inl same ↦ rw (same, lookup_inserted values number value) short
  | inr other ↦ rw (lookup_beside values number q value other) (others q)
]

object-put : (s : StoreState) (object : ℕ) (o : StoredObject) → AreShort o.attributes → HasShortValues s →
    HasShortValues (with_object s object o)
object-put s object o short others q = elim (cases_eq q object) [
  | inl same ↦ rw (same, lookup_inserted s.objects object o) short
  | inr other ↦ rw (lookup_beside s.objects object q o other) (others q)
]

changed-if : (s : StoreState) (object : ℕ) (change : StoredObject → StoredObject) (o : Option StoredObject) →
    object_at s object ≡ o
    → ((x : StoredObject) → AreShort x.attributes → AreShort (change x).attributes) → HasShortValues s →
    HasShortValues (changed_if_there s object change o)
changed-if s object change None e keeps others = others
changed-if s object change (Some o) e keeps others = λ q. elim (cases_eq q object) [
  | inl same ↦ rw (same, lookup_set s.objects object (change o) (rw e refl)) (keeps o (rw e at (others object)))
  | inr other ↦ rw (lookup_set_beside s.objects object q (change o) other) (others q)
]

changed-short : (s : StoreState) (object : ℕ) (change : StoredObject → StoredObject)
    → ((x : StoredObject) → AreShort x.attributes → AreShort (change x).attributes) → HasShortValues s →
    HasShortValues (changed s object change)
changed-short s object change keeps others = changed-if s object change (object_at s object) refl keeps others

fits-value : (n : ℕ) → nat_lt MAX_VALUE n ≡ false → n ≤ MAX_VALUE
fits-value n e = grind (arith, e)

effect-short : (a : Action) (s : StoreState) (c : Command) → (has_value a && nat_lt MAX_VALUE (length c.payload)) ≡ false →
    HasShortValues s → HasShortValues (effect_of a s c)
effect-short Create s c fits others =
    object-put s c.object _ (inserted-short [] _ c.payload (fits-value _ fits) (λ number. omega arith)) others
effect-short Read s c fits others = others
effect-short Write s c fits others = changed-short s c.object _ (λ o short. short) others
effect-short GetAttr s c fits others = others
effect-short SetAttr s c fits others =
    changed-short s c.object _ (λ o short. inserted-short o.attributes c.attribute c.payload (fits-value _ fits) short) others
effect-short SetTag s c fits others = changed-short s c.object _ (λ o short. short) others

-- a command without a fault leaves each attribute short
pub keeps-short : (s : StoreState) (c : Command) → late_fault_of (view_of s c) c ≡ Perform → HasShortValues s →
    HasShortValues (effect_of c.action s c)
keeps-short s c clear others = effect-short c.action s c (clear_late _ _ clear).value others

-- ---- replies

chosen-short : (is_length is_tag : Bool) (eight four : List ℕ) (value : Option (List ℕ)) → length eight ≤ 8 → length four ≤ 8 →
    length (attribute_bytes value) ≤ MAX_VALUE
    → length (attribute_bytes (if is_length then Some eight else if is_tag then Some four else value)) ≤ MAX_VALUE
chosen-short true is_tag eight four value e f v = omega (arith, e)
chosen-short false true eight four value e f v = omega (arith, f)
chosen-short false false eight four value e f v = v

attribute-short : (o : Option StoredObject) (number : ℕ) → IfSome o (λ x. AreShort x.attributes) →
    length (attribute_bytes (attribute_or_none o number)) ≤ MAX_VALUE
attribute-short None number short = omega arith
attribute-short (Some o) number short =
    let eight : length (to_be_bytes w64 (length_of o)) ≤ 8 = omega arith in
    let four : length (to_be_bytes w32 o.tag) ≤ 8 = omega arith in
    chosen-short (nat_eq number LENGTH_ATTRIBUTE) (nat_eq number TAG_ATTRIBUTE) _ _ (value_of o.attributes number) eight four
    (short number)

result-short : (a : Action) (s : StoreState) (c : Command) → nat_lt MAX_LENGTH c.length ≡ false → HasShortValues s →
    length (result_of a s c).payload ≤ MAX_LENGTH
result-short Create s c fits short = omega arith
result-short Read s c fits short = rw length-take (grind (arith, fits))
result-short Write s c fits short = omega arith
result-short GetAttr s c fits short = let few = attribute-short (object_at s c.object) c.attribute (short c.object) in
    omega (arith, few)
result-short SetAttr s c fits short = omega arith
result-short SetTag s c fits short = omega arith

pub reply-short : (s : StoreState) (c : Command) → late_fault_of (view_of s c) c ≡ Perform → HasShortValues s →
    length (result_of c.action s c).payload ≤ MAX_LENGTH
reply-short s c clear short = result-short c.action s c (clear_late _ _ clear).size short
