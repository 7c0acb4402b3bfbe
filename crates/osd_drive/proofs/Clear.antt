-- What no fault says: none of the rows applies.
use Rattle.std.proofs.Common.{◌≡◌, ℕ, ◌+◌, List, [], ◌∷◌, ◌++◌, length, Bool, true, false, ◌&&◌, ◌||◌, if◌then◌else◌, nat_eq, nat_lt, nat_le, bit_and, ◌↔◌, ◌≤◌, refl, sym, ap, ◌∙◌, arith}
use Rattle.std.proofs.lemmas.Bool.{and_parts, or_parts}
use Rattle.osd_commands.specs.declared.actions.Action.TheVariants.{SetAttr}
use Rattle.osd_commands.specs.declared.commands.Command.{Command}
use Rattle.osd_commands.specs.Actions.{right_of}
use Rattle.osd_objects.specs.declared.attributes.TheConstants.{FIRST_USER_ATTRIBUTE}
use Rattle.osd_drive.specs.declared.limits.TheConstants.{MAX_LENGTH, MAX_END, MAX_VALUE, MAX_TAG, MAX_OBJECTS}
use Rattle.osd_drive.specs.declared.store_view.StoreView.{StoreView}
use Rattle.osd_drive.specs.declared.verdict.Verdict.{Verdict}
use Rattle.osd_drive.specs.declared.verdict.Verdict.TheVariants as verdict
use Rattle.osd_drive.specs.State.{DriveState, view_of}
use Rattle.osd_drive.specs.Table.{is_create, is_set_attr, is_set_tag, has_range, has_value, of_object, finds_object, lacks_space, lacks_lane, lacks_attribute, Row, early_rows, late_rows, first_row, NoneApplies, late_fault_of, rows_on_object, late_fault, all_rows, first_fault, IsReady}

abbrev pub refuses : Verdict → Bool
refuses verdict.Perform = false
refuses v = true

abbrev pub all_refuse : List Row → Bool
all_refuse [] = true
all_refuse (r ∷ rows) = refuses r.1 && all_refuse rows

-- a row doesn't apply where the verdict is Perform
row_passes : (b : Bool) (v w : Verdict) → refuses v ≡ true → (if b then v else w) ≡ verdict.Perform →
    (b ≡ false) × (w ≡ verdict.Perform)
row_passes true v w refusal e = absurd (cc (sym (ap refuses e) ∙ refusal))
row_passes false v w refusal e = (refl, e)

pub none_applies : (rows : List Row) → all_refuse rows ≡ true → first_row rows ≡ verdict.Perform → NoneApplies rows
none_applies [] refusals e = tt
none_applies (r ∷ rows) refusals e =
    let rest = and_parts (refuses r.1) (all_refuse rows) refusals in
    let row = row_passes r.0 r.1 (first_row rows) rest.0 e in
    (row.0, none_applies rows rest.1 row.1)

pub performs_where_none : (rows : List Row) → NoneApplies rows → first_row rows ≡ verdict.Perform
performs_where_none [] none = refl
performs_where_none (r ∷ rows) none = rw none.0 (performs_where_none rows none.1)

pub late_told : (d : DriveState) (c : Command) → (late_fault d c ≡ verdict.Perform) ↔ NoneApplies (rows_on_object d c)
unfolding late_fault_of
late_told d c = (none_applies (rows_on_object d c) refl, performs_where_none (rows_on_object d c))

pub all_told : (d : DriveState) (now : ℕ) (c : Command) → (first_fault d now c ≡ verdict.Perform) ↔ NoneApplies (all_rows d now c)
unfolding first_fault
all_told d now c = (none_applies (all_rows d now c) refl, performs_where_none (all_rows d now c))

-- what the rows on the object say, where none of them applies
pub record IsClear (s : StoreView) (c : Command) : Type 0 where
  pub finds : finds_object s c ≡ false
  pub size : nat_lt MAX_LENGTH c.length ≡ false
  pub value : (has_value c.action && nat_lt MAX_VALUE (length c.payload)) ≡ false
  pub range : (has_range c.action && nat_lt MAX_END (c.offset + c.length)) ≡ false
  pub tag : (is_set_tag c.action && of_object (λ o. nat_eq o.tag MAX_TAG) s.object) ≡ false
  pub space : lacks_space s c ≡ false
  pub lane : lacks_lane s c ≡ false
  pub attribute : lacks_attribute s c ≡ false

pub clear_late : (s : StoreView) (c : Command) → late_fault_of s c ≡ verdict.Perform → IsClear s c
unfolding late_fault_of
clear_late s c e =
    let rows = none_applies (late_rows s c) refl e in
    let range = has_range c.action && nat_lt MAX_END (c.offset + c.length) in
    let value = has_value c.action && nat_lt MAX_VALUE (length c.payload) in
    let tag = is_set_tag c.action && of_object (λ o. nat_eq o.tag MAX_TAG) s.object in
    let count = is_create c.action && nat_le MAX_OBJECTS s.objects in
    let past_length = or_parts (nat_lt MAX_LENGTH c.length) (range || (value || (tag || count))) rows.1.1.1.0 in
    let past_range = or_parts range (value || (tag || count)) past_length.1 in
    let past_value = or_parts value (tag || count) past_range.1 in
    record {
      finds = rows.1.0;
      size = past_length.0;
      value = past_value.0;
      range = past_range.0;
      tag = (or_parts tag count past_value.1).0;
      space = rows.1.1.1.1.0;
      lane = rows.1.1.1.1.1.0;
      attribute = rows.1.1.1.1.1.1.1.0;
    }

-- what is left of the table past the rows that don't ask what objects there are
pub past_early : (early late : List Row) → all_refuse early ≡ true → first_row (early ++ late) ≡ verdict.Perform →
    NoneApplies early × (first_row late ≡ verdict.Perform)
past_early [] late refusals e = (tt, e)
past_early (r ∷ rows) late refusals e =
    let rest = and_parts (refuses r.1) (all_refuse rows) refusals in
    let row = row_passes r.0 r.1 (first_row (rows ++ late)) rest.0 e in
    let more = past_early rows late rest.1 row.1 in
    ((row.0, more.0), more.1)

-- a command without any fault has none of the object, and a SET ATTR names a user's attribute
pub clear_early : (d : DriveState) (now : ℕ) (c : Command) → first_fault d now c ≡ verdict.Perform →
    (late_fault_of (view_of d.store c) c ≡ verdict.Perform) ×
    ((is_set_attr c.action && nat_lt c.attribute FIRST_USER_ATTRIBUTE) ≡ false)
unfolding first_fault late_fault_of
clear_early d now c e =
    let past = past_early (early_rows d now c) (late_rows (view_of d.store c) c) refl e in (
      past.1,
      (or_parts (nat_eq (bit_and c.capability.rights (right_of c.action)) 0)
          (is_set_attr c.action && nat_lt c.attribute FIRST_USER_ATTRIBUTE) past.0.1.1.1.1.0).1,
    )

names_user : (d : DriveState) (now : ℕ) (c : Command) → first_fault d now c ≡ verdict.Perform → c.action ≡ SetAttr →
    FIRST_USER_ATTRIBUTE ≤ c.attribute
names_user d now c e sets = let early = rw sets at (clear_early d now c e).1 in grind (arith, early)

pub ready : (d : DriveState) (now : ℕ) (c : Command) → first_fault d now c ≡ verdict.Perform → IsReady d c
ready d now c e = record { late = (clear_early d now c e).0; attribute = names_user d now c e }
