-- The table of verdicts. Each row has a test of its own; the first row whose test holds is the verdict.
use Rattle.std.specs.Prelude.{◌≡◌, ℕ, ◌+◌, ◌-◌, ◌≤◌, List, [], ◌∷◌, ◌++◌, length, Bool, true, false, not, ◌&&◌, ◌||◌, if◌then◌else◌, nat_eq, nat_lt, nat_le, bit_and, Option, Some, None, is_some, is_none}
use Rattle.std.specs.Cmp.Lexicographic.{pointwise}
use Rattle.osd_capability.specs.Keys.{key_of, check_of}
use Rattle.osd_commands.specs.declared.actions.Action.{Action}
use Rattle.osd_commands.specs.declared.actions.Action.TheVariants.{Create, Read, Write, GetAttr, SetAttr, SetTag}
use Rattle.osd_commands.specs.declared.commands.Command.{Command}
use Rattle.osd_commands.specs.Actions.{right_of}
use Rattle.osd_commands.specs.Commands.{head}
use Rattle.osd_objects.specs.declared.lanes.LaneEntry.{LaneEntry}
use Rattle.osd_objects.specs.declared.object.ObjectState.{ObjectState}
use Rattle.osd_objects.specs.declared.attributes.TheConstants.{FIRST_USER_ATTRIBUTE, MAX_ATTRIBUTES}
use Rattle.osd_objects.specs.declared.lanes.TheConstants.{MAX_LANES}
use Rattle.osd_drive.specs.declared.limits.TheConstants.{FIRST_PARTITION, MAX_LENGTH, MAX_END, MAX_VALUE, MAX_TAG, MAX_OBJECTS}
use Rattle.osd_drive.specs.declared.keys.DriveKey.{DriveKey}
use Rattle.osd_drive.specs.declared.store_view.StoreView.{StoreView}
use Rattle.osd_drive.specs.declared.verdict.Verdict.{Verdict}
use Rattle.osd_drive.specs.declared.verdict.Verdict.TheVariants as verdict
use Rattle.osd_drive.specs.State.{DriveState, key_of_version, view_of}

-- ---- actions

abbrev pub is_create : Action → Bool
is_create Create = true
is_create _ = false

abbrev pub is_write : Action → Bool
is_write Write = true
is_write _ = false

abbrev pub is_set_attr : Action → Bool
is_set_attr SetAttr = true
is_set_attr _ = false

abbrev pub is_set_tag : Action → Bool
is_set_tag SetTag = true
is_set_tag _ = false

-- a READ and a WRITE have a range of bytes
abbrev pub has_range : Action → Bool
has_range Read = true
has_range Write = true
has_range _ = false

-- a CREATE and a SET ATTR have a value for an attribute
abbrev pub has_value : Action → Bool
has_value Create = true
has_value SetAttr = true
has_value _ = false

-- all but a READ and a GET ATTR change an object
abbrev pub is_mutating : Action → Bool
is_mutating Read = false
is_mutating GetAttr = false
is_mutating _ = true

-- ---- a test of what may not be there

abbrev pub of_object : (ObjectState → Bool) → Option ObjectState → Bool
of_object test None = false
of_object test (Some o) = test o

abbrev pub of_lane : (LaneEntry → Bool) → Option LaneEntry → Bool
of_lane test None = false
of_lane test (Some l) = test l

-- ---- the rows that don't ask what objects there are

-- 17: the capability's format is less than the least
abbrev pub has_old_format : DriveState → Command → Bool
has_old_format d c = nat_lt c.capability.format d.least

-- 1: there is no key of the capability's version
abbrev pub has_no_key : DriveState → Command → Bool
has_no_key d c = is_none (key_of_version d.keys c.capability.key_version)

-- the check value is the one that the key gives
abbrev pub is_checked : List ℕ → Command → Bool
is_checked key c = pointwise nat_eq c.check (check_of (key_of key c.capability) (head c ++ c.payload))

abbrev pub fails_check : Option DriveKey → Command → Bool
fails_check None c = false
fails_check (Some k) c = not (is_checked k.key c)

-- 2: the check value is another
abbrev pub has_wrong_check : DriveState → Command → Bool
has_wrong_check d c = fails_check (key_of_version d.keys c.capability.key_version) c

-- 3: the clock is past the expiry
abbrev pub is_expired : ℕ → Command → Bool
is_expired now c = nat_lt c.capability.expiry now

-- 4: the right is missing, or a SET ATTR names an attribute that is no user's
abbrev pub has_no_right : Command → Bool
has_no_right c =
    nat_eq (bit_and c.capability.rights (right_of c.action)) 0
    || (is_set_attr c.action && nat_lt c.attribute FIRST_USER_ATTRIBUTE)

-- 5: the capability is for another object, or the partition is another drive's
abbrev pub is_elsewhere : ℕ → Command → Bool
is_elsewhere number c = not (nat_eq c.partition c.capability.partition
    && (nat_eq c.object c.capability.object && nat_eq c.partition (FIRST_PARTITION + number)))

-- 6: the range isn't inside the capability's; an empty one may stand at either end
abbrev pub is_out_of_range : Command → Bool
is_out_of_range c = has_range c.action && not (nat_le c.capability.range_start c.offset
    && nat_le (c.offset + c.length) (c.capability.range_start + c.capability.range_len))

-- ---- the rows on the object

-- 7: it isn't there, and the command doesn't make it
abbrev pub lacks_object : StoreView → Command → Bool
lacks_object s c = not (is_create c.action) && is_none s.object

-- 8: it is there, and the command would make it
abbrev pub finds_object : StoreView → Command → Bool
finds_object s c = is_create c.action && is_some s.object

-- 9: it has another tag than the capability
abbrev pub has_other_tag : StoreView → Command → Bool
has_other_tag s c = not (is_create c.action) && of_object (λ o. not (nat_eq c.capability.tag o.tag)) s.object

-- 10: a length, the end of a range, a value, the tag or the number of objects would pass its limit
abbrev pub passes_limit : StoreView → Command → Bool
passes_limit s c =
    nat_lt MAX_LENGTH c.length || ((has_range c.action && nat_lt MAX_END (c.offset + c.length))
    || ((has_value c.action && nat_lt MAX_VALUE (length c.payload))
    || ((is_set_tag c.action && of_object (λ o. nat_eq o.tag MAX_TAG) s.object)
    || (is_create c.action && nat_le MAX_OBJECTS s.objects))))

-- 11: a WRITE of at least one byte makes the object longer by more than is free
abbrev pub lacks_space : StoreView → Command → Bool
lacks_space s c = is_write c.action && (nat_lt 0 c.length
    && of_object (λ o. nat_lt s.free ((c.offset + c.length) - o.length)) s.object)

-- 12: a change for a holder without lane, where there are as many lanes as there may be
abbrev pub lacks_lane : StoreView → Command → Bool
lacks_lane s c = is_mutating c.action && (is_none s.lane && of_object (λ o. nat_le MAX_LANES o.lanes) s.object)

-- 13: a change with a smaller nonce than the lane's
abbrev pub is_stale : StoreView → Command → Bool
is_stale s c = is_mutating c.action && of_lane (λ l. nat_lt c.nonce l.nonce) s.lane

-- 14: a new attribute, where there are as many as there may be
abbrev pub lacks_attribute : StoreView → Command → Bool
lacks_attribute s c =
    is_set_attr c.action && (not s.has_attribute && of_object (λ o. nat_le MAX_ATTRIBUTES o.user_attrs) s.object)

-- 15: a change with the lane's nonce
abbrev pub is_repeated : StoreView → Command → Bool
is_repeated s c = is_mutating c.action && of_lane (λ l. nat_eq l.nonce c.nonce) s.lane

-- ---- the table

abbrev pub tag_of : Option ObjectState → ℕ
tag_of None = 0
tag_of (Some o) = o.tag

abbrev pub nonce_of : Option LaneEntry → ℕ
nonce_of None = 0
nonce_of (Some l) = l.nonce

abbrev pub Row : Type 0
Row = Bool × Verdict

abbrev pub early_rows : DriveState → ℕ → Command → List Row
early_rows d now c =
    (has_old_format d c, verdict.OldFormat) ∷ (has_no_key d c, verdict.NoKey)
    ∷ (has_wrong_check d c, verdict.CheckValue) ∷ (is_expired now c, verdict.Expired)
    ∷ (has_no_right c, verdict.Rights)
    ∷ (is_elsewhere d.number c, verdict.WrongObject) ∷ (is_out_of_range c, verdict.Range) ∷ []

abbrev pub late_rows : StoreView → Command → List Row
late_rows s c =
    (lacks_object s c, verdict.NoObject) ∷ (finds_object s c, verdict.Exists)
    ∷ (has_other_tag s c, verdict.Tag (tag_of s.object)) ∷ (passes_limit s c, verdict.Limit)
    ∷ (lacks_space s c, verdict.NoSpace s.free)
    ∷ (lacks_lane s c, verdict.LaneFull) ∷ (is_stale s c, verdict.Stale (nonce_of s.lane))
    ∷ (lacks_attribute s c, verdict.AttrFull) ∷ (is_repeated s c, verdict.Again) ∷ []

-- the first row that applies, and Perform where none does
abbrev pub first_row : List Row → Verdict
first_row [] = verdict.Perform
first_row (r ∷ rows) = if r.0 then r.1 else first_row rows

-- none of the rows applies
abbrev pub NoneApplies : List Row → Type 0
NoneApplies [] = Unit {0}
NoneApplies (r ∷ rows) = (r.0 ≡ false) × NoneApplies rows

unfoldable pub late_fault_of : StoreView → Command → Verdict
late_fault_of s c = first_row (late_rows s c)

-- the rows on the object, of a drive
abbrev pub rows_on_object : DriveState → Command → List Row
rows_on_object d c = late_rows (view_of d.store c) c

-- the first of the rows on the object
abbrev pub late_fault : DriveState → Command → Verdict
late_fault d c = late_fault_of (view_of d.store c) c

abbrev pub all_rows : DriveState → ℕ → Command → List Row
all_rows d now c = early_rows d now c ++ rows_on_object d c

-- the first of all rows
unfoldable pub first_fault : DriveState → ℕ → Command → Verdict
first_fault d now c = first_row (all_rows d now c)

-- what a drive has to know of a command before it performs it: that no row on the object applies, and that
-- a SET ATTR names a user's attribute
pub record IsReady (d : DriveState) (c : Command) : Type 0 where
  pub late : late_fault d c ≡ verdict.Perform
  pub attribute : c.action ≡ SetAttr → FIRST_USER_ATTRIBUTE ≤ c.attribute
