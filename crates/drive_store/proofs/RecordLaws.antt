-- What a command adds to the records of a store: a change one record, which leads to the drive after it, and another
-- command none.
use Rattle.std.proofs.Common.{◌≡◌, ◌⊎◌, inl, inr, ℕ, ◌+◌, ◌≤◌, List, [], ◌∷◌, ◌++◌, length, drop, Bool, true, false, not, ◌&&◌, if◌then◌else◌, nat_eq, nat_lt, IsTrue, Option, Some, None, Result, Ok, Err, refl, sym, ap, ◌∙◌, arith}
use Rattle.std.specs.Prelude.{max, slice_range}
use Rattle.std.specs.Int.{w16, w32, from_be_bytes}
use Rattle.std.proofs.lemmas.List.{length-drop}
use Rattle.osd_capability.specs.declared.layout.Capability.{Capability}
use Rattle.osd_capability.specs.declared.layout.CapErr.{CapErr}
use Rattle.osd_capability.specs.Layout as Cap
use Rattle.osd_commands.specs.declared.actions.Action.{Action}
use Rattle.osd_commands.specs.declared.actions.Action.TheVariants.{Create, Read, Write, GetAttr, SetAttr, SetTag}
use Rattle.osd_commands.specs.declared.commands.Command.{Command}
use Rattle.osd_commands.specs.declared.commands.CommandErr.{CommandErr}
use Rattle.osd_commands.specs.declared.commands.CommandErr.TheVariants.{Short, Magic, Length}
use Rattle.osd_commands.specs.declared.commands.TheConstants.{BLOCK}
use Rattle.osd_commands.specs.Actions.{action_of}
use Rattle.osd_commands.specs.Commands.{magic, reading, with_action, unless_reserved, with_capability, stray, is_sized, command_at, allows}
use Rattle.osd_objects.specs.declared.attributes.TheConstants.{FIRST_USER_ATTRIBUTE}
use Rattle.osd_objects.specs.declared.object.StoredObject.{StoredObject}
use Rattle.osd_objects.specs.Objects.{after_set_attr, after_set_tag, after_write}
use Rattle.osd_objects.specs.Store.{StoreState, changed_if_there, object_at}
use Rattle.osd_drive.specs.declared.limits.TheConstants.{FIRST_FORMAT, MAX_LENGTH, MAX_VALUE}
use Rattle.osd_drive.specs.declared.verdict.Verdict.{Verdict}
use Rattle.osd_drive.specs.declared.verdict.Verdict.TheVariants.{Perform}
use Rattle.osd_drive.specs.State.{DriveState, new_drive, view_of}
use Rattle.osd_drive.specs.Table.{has_value, first_fault, late_fault}
use Rattle.osd_drive.specs.Effects.{drive_after, effect_of, lane_for, next_tag, performed, state_by}
use Rattle.osd_drive.proofs.Clear.{clear_late, ready}
use Rattle.drive_store.specs.declared.record.TheConstants.{SECOND_FORMAT}
use Rattle.drive_store.specs.Records.{IsChange, after_reading, after_record, after_record_of, is_change, is_change_of, is_raise, replayed, raised, where_performed}
use Rattle.drive_store.specs.Stores.{IsStep, emptied}

-- ---- many records

pub replayed-more : (d : Option DriveState) (records : List (List ℕ)) (bytes : List ℕ) →
    replayed d (records ++ bytes ∷ []) ≡ after_record_of (replayed d records) bytes
replayed-more d [] bytes = refl
replayed-more d (r ∷ records) bytes = replayed-more (after_record_of d r) records bytes

pub replayed-then : (d : Option DriveState) (records more : List (List ℕ)) →
    replayed d (records ++ more) ≡ replayed (replayed d records) more
replayed-then d [] more = refl
replayed-then d (r ∷ records) more = replayed-then (after_record_of d r) records more

pub replayed-none : (records : List (List ℕ)) → replayed None records ≡ None
replayed-none [] = refl
replayed-none (r ∷ records) = replayed-none records

-- ---- the bytes of a command

behind_test : (test : Bool) (why : CommandErr) (rest : Result Command CommandErr) (c : Command) →
    (if test then Err why else rest) ≡ Ok c → (test ≡ false) × (rest ≡ Ok c)
behind_test true why rest c e = absurd (cc e)
behind_test false why rest c e = (refl, e)

sized_is : (test : Bool) (why : CommandErr) (d c : Command) → (if test then Ok d else Err why) ≡ Ok c → d ≡ c
sized_is true why d c e = cc e
sized_is false why d c e = absurd (cc e)

by_capability : (bytes : List ℕ) (action : Action) (capability : Result Capability CapErr) (c : Command) →
    with_capability bytes action capability ≡ Ok c → c.payload ≡ drop BLOCK bytes
unfolding command_at
by_capability bytes action (Ok capability) c e =
    let d = command_at action capability bytes in
    sym (ap (λ (x : Command). x.payload)
    (sized_is (is_sized bytes d.action d.length (length d.payload)) (Length (length d.payload)) d c e))
by_capability bytes action (Err why) c e = absurd (cc e)

by_stray : (bytes : List ℕ) (action : Action) (at : Option ℕ) (c : Command) → unless_reserved bytes action at ≡ Ok c →
    c.payload ≡ drop BLOCK bytes
by_stray bytes action None c e = by_capability bytes action (Cap.reading (slice_range bytes 64 160)) c e
by_stray bytes action (Some at) c e = absurd (cc e)

by_action : (bytes : List ℕ) (action : Option Action) (c : Command) → with_action bytes action ≡ Ok c →
    c.payload ≡ drop BLOCK bytes
by_action bytes (Some action) c e = by_stray bytes action (stray bytes) c e
by_action bytes None c e = absurd (cc e)

-- a block, and the payload
block_and_payload : (bytes : List ℕ) (c : Command) → reading bytes ≡ Ok c →
    (nat_lt (length bytes) BLOCK ≡ false) × (c.payload ≡ drop BLOCK bytes)
unfolding reading
block_and_payload bytes c e =
    let action = action_of (from_be_bytes w16 (slice_range bytes 4 6)) in
    let other = not (nat_eq (from_be_bytes w32 (slice_range bytes 0 4)) magic) in
    let long = behind_test (nat_lt (length bytes) BLOCK) Short (if other then Err Magic else with_action bytes action) c e in
    let known = behind_test other Magic (with_action bytes action) c long.1 in
    (long.0, by_action bytes action c known.1)

command_length : (bytes : List ℕ) (c : Command) → reading bytes ≡ Ok c → length bytes ≡ BLOCK + length c.payload
command_length bytes c e =
    let parts = block_and_payload bytes c e in
    let long : BLOCK ≤ length bytes = grind (arith, parts.0) in
    rw parts.1 (omega (arith, long, length-drop BLOCK bytes))

-- so they are no record of a raised format
no_raise : (bytes : List ℕ) (c : Command) → reading bytes ≡ Ok c → is_raise bytes ≡ false
no_raise bytes c e = short bytes (grind (arith, (block_and_payload bytes c e).0))
  where
    short : (bytes : List ℕ) → BLOCK ≤ length bytes → is_raise bytes ≡ false
    short [] long = refl
    short (b ∷ []) long = absurd (omega (arith, long))
    short (b ∷ x ∷ rest) long = refl

payload_fits : (a : Action) (attribute len payload : ℕ) → is_change_of a attribute ≡ true →
    (has_value a && nat_lt MAX_VALUE payload) ≡ false → nat_lt MAX_LENGTH len ≡ false
    → IsTrue (allows a len payload) → payload ≤ MAX_LENGTH
payload_fits Create attribute len payload change value size allowed = grind (arith, value)
payload_fits Read attribute len payload change value size allowed = absurd (cc change)
payload_fits Write attribute len payload change value size allowed = grind (arith, size, allowed)
payload_fits GetAttr attribute len payload change value size allowed = absurd (cc change)
payload_fits SetAttr attribute len payload change value size allowed = grind (arith, value)
payload_fits SetTag attribute len payload change value size allowed = grind (arith, allowed)

-- ---- a change

-- it fits into a record
pub change_fits : (d : DriveState) (now : ℕ) (message : List ℕ) (c : Command) → IsChange d now message c →
    IsTrue (allows c.action c.length (length c.payload))
    → (BLOCK ≤ length message) × (length message ≤ BLOCK + MAX_LENGTH)
change_fits d now message c is allowed =
    let clear = clear_late (view_of d.store c) c (ready d now c is.verdict).late in
    let few = payload_fits c.action c.attribute c.length (length c.payload) is.change clear.value clear.size allowed in
    let long = command_length message c is.spelled in
    (omega (arith, long), omega (arith, long, few))

-- the record of its bytes leads to the drive after it
pub kept : (d : DriveState) (now : ℕ) (message : List ℕ) (c : Command) → IsChange d now message c →
    after_record d message ≡ Some (drive_after d now message)
unfolding after_record
kept d now message c is =
    let late : late_fault d c ≡ Perform = (ready d now c is.verdict).late in
    rw (no_raise message c is.spelled, is.spelled, is.change, late, is.verdict) refl

pub change_after : (d : DriveState) (now : ℕ) (message : List ℕ) (c : Command) → IsChange d now message c →
    drive_after d now message ≡ performed d c
change_after d now message c is = rw (is.spelled, is.verdict) refl

-- ---- another command

stays_by : (v : Verdict) (d : DriveState) (c : Command) → (v ≡ Perform → performed d c ≡ d) → state_by v d c ≡ d
stays_by Perform d c same = same refl
stays_by v d c same = refl

same_effect : (a : Action) (attribute : ℕ) (s : StoreState) (c : Command) → is_change_of a attribute ≡ false →
    (a ≡ SetAttr → FIRST_USER_ATTRIBUTE ≤ attribute) → effect_of a s c ≡ s
same_effect Create attribute s c no_change user = absurd (cc no_change)
same_effect Read attribute s c no_change user = refl
same_effect Write attribute s c no_change user = absurd (cc no_change)
same_effect GetAttr attribute s c no_change user = refl
same_effect SetAttr attribute s c no_change user = let least = user refl in absurd (grind (arith, no_change, least))
same_effect SetTag attribute s c no_change user = absurd (cc no_change)

-- it leaves the drive
pub no_change : (d : DriveState) (now : ℕ) (message : List ℕ) (c : Command) → reading message ≡ Ok c → is_change c ≡ false →
    drive_after d now message ≡ d
no_change d now message c spelled other =
    rw spelled (stays_by (first_fault d now c) d c
    (λ e. ap (λ (s : StoreState). record d { store = s })
    (same_effect c.action c.attribute d.store c other (ready d now c e).attribute)))

-- ---- what a record leaves

of_verdict : (v : Verdict) (f e : DriveState) → where_performed v f ≡ Some e → f ≡ e
of_verdict Perform f e is = cc is
of_verdict v f e is = absurd (cc is)

of_change : (change : Bool) (d e : DriveState) (c : Command) →
    (if change then where_performed (late_fault d c) (performed d c) else None) ≡ Some e → performed d c ≡ e
of_change true d e c is = of_verdict (late_fault d c) (performed d c) e is
of_change false d e c is = absurd (cc is)

of_reading : (r : Result Command CommandErr) (d e : DriveState) → after_reading d r ≡ Some e → (c : Command) × (performed d c ≡ e)
of_reading (Ok c) d e is = (c, of_change (is_change c) d e c is)
of_reading (Err why) d e is = absurd (cc is)

of_raise : (raise : Bool) (r : Result Command CommandErr) (d e : DriveState) →
    (if raise then Some (raised d SECOND_FORMAT) else after_reading d r) ≡ Some e
    → (raised d SECOND_FORMAT ≡ e) ⊎ ((c : Command) × (performed d c ≡ e))
of_raise true r d e is = inl (cc is)
of_raise false r d e is = inr (of_reading r d e is)

-- a record raises the least format, or is of a command that was performed
of_record : (d e : DriveState) (bytes : List ℕ) → after_record d bytes ≡ Some e →
    (raised d SECOND_FORMAT ≡ e) ⊎ ((c : Command) × (performed d c ≡ e))
unfolding after_record
of_record d e bytes is = of_raise (is_raise bytes) (reading bytes) d e is

kept_capacity : (s : StoreState) (object : ℕ) (change : StoredObject → StoredObject) (there : Option StoredObject) →
    (changed_if_there s object change there).capacity ≡ s.capacity
kept_capacity s object change None = refl
kept_capacity s object change (Some o) = refl

same_capacity : (a : Action) (s : StoreState) (c : Command) → (effect_of a s c).capacity ≡ s.capacity
same_capacity Create s c = refl
same_capacity Read s c = refl
same_capacity Write s c = kept_capacity s c.object (after_write c.offset c.payload (lane_for c 0)) (object_at s c.object)
same_capacity GetAttr s c = refl
same_capacity SetAttr s c = kept_capacity s c.object (after_set_attr c.attribute c.payload (lane_for c 0)) (object_at s c.object)
same_capacity SetTag s c =
    kept_capacity s c.object (after_set_tag (lane_for c (next_tag (object_at s c.object)))) (object_at s c.object)

pub made_so : (d : DriveState) (c : Command) → emptied (performed d c) ≡ emptied d
made_so d c = ap (λ (n : ℕ). new_drive d.number d.keys n) (same_capacity c.action d.store c)

-- it leaves how the drive was made
pub same_made : (d e : DriveState) (bytes : List ℕ) → after_record d bytes ≡ Some e → emptied e ≡ emptied d
same_made d e bytes is = by (of_record d e bytes is)
  where
    by : (raised d SECOND_FORMAT ≡ e) ⊎ ((c : Command) × (performed d c ≡ e)) → emptied e ≡ emptied d
    by (inl r) = ap (λ (x : DriveState). emptied x) (sym r)
    by (inr p) = ap (λ (x : DriveState). emptied x) (sym p.1) ∙ made_so d p.0

-- and the least format doesn't fall
no_lower : (d e : DriveState) (bytes : List ℕ) → after_record d bytes ≡ Some e → d.least ≤ e.least
no_lower d e bytes is = by (of_record d e bytes is)
  where
    by : (raised d SECOND_FORMAT ≡ e) ⊎ ((c : Command) × (performed d c ≡ e)) → d.least ≤ e.least
    by (inl r) = omega (arith, ap (λ (x : DriveState). x.least) r)
    by (inr p) = omega (arith, ap (λ (x : DriveState). x.least) p.1)

-- so it is the first one or a later one, whatever the records are
pub has_format : (records : List (List ℕ)) (d e : DriveState) → FIRST_FORMAT ≤ d.least → replayed (Some d) records ≡ Some e →
    FIRST_FORMAT ≤ e.least
has_format [] d e first is = omega (arith, first, ap (λ (x : DriveState). x.least) (same d e is))
  where
    same : (d e : DriveState) → Some d ≡ Some e → d ≡ e
    same d e is = cc is
has_format (r ∷ records) d e first is =
    by (after_record d r) refl is (λ (f : DriveState) low more. has_format records f e low more)
  where
    by : (o : Option DriveState) → after_record d r ≡ o → replayed o records ≡ Some e
        → ((f : DriveState) → FIRST_FORMAT ≤ f.least → replayed (Some f) records ≡ Some e → FIRST_FORMAT ≤ e.least) →
        FIRST_FORMAT ≤ e.least
    by (Some f) one more rest = rest f (omega (arith, first, no_lower d f r one)) more
    by None one more rest = absurd (cc (sym (replayed-none records) ∙ more))

-- the record of a raised format
pub raise_record : (d : DriveState) → after_record d (SECOND_FORMAT ∷ []) ≡ Some (raised d SECOND_FORMAT)
unfolding after_record
raise_record d = refl

-- a format that isn't above the least one raises nothing
pub not_raised : (d : DriveState) (format : ℕ) → format ≤ d.least → raised d format ≡ d
not_raised d format low = ap (λ (n : ℕ). record d { least = n }) (most d.least format low)
  where
    most : (a b : ℕ) → b ≤ a → max a b ≡ a
    most a b le = omega (arith, le)

-- a change is a step
pub change_step : (d e : DriveState) (now : ℕ) (message entry : List ℕ) (c : Command) → IsChange d now message c →
    e ≡ performed d c → entry ≡ message → IsStep d entry e
change_step d e now message entry c is made same = record {
  leads = ap (λ (bytes : List ℕ). after_record d bytes) same ∙ kept d now message c is
      ∙ ap (λ (x : DriveState). Some x) (change_after d now message c is ∙ sym made);
  same = ap (λ (x : DriveState). emptied x) made ∙ made_so d c;
}

-- and so is a format that is raised
pub raise_step : (d e : DriveState) (entry : List ℕ) → e ≡ raised d SECOND_FORMAT → entry ≡ SECOND_FORMAT ∷ [] → IsStep d entry e
raise_step d e entry made same = record {
  leads = ap (λ (bytes : List ℕ). after_record d bytes) same ∙ raise_record d ∙ ap (λ (x : DriveState). Some x) (sym made);
  same = ap (λ (x : DriveState). emptied x) made;
}

pub raised_two : (d : DriveState) (format : ℕ) → format ≡ SECOND_FORMAT → raised d format ≡ raised d SECOND_FORMAT
raised_two d format two = ap (λ (n : ℕ). raised d n) two

-- which no other format than the second one is, and not where it is the least already
pub raises_nothing : (d : DriveState) (format : ℕ) → FIRST_FORMAT ≤ d.least → (format ≡ 1) ⊎ (format ≡ SECOND_FORMAT) →
    (format ≡ SECOND_FORMAT → SECOND_FORMAT ≤ d.least) → raised d format ≡ d
raises_nothing d format first (inl one) low = not_raised d format (omega (arith, one, first))
raises_nothing d format first (inr two) low = not_raised d format (omega (arith, two, low two))
