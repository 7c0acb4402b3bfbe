-- A READ or a WRITE that is clear is carried out, and room stays.
use Rattle.std.proofs.Common.{◌≡◌, ◌≤◌, ◌+◌, ◌-◌, ◌&&◌, ◌||◌, ℕ, Bool, true, false, true≢false, List, [], ◌∷◌, ◌++◌, length, Option, Some, None, option_map, is_none, is_some, IsSome, not, if◌then◌else◌, nat_eq, nat_lt, nat_le, subst, refl, sym, ap, ◌∙◌, inl, inr, arith}
use Rattle.std.proofs.lemmas.Bool.{cases_Bool, le-ltb, eq-eqb, or_from}
use Rattle.std.proofs.lemmas.Bool.Decides.{nat_tests}
use Rattle.std.specs.Ordering.{nat_cmp}
use Rattle.std.specs.BTreeMap.{is_at}
use Rattle.std.specs.Map.{lookup, set_value}
use Rattle.std.proofs.lemmas.Map.Entries.{sum_by-set_value}
use Rattle.osd_lists.proofs.Tests.{and_false}
use Rattle.osd_commands.specs.declared.actions.Action.{Action}
use Rattle.osd_commands.specs.declared.commands.Command.{Command}
use Rattle.osd_objects.specs.declared.lanes.LaneEntry.{LaneEntry}
use Rattle.osd_objects.specs.declared.object.StoredObject.{StoredObject}
use Rattle.osd_objects.specs.declared.attributes.TheConstants.{MAX_ATTRIBUTES, FIRST_USER_ATTRIBUTE}
use Rattle.osd_objects.specs.Objects.{length_of, state_of, after_write}
use Rattle.osd_objects.specs.Store.{StoreState, object_at, bytes_at, bytes_or_none, free_of, growth, changed_if_there}
use Rattle.osd_objects.proofs.Counting.{length-written}
use Rattle.osd_objects.proofs.Entries.{lookup_set}
use Rattle.osd_drive.specs.declared.keys.DriveKey.{DriveKey}
use Rattle.osd_drive.specs.declared.limits.TheConstants.{MAX_LENGTH, MAX_END, MAX_VALUE, MAX_TAG, MAX_OBJECTS, FIRST_PARTITION}
use Rattle.osd_drive.specs.declared.store_view.StoreView.{StoreView}
use Rattle.osd_drive.specs.declared.verdict.Verdict.{Verdict}
use Rattle.osd_drive.specs.declared.verdict.Verdict.TheVariants as verdict
use Rattle.osd_drive.specs.State.{DriveState, view_of}
use Rattle.osd_drive.specs.Table.{is_create, is_write, is_set_attr, is_set_tag, has_range, has_value, of_object, of_lane, has_old_format, has_no_key, fails_check, has_wrong_check, is_expired, has_no_right, is_elsewhere, is_out_of_range, lacks_object, finds_object, has_other_tag, passes_limit, lacks_space, lacks_lane, is_stale, lacks_attribute, is_repeated, is_mutating, tag_of, nonce_of, Row, first_row, NoneApplies, first_fault}
use Rattle.osd_drive.specs.Effects.{lane_for, effect_of, kept_reply, reply_by}
use Rattle.world_history.specs.Told.{told_verdict}
use Rattle.history_law.proofs.HistoryTelling.{result_done}
use Rattle.history_law.proofs.Telling.{result_nonce}
use Rattle.exchange_law.specs.LaneTaken.{is_of_lanes}
use Rattle.ready_law.specs.Clear.{ReadsOrWrites, IsClear, ClearCommandsAreCarriedOut, HasRoomTo, RoomStays}

-- ---- rows

no_create : (a : Action) → ReadsOrWrites a → is_create a ≡ false
no_create a (inl e) = ap is_create e
no_create a (inr e) = ap is_create e

no_value : (a : Action) → ReadsOrWrites a → has_value a ≡ false
no_value a (inl e) = ap has_value e
no_value a (inr e) = ap has_value e

no_tag : (a : Action) → ReadsOrWrites a → is_set_tag a ≡ false
no_tag a (inl e) = ap is_set_tag e
no_tag a (inr e) = ap is_set_tag e

no_attribute : (a : Action) → ReadsOrWrites a → is_set_attr a ≡ false
no_attribute a (inl e) = ap is_set_attr e
no_attribute a (inr e) = ap is_set_attr e

within : (a b c d e : Bool) → a ≡ false → b ≡ false → c ≡ false → d ≡ false → e ≡ false → (a || (b || (c || (d || e)))) ≡ false
within a b c d e p q r s t = rw (p, q, r, s, t) refl

all_same : (a b c : Bool) → a ≡ true → b ≡ true → c ≡ true → not (a && (b && c)) ≡ false
all_same a b c p q r = rw (p, q, r) refl

inside : (h a b : Bool) → a ≡ true → b ≡ true → (h && not (a && b)) ≡ false
inside h a b p q = ap (λ (x : Bool). h && not (x && b)) p ∙ ap (λ (x : Bool). h && not x) q ∙ and_false h

-- rows of which none applies say nothing
passes : (rows more : List Row) → NoneApplies rows → first_row (rows ++ more) ≡ first_row more
passes [] more none = refl
passes (r ∷ rows) more none = rw none.0 (passes rows more none.1)

module _ (d : DriveState) (now : ℕ) (c : Command) (x : IsClear d now c) where
  abbrev s : StoreView
  s = view_of d.store c

  -- the rows before those of lanes
  abbrev rows : List Row
  rows =
      (has_old_format d c, verdict.OldFormat) ∷ (has_no_key d c, verdict.NoKey)
      ∷ (has_wrong_check d c, verdict.CheckValue) ∷ (is_expired now c, verdict.Expired)
      ∷ (has_no_right c, verdict.Rights) ∷ (is_elsewhere d.number c, verdict.WrongObject)
      ∷ (is_out_of_range c, verdict.Range) ∷ (lacks_object s c, verdict.NoObject) ∷ (finds_object s c, verdict.Exists)
      ∷ (has_other_tag s c, verdict.Tag (tag_of s.object)) ∷ (passes_limit s c, verdict.Limit)
      ∷ (lacks_space s c, verdict.NoSpace s.free) ∷ []

  abbrev last : List Row
  last = (is_repeated s c, verdict.Again) ∷ []

  abbrev attributes : List Row
  attributes = (lacks_attribute s c, verdict.AttrFull) ∷ last

  abbrev stale : List Row
  stale = (is_stale s c, verdict.Stale (nonce_of s.lane)) ∷ attributes

  abbrev lanes : List Row
  lanes = (lacks_lane s c, verdict.LaneFull) ∷ stale

  has_key : has_no_key d c ≡ false
  has_key = ap (λ (o : Option DriveKey). is_none o) x.known

  right_check : has_wrong_check d c ≡ false
  right_check = ap (λ (o : Option DriveKey). fails_check o c) x.known ∙ ap not x.checked

  finds : lacks_object s c ≡ false
  finds =
      ap (λ (o : Option StoredObject). not (is_create c.action) && is_none (option_map state_of o)) x.there
      ∙ and_false (not (is_create c.action))

  same_tag : has_other_tag s c ≡ false
  same_tag =
      ap (λ (o : Option StoredObject). not (is_create c.action) && of_object (λ y. not (nat_eq c.capability.tag y.tag))
      (option_map state_of o)) x.there
      ∙ ap (λ (b : Bool). not (is_create c.action) && not b) (eq-eqb c.capability.tag x.object.tag x.tag)
      ∙ and_false (not (is_create c.action))

  limits : passes_limit s c ≡ false
  limits =
      within _ _ _ _ _ (le-ltb MAX_LENGTH c.length x.short)
      (ap (λ (b : Bool). has_range c.action && b) (le-ltb MAX_END (c.offset + c.length) x.low)
      ∙ and_false (has_range c.action))
      (ap (λ (b : Bool). b && nat_lt MAX_VALUE (length c.payload)) (no_value c.action x.placed.action))
      (ap (λ (b : Bool). b && of_object (λ o. nat_eq o.tag MAX_TAG) s.object) (no_tag c.action x.placed.action))
      (ap (λ (b : Bool). b && nat_le MAX_OBJECTS s.objects) (no_create c.action x.placed.action))

  spaces : ReadsOrWrites c.action → lacks_space s c ≡ false
  spaces (inl e) =
      ap (λ (a : Action). is_write a && (nat_lt 0 c.length
      && of_object (λ o. nat_lt s.free ((c.offset + c.length) - o.length)) s.object)) e
  spaces (inr e) =
      ap (λ (o : Option StoredObject). is_write c.action && (nat_lt 0 c.length
      && of_object (λ y. nat_lt s.free ((c.offset + c.length) - y.length)) (option_map state_of o))) x.there
      ∙ ap (λ (b : Bool). is_write c.action && (nat_lt 0 c.length && b))
      (le-ltb (free_of d.store) ((c.offset + c.length) - length_of x.object) (x.room e))
      ∙ ap (λ (b : Bool). is_write c.action && b) (and_false (nat_lt 0 c.length))
      ∙ and_false (is_write c.action)

  right : has_no_right c ≡ false
  right =
      or_from _ _ x.placed.right
      (ap (λ (b : Bool). b && nat_lt c.attribute FIRST_USER_ATTRIBUTE) (no_attribute c.action x.placed.action))

  place : is_elsewhere d.number c ≡ false
  place =
      all_same _ _ _ (eq-eqb c.partition c.capability.partition x.placed.partition)
      (eq-eqb c.object c.capability.object x.placed.object)
      (eq-eqb c.partition (FIRST_PARTITION + d.number) x.placed.here)

  range : is_out_of_range c ≡ false
  range =
      let low : nat_le c.capability.range_start c.offset ≡ true = grind (arith, nat_tests, x.placed.first) in
      let high : nat_le (c.offset + c.length) (c.capability.range_start + c.capability.range_len) ≡ true =
      grind (arith, nat_tests, x.placed.end) in
      inside (has_range c.action) _ _ low high

  none : NoneApplies rows
  none = (
    le-ltb c.capability.format d.least x.format,
    (
      has_key,
      (
        right_check,
        (
          le-ltb c.capability.expiry now x.in_time,
          (
            right,
            (
              place,
              (
                range,
                (
                  finds,
                  (
                    ap (λ (b : Bool). b && is_some s.object) (no_create c.action x.placed.action),
                    (same_tag, (limits, (spaces x.placed.action, tt))),
                  ),
                ),
              ),
            ),
          ),
        ),
      ),
    ),
  )

  -- what is left is what lanes say
  early : first_fault d now c ≡ first_row lanes
  unfolding first_fault
  early = passes rows lanes none

  not_of_lanes : (v : Verdict) → first_fault d now c ≡ v → is_of_lanes (told_verdict v) ≡ true → ⊥
  not_of_lanes v e t =
      true≢false (sym t ∙ ap (λ (y : Verdict). is_of_lanes (told_verdict y)) (sym e) ∙ x.taken)

  lane : lacks_lane s c ≡ false
  lane = elim (cases_Bool (lacks_lane s c)) [
    | inl t ↦
        absurd (not_of_lanes verdict.LaneFull
        (early ∙ ap (λ (b : Bool). if b then verdict.LaneFull else first_row stale) t) refl)
    | inr f ↦ f
  ]

  on_lane : first_fault d now c ≡ first_row stale
  on_lane = early ∙ ap (λ (b : Bool). if b then verdict.LaneFull else first_row stale) lane

  fresh : is_stale s c ≡ false
  fresh = elim (cases_Bool (is_stale s c)) [
    | inl t ↦
        absurd (not_of_lanes (verdict.Stale (nonce_of s.lane))
        (on_lane ∙ ap (λ (b : Bool). if b then verdict.Stale (nonce_of s.lane) else first_row attributes) t) refl)
    | inr f ↦ f
  ]

  user : lacks_attribute s c ≡ false
  user =
      ap (λ (b : Bool). b && (not s.has_attribute && of_object (λ o. nat_le MAX_ATTRIBUTES o.user_attrs) s.object))
      (no_attribute c.action x.placed.action)

  fault : first_fault d now c ≡ (if is_repeated s c then verdict.Again else verdict.Perform)
  fault =
      on_lane ∙ ap (λ (b : Bool). if b then verdict.Stale (nonce_of s.lane) else first_row attributes) fresh
      ∙ ap (λ (b : Bool). if b then verdict.AttrFull else first_row last) user

-- ---- replies

told_kept : (c : Command) (m : Bool) (o : Option LaneEntry) → (m && of_lane (λ l. nat_eq l.nonce c.nonce) o) ≡ true
    → ((kept_reply c o).verdict ≡ 0) × ((kept_reply c o).nonce ≡ c.nonce)
told_kept c m None e = absurd (true≢false (sym e ∙ and_false m))
told_kept c false (Some l) e = absurd (cc e)
told_kept c true (Some l) e = (refl, grind (arith, nat_tests, e))

pub clear_commands_are_carried_out : ClearCommandsAreCarriedOut
clear_commands_are_carried_out d now c x = elim (cases_Bool (is_repeated (view_of d.store c) c)) [
  | inl t ↦
      let again : first_fault d now c ≡ verdict.Again =
      fault d now c x ∙ ap (λ (b : Bool). if b then verdict.Again else verdict.Perform) t in
      let kept = told_kept c (is_mutating c.action) (view_of d.store c).lane t in
      record {
        verdict = inr again;
        told = ap (λ (v : Verdict). (reply_by v d c).verdict) again ∙ kept.0;
        nonce = ap (λ (v : Verdict). (reply_by v d c).nonce) again ∙ kept.1;
      }
  | inr f ↦
      let performs : first_fault d now c ≡ verdict.Perform =
      fault d now c x ∙ ap (λ (b : Bool). if b then verdict.Again else verdict.Perform) f in
      record {
        verdict = inl performs;
        told = ap (λ (v : Verdict). (reply_by v d c).verdict) performs ∙ result_done c.action d.store c;
        nonce = ap (λ (v : Verdict). (reply_by v d c).nonce) performs ∙ result_nonce c.action d.store c;
      }
]

-- ---- room

grows : (size offset : ℕ) (bytes : List ℕ) (top : ℕ) → offset + length bytes ≤ top → growth size offset bytes ≤ top - size
grows size offset [] top h = omega arith
grows size offset (b ∷ bytes) top h = omega (arith, h)

room_there : (s : StoreState) (c : Command) (top : ℕ) → c.offset + length c.payload ≤ top
    → (o : Option StoredObject) → object_at s c.object ≡ o → HasRoomTo top s c.object
    → HasRoomTo top (changed_if_there s c.object (after_write c.offset c.payload (lane_for c 0)) o) c.object
room_there s c top ends None e h = h
room_there s c top ends (Some o) e h =
    let now : StoredObject = after_write c.offset c.payload (lane_for c 0) o in
    let test : ℕ → Bool = is_at (nat_cmp c.object) in
    let found : lookup test (set_value test s.objects now) ≡ Some now =
    lookup_set s.objects c.object now (subst IsSome (sym e) refl) in
    let before : length (bytes_at s c.object) ≡ length_of o =
    ap (λ (x : Option StoredObject). length (bytes_or_none x)) e in
    let after : length (bytes_or_none (lookup test (set_value test s.objects now))) ≡ length_of now =
    ap (λ (x : Option StoredObject). length (bytes_or_none x)) found in
    let longer : length_of now ≡ length_of o + growth (length_of o) c.offset c.payload =
    length-written o.content c.offset c.payload in
    omega (
      arith,
      h,
      before,
      after,
      longer,
      grows (length_of o) c.offset c.payload top ends,
      sum_by-set_value length_of test s.objects o now e,
    )

pub room_stays : RoomStays
room_stays d verdict.Perform c top (inl e) ends h =
    subst (λ (a : Action). HasRoomTo top (effect_of a d.store c) c.object) (sym e) h
room_stays d verdict.Perform c top (inr e) ends h =
    subst (λ (a : Action). HasRoomTo top (effect_of a d.store c) c.object) (sym e)
    (room_there d.store c top (ends e) (object_at d.store c.object) refl h)
room_stays d v c top m ends h = h
