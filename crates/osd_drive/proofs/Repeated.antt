-- A WRITE or a SET ATTR that was performed is answered alike when it comes again.
use Rattle.std.proofs.Common.{◌≡◌, ℕ, ◌+◌, ◌-◌, ◌≤◌, List, [], ◌∷◌, ◌++◌, length, true, false, not, ◌&&◌, ◌||◌, nat_eq, nat_lt, is_some, is_none, Option, Some, None, IsTrue, refl, sym, ap, ◌∙◌, arith}
use Rattle.std.specs.Option.{option_map}
use Rattle.std.proofs.lemmas.Bool.{eq-eqb, ne_eqb, le-ltb}
use Rattle.osd_lists.proofs.Tests.{and_false}
use Rattle.osd_commands.specs.declared.actions.Action.{Action}
use Rattle.osd_commands.specs.declared.actions.Action.TheVariants.{Create, Read, Write, GetAttr, SetAttr, SetTag}
use Rattle.osd_commands.specs.declared.commands.Command.{Command}
use Rattle.osd_objects.specs.declared.lanes.LaneEntry.{LaneEntry}
use Rattle.osd_objects.specs.declared.object.ObjectState.{ObjectState}
use Rattle.osd_objects.specs.declared.object.StoredObject.{StoredObject}
use Rattle.osd_objects.specs.Objects.{length_of, state_of, attribute_of, after_write, after_set_attr}
use Rattle.osd_objects.specs.Store.{StoreState, object_at, lane_or_none, attribute_or_none, changed, changed_if_there, growth}
use Rattle.osd_objects.proofs.Entries.{lookup_set, lookup_inserted}
use Rattle.osd_objects.proofs.Counting.{length-written}
use Rattle.osd_objects.specs.declared.attributes.TheConstants.{FIRST_USER_ATTRIBUTE}
use Rattle.osd_drive.specs.declared.store_view.StoreView.{StoreView}
use Rattle.osd_drive.specs.declared.verdict.Verdict.TheVariants as verdict
use Rattle.osd_drive.specs.State.{DriveState, view_of}
use Rattle.osd_drive.specs.Table.{is_create, is_mutating, is_write, is_set_attr, is_expired, lacks_object, finds_object, has_other_tag, passes_limit, lacks_space, lacks_lane, is_stale, lacks_attribute, is_repeated, tag_of, nonce_of, of_object, Row, early_rows, late_rows, first_row, NoneApplies, late_fault_of, first_fault}
use Rattle.osd_commands.specs.Commands.{allows}
use Rattle.osd_drive.specs.Effects.{lane_for, effect_of, performed, performed_reply, reply_with, kept_reply}
use Rattle.osd_drive.specs.Repeats.{IsAnsweredAlike}
use Rattle.osd_drive.proofs.Clear.{none_applies, past_early, clear_early}
use Rattle.osd_drive.proofs.LaneLaws.{lane_kept}

-- rows that don't apply are passed
past_rows : (rows late : List Row) → NoneApplies rows → first_row (rows ++ late) ≡ first_row late
past_rows [] late none = refl
past_rows (r ∷ rows) late none = rw none.0 (past_rows rows late none.1)

-- what the objects have on a command that comes again
record IsSeenAgain (s : StoreView) (c : Command) (o : ObjectState) (l : LaneEntry) : Type 0 where
  object : s.object ≡ Some o
  lane : s.lane ≡ Some l
  nonce : l.nonce ≡ c.nonce
  tag : (not (nat_eq c.capability.tag o.tag)) ≡ false
  finds : finds_object s c ≡ false
  limit : passes_limit s c ≡ false
  space : lacks_space s c ≡ false
  attribute : lacks_attribute s c ≡ false

answered_again : (s : StoreView) (c : Command) (o : ObjectState) (l : LaneEntry) → IsSeenAgain s c o l →
    is_mutating c.action ≡ true → late_fault_of s c ≡ verdict.Again
unfolding late_fault_of
answered_again s c o l h mutating =
    let same : nat_lt c.nonce l.nonce ≡ false = rw h.nonce (le-ltb c.nonce c.nonce (omega arith)) in
    let equal : nat_eq l.nonce c.nonce ≡ true = eq-eqb l.nonce c.nonce h.nonce in
    let there : lacks_object s c ≡ false = rw h.object (and_false (not (is_create c.action))) in
    let tag : has_other_tag s c ≡ false = rw h.object (rw h.tag (and_false (not (is_create c.action)))) in
    let lane : lacks_lane s c ≡ false = rw h.lane (and_false (is_mutating c.action)) in
    let stale : is_stale s c ≡ false = rw h.lane (rw same (and_false (is_mutating c.action))) in
    let repeated : is_repeated s c ≡ true = rw (mutating, h.lane) equal in
    past_rows
    ((lacks_object s c, verdict.NoObject) ∷ (finds_object s c, verdict.Exists)
    ∷ (has_other_tag s c, verdict.Tag (tag_of s.object)) ∷ (passes_limit s c, verdict.Limit)
    ∷ (lacks_space s c, verdict.NoSpace s.free)
    ∷ (lacks_lane s c, verdict.LaneFull) ∷ (is_stale s c, verdict.Stale (nonce_of s.lane))
    ∷ (lacks_attribute s c, verdict.AttrFull) ∷ [])
    ((is_repeated s c, verdict.Again) ∷ [])
    (there, (h.finds, (tag, (h.limit, (h.space, (lane, (stale, (h.attribute, tt))))))))
    ∙ rw repeated refl

space_again : (s : StoreView) (c : Command) (o : ObjectState) → s.object ≡ Some o →
    (nat_lt 0 c.length && nat_lt s.free ((c.offset + c.length) - o.length)) ≡ false → lacks_space s c ≡ false
space_again s c o object fits = rw object (rw fits (and_false (is_write c.action)))

attribute_again : (s : StoreView) (c : Command) → s.has_attribute ≡ true → lacks_attribute s c ≡ false
attribute_again s c has = rw has (and_false (is_set_attr c.action))

-- the object after a change of it
object_changed : (s : StoreState) (n : ℕ) (f : StoredObject → StoredObject) (o : StoredObject) → object_at s n ≡ Some o →
    object_at (changed s n f) n ≡ Some (f o)
object_changed s n f o found =
    ap (λ x. object_at (changed_if_there s n f x) n) found ∙ lookup_set s.objects n (f o) (ap is_some found)

-- a part that was written is inside the length
inside_now : (free offset len size : ℕ) (bytes : List ℕ) → length bytes ≡ len →
    (nat_lt 0 len && nat_lt free ((offset + len) - (size + growth size offset bytes))) ≡ false
inside_now free offset len size [] long = rw (← long) refl
inside_now free offset len size (b ∷ bytes) long =
    let none : (offset + len) - (size + growth size offset (b ∷ bytes)) ≡ 0 = omega (arith, long) in
    rw none (rw (le-ltb free 0 (omega arith)) (and_false (nat_lt 0 len)))

-- an attribute that was set is there
attribute_now : (o : StoredObject) (number : ℕ) (value : List ℕ) (l : LaneEntry) → FIRST_USER_ATTRIBUTE ≤ number →
    is_some (attribute_of (after_set_attr number value l o) number) ≡ true
attribute_now o number value l user =
    rw (ne_eqb number 1 (λ e. absurd (omega (arith, e, user))), ne_eqb number 2 (λ e. absurd (omega (arith, e, user))))
    (ap is_some (lookup_inserted o.attributes number value))

object_of : (o : Option StoredObject) → is_none (option_map state_of o) ≡ false → (x : StoredObject) × (o ≡ Some x)
object_of None e = absurd (cc e)
object_of (Some x) e = (x, refl)

-- what the first time shows of the object
found_at_first : (s : StoreState) (c : Command) → is_create c.action ≡ false → lacks_object (view_of s c) c ≡ false →
    (o : StoredObject) × (object_at s c.object ≡ Some o)
found_at_first s c creates lacks = object_of (object_at s c.object) (rw creates at lacks)

there_at_first : (d : DriveState) (c : Command) → is_create c.action ≡ false →
    late_fault_of (view_of d.store c) c ≡ verdict.Perform → (o : StoredObject) × (object_at d.store c.object ≡ Some o)
unfolding late_fault_of
there_at_first d c creates e = found_at_first d.store c creates (none_applies (late_rows (view_of d.store c) c) refl e).0

same_tag : (o : Option StoredObject) (x : StoredObject) (tag : ℕ) → o ≡ Some x →
    of_object (λ s. not (nat_eq tag s.tag)) (option_map state_of o) ≡ false → not (nat_eq tag x.tag) ≡ false
same_tag o x tag found h = rw found at h

-- the same command after its WRITE
written_again : (d : DriveState) (c : Command) (o : StoredObject) → object_at d.store c.object ≡ Some o → c.action ≡ Write →
    length c.payload ≡ c.length → late_fault_of (view_of d.store c) c ≡ verdict.Perform →
    IsSeenAgain (view_of (performed d c).store c) c (state_of (after_write c.offset c.payload (lane_for c 0) o)) (lane_for c 0)
unfolding late_fault_of
written_again d c o found writes sized e =
    let rows = none_applies (late_rows (view_of d.store c) c) refl e in
    let change = after_write c.offset c.payload (lane_for c 0) in
    let there : object_at (changed d.store c.object change) c.object ≡ Some (change o) =
    object_changed d.store c.object change o found in
    let now : object_at (performed d c).store c.object ≡ Some (change o) =
    ap (λ (x : StoreState). object_at x c.object) (ap (λ a. effect_of a d.store c) writes) ∙ there in
    let size : length_of (change o) ≡ length_of o + growth (length_of o) c.offset c.payload =
    length-written o.content c.offset c.payload in
    record {
      object = ap (λ (x : Option StoredObject). option_map state_of x) now;
      lane = ap (λ (x : Option StoredObject). lane_or_none x c.capability.holder) now ∙ lane_kept o.lanes (lane_for c 0);
      nonce = refl;
      tag = same_tag _ o c.capability.tag found (rw writes at rows.1.1.0);
      finds = rw writes refl;
      limit = rw writes (rw writes at rows.1.1.1.0);
      space = space_again (view_of (performed d c).store c) c (state_of (change o))
          (ap (λ (x : Option StoredObject). option_map state_of x) now)
          (rw size (inside_now (view_of (performed d c).store c).free c.offset c.length (length_of o) c.payload sized));
      attribute = rw writes refl;
    }

-- the same command after its SET ATTR
set_again : (d : DriveState) (c : Command) (o : StoredObject) → object_at d.store c.object ≡ Some o → c.action ≡ SetAttr →
    FIRST_USER_ATTRIBUTE ≤ c.attribute → late_fault_of (view_of d.store c) c ≡ verdict.Perform →
    IsSeenAgain (view_of (performed d c).store c) c (state_of (after_set_attr c.attribute c.payload (lane_for c 0) o))
    (lane_for c 0)
unfolding late_fault_of
set_again d c o found sets user e =
    let rows = none_applies (late_rows (view_of d.store c) c) refl e in
    let change = after_set_attr c.attribute c.payload (lane_for c 0) in
    let there : object_at (changed d.store c.object change) c.object ≡ Some (change o) =
    object_changed d.store c.object change o found in
    let now : object_at (performed d c).store c.object ≡ Some (change o) =
    ap (λ (x : StoreState). object_at x c.object) (ap (λ a. effect_of a d.store c) sets) ∙ there in
    let has : is_some (attribute_or_none (object_at (performed d c).store c.object) c.attribute) ≡ true =
    ap (λ (x : Option StoredObject). is_some (attribute_or_none x c.attribute)) now
    ∙ attribute_now o c.attribute c.payload (lane_for c 0) user in
    record {
      object = ap (λ (x : Option StoredObject). option_map state_of x) now;
      lane = ap (λ (x : Option StoredObject). lane_or_none x c.capability.holder) now ∙ lane_kept o.lanes (lane_for c 0);
      nonce = refl;
      tag = same_tag _ o c.capability.tag found (rw sets at rows.1.1.0);
      finds = rw sets refl;
      limit = rw sets (rw sets at rows.1.1.1.0);
      space = rw sets refl;
      attribute = attribute_again (view_of (performed d c).store c) c has;
    }

alike : (d : DriveState) (now later : ℕ) (c : Command) (o : ObjectState) → first_fault d now c ≡ verdict.Perform →
    is_expired later c ≡ false → IsSeenAgain (view_of (performed d c).store c) c o (lane_for c 0) → is_mutating c.action ≡ true →
    performed_reply d c ≡ reply_with c 0 [] → IsAnsweredAlike d later c
unfolding first_fault late_fault_of
alike d now later c o e fresh seen mutating reply =
    let early = (past_early (early_rows d now c) (late_rows (view_of d.store c) c) refl e).0 in
    record {
      verdict = past_rows (early_rows (performed d c) later c) (late_rows (view_of (performed d c).store c) c)
          (early.0, (early.1.0, (early.1.1.0, (fresh, (early.1.1.1.1.0, (early.1.1.1.1.1.0, (early.1.1.1.1.1.1.0, tt)))))))
          ∙ answered_again (view_of (performed d c).store c) c o (lane_for c 0) seen mutating;
      reply = ap (kept_reply c) seen.lane ∙ sym reply;
      state = refl;
    }

by_action : (d : DriveState) (now later : ℕ) (c : Command) (a : Action) → c.action ≡ a → first_fault d now c ≡ verdict.Perform →
    IsTrue (allows a c.length (length c.payload)) → IsTrue (is_write a || is_set_attr a) → is_expired later c ≡ false →
    IsAnsweredAlike d later c
by_action d now later c Write writes e sized kind fresh =
    let clear = clear_early d now c e in
    let found = there_at_first d c (rw writes refl) clear.0 in
    let seen = written_again d c found.0 found.1 writes (grind (arith, sized)) clear.0 in
    alike d now later c _ e fresh seen (rw writes refl) (rw writes refl)
by_action d now later c SetAttr sets e sized kind fresh =
    let clear = clear_early d now c e in
    let user = rw sets at clear.1 in
    let found = there_at_first d c (rw sets refl) clear.0 in
    let seen = set_again d c found.0 found.1 sets (grind (arith, user)) clear.0 in
    alike d now later c _ e fresh seen (rw sets refl) (rw sets refl)
by_action d now later c Create other e sized kind fresh = absurd (cc kind)
by_action d now later c Read other e sized kind fresh = absurd (cc kind)
by_action d now later c GetAttr other e sized kind fresh = absurd (cc kind)
by_action d now later c SetTag other e sized kind fresh = absurd (cc kind)

pub answered_alike : (d : DriveState) (now later : ℕ) (c : Command) → first_fault d now c ≡ verdict.Perform →
    IsTrue (allows c.action c.length (length c.payload)) → IsTrue (is_write c.action || is_set_attr c.action) →
    is_expired later c ≡ false → IsAnsweredAlike d later c
answered_alike d now later c e sized kind fresh = by_action d now later c c.action refl e sized kind fresh
