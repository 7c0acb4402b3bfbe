-- The tag of each object on a drive has 32 bits, and so has each tag that a drive names in a reply.
use Rattle.std.proofs.Common.{◌≡◌, ℕ, ◌+◌, ◌<◌, ◌^◌, ◌&&◌, Bool, true, false, not, List, [], ◌∷◌, length, Option, Some, None, Result, Ok, Err, IsSome, nat_eq, nat_lt, refl, sym, ap, subst, ◌∙◌, inl, inr, arith, if◌then◌else◌}
use Rattle.std.specs.Prelude.{slice_range, slice_index, option_map}
use Rattle.std.specs.Int.{w16, w32, to_be_bytes, from_be_bytes}
use Rattle.std.proofs.lemmas.Bool.{cases_eq}
use Rattle.std.proofs.lemmas.Bool.Decides.{nat_tests}
use Rattle.std.proofs.lemmas.Option.{same_Some}
use Rattle.osd_lists.specs.Blocks.{IsBytes}
use Rattle.osd_lists.proofs.BlockLaws.{IsBytes-range, below_32}
use Rattle.osd_capability.specs.declared.layout.Capability.{Capability}
use Rattle.osd_capability.specs.declared.layout.CapErr.{CapErr}
use Rattle.osd_capability.specs.declared.layout.CapErr.TheVariants.{Length as CapLength, Format as CapFormat}
use Rattle.osd_capability.specs.Layout as cap
use Rattle.osd_commands.specs.declared.actions.Action.{Action}
use Rattle.osd_commands.specs.declared.actions.Action.TheVariants as action
use Rattle.osd_commands.specs.declared.commands.Command.{Command}
use Rattle.osd_commands.specs.declared.commands.CommandErr.{CommandErr}
use Rattle.osd_commands.specs.declared.commands.CommandErr.TheVariants.{Short, Magic}
use Rattle.osd_commands.specs.declared.replies.Reply.{Reply}
use Rattle.osd_commands.specs.Actions.{action_of}
use Rattle.osd_commands.specs.Commands.{magic, fields, head, spelling, stray, command_at, with_capability, unless_reserved, with_action, reading}
use Rattle.osd_commands.proofs.Passing.{if_ok}
use Rattle.osd_objects.specs.declared.lanes.LaneEntry.{LaneEntry}
use Rattle.osd_objects.specs.declared.object.StoredObject.{StoredObject}
use Rattle.osd_objects.specs.Objects.{state_of, created, after_write, after_set_attr, after_set_tag}
use Rattle.osd_objects.specs.Store.{StoreState, object_at, lane_or_none, with_object, changed_if_there}
use Rattle.osd_objects.proofs.Entries.{lookup_inserted, lookup_beside, lookup_set, lookup_set_beside}
use Rattle.osd_drive.specs.declared.limits.TheConstants.{MAX_TAG}
use Rattle.osd_drive.specs.declared.verdict.Verdict.{Verdict}
use Rattle.osd_drive.specs.declared.verdict.Verdict.TheVariants as verdict
use Rattle.osd_drive.specs.State.{DriveState, view_of}
use Rattle.osd_drive.specs.Table.{is_set_tag, of_object, tag_of, Row, first_row, all_rows, first_fault}
use Rattle.osd_drive.specs.Effects.{lane_for, next_tag, effect_of, result_of, refused_reply, kept_reply, reply_by, state_by, reply_to_reading, after_reading}
use Rattle.osd_drive.proofs.Clear.{clear_late, clear_early}
use Rattle.history_law.proofs.Carried.{unless_either}

-- ---- what is read

cap_reserved : (o : Option ℕ) (x c : Capability) → cap.unless_reserved o x ≡ Ok c → x ≡ c
cap_reserved None x c e = cc e
cap_reserved (Some at) x c e = absurd (cc e)

cap_guard : (b : Bool) (f : CapErr) (r : Result Capability CapErr) (c : Capability)
    → (if not b then Err f else r) ≡ Ok c → r ≡ Ok c
cap_guard true f r c e = e
cap_guard false f r c e = absurd (cc e)

cap_tag : (bytes : List ℕ) (c : Capability) → cap.reading bytes ≡ Ok c
    → from_be_bytes w32 (slice_range bytes 24 28) ≡ c.tag
unfolding cap.reading cap.capability_at
cap_tag bytes c e =
    ap (λ (x : Capability). x.tag)
    (cap_reserved (cap.stray bytes) (cap.capability_at bytes) c
    (cap_guard (cap.is_format (slice_index bytes 0)) CapFormat _ c
    (cap_guard (nat_eq (length bytes) 96) CapLength _ c e)))

-- where the tag of the capability stands
abbrev tag_in : List ℕ → ℕ
tag_in bytes = from_be_bytes w32 (slice_range (slice_range bytes 64 160) 24 28)

by_capability : (bytes : List ℕ) (a : Action) (r : Result Capability CapErr) (c : Command)
    → ((x : Capability) → r ≡ Ok x → tag_in bytes ≡ x.tag) → with_capability bytes a r ≡ Ok c
    → tag_in bytes ≡ c.capability.tag
unfolding command_at
by_capability bytes a (Err e) c at is = absurd (cc is)
by_capability bytes a (Ok x) c at is =
    at x refl ∙ ap (λ (y : Command). y.capability.tag) (if_ok _ _ (command_at a x bytes) c is).1

by_stray : (bytes : List ℕ) (a : Action) (o : Option ℕ) (c : Command) → unless_reserved bytes a o ≡ Ok c
    → tag_in bytes ≡ c.capability.tag
by_stray bytes a None c is =
    by_capability bytes a (cap.reading (slice_range bytes 64 160)) c (λ x e. cap_tag (slice_range bytes 64 160) x e) is
by_stray bytes a (Some at) c is = absurd (cc is)

by_action : (bytes : List ℕ) (o : Option Action) (c : Command) → with_action bytes o ≡ Ok c
    → tag_in bytes ≡ c.capability.tag
by_action bytes None c is = absurd (cc is)
by_action bytes (Some a) c is = by_stray bytes a (stray bytes) c is

tag_read : (bytes : List ℕ) (c : Command) → reading bytes ≡ Ok c → tag_in bytes ≡ c.capability.tag
unfolding reading
tag_read bytes c is =
    let a : Option Action = action_of (from_be_bytes w16 (slice_range bytes 4 6)) in
    by_action bytes a c
    (unless_either (nat_lt (length bytes) 256) (not (nat_eq (from_be_bytes w32 (slice_range bytes 0 4)) magic)) Short
    Magic (with_action bytes a) c is)

-- the tag of a capability that is read in bytes has 32 bits
pub bytes_low : (bytes : List ℕ) → IsBytes bytes → (c : Command) → reading bytes ≡ Ok c → c.capability.tag < 2 ^ 32
bytes_low bytes fits c is =
    subst (λ (n : ℕ). n < 2 ^ 32) (tag_read bytes c is)
    (below_32 _ (IsBytes-range (slice_range bytes 64 160) 24 28 (IsBytes-range bytes 64 160 fits)))

capability_part : (c : Command) → slice_range (spelling c) 64 160 ≡ cap.spelling c.capability
unfolding spelling head fields cap.spelling
capability_part c = refl

tag_part : (c : Capability) → slice_range (cap.spelling c) 24 28 ≡ to_be_bytes w32 c.tag
unfolding cap.spelling
tag_part c = refl

read_32 : (n : ℕ) → from_be_bytes w32 (to_be_bytes w32 n) < 2 ^ 32
read_32 n = omega arith

-- so has one that is read in what spells a command, whatever its numbers
pub spelled_low : (x c : Command) → reading (spelling x) ≡ Ok c → c.capability.tag < 2 ^ 32
spelled_low x c is =
    let there : tag_in (spelling x) ≡ from_be_bytes w32 (to_be_bytes w32 x.capability.tag) =
    ap (λ (bs : List ℕ). from_be_bytes w32 (slice_range bs 24 28)) (capability_part x)
    ∙ ap (from_be_bytes w32) (tag_part x.capability) in
    subst (λ (n : ℕ). n < 2 ^ 32) (sym there ∙ tag_read (spelling x) c is) (read_32 x.capability.tag)

-- ---- the objects of a drive

abbrev pub TagsAreLow : StoreState → Type 0
TagsAreLow s = (q : ℕ) (x : StoredObject) → object_at s q ≡ Some x → x.tag < 2 ^ 32

-- one object more
put_low : (s : StoreState) (k : ℕ) (o : StoredObject) → TagsAreLow s → o.tag < 2 ^ 32 → TagsAreLow (with_object s k o)
put_low s k o low new q x e = elim (cases_eq q k) [
  | inl same ↦
      let it : o ≡ x =
      same_Some o x (sym (lookup_inserted s.objects k o) ∙ ap (object_at (with_object s k o)) (sym same) ∙ e) in
      subst (λ (y : StoredObject). y.tag < 2 ^ 32) it new
  | inr other ↦ low q x (sym (lookup_beside s.objects k q o other) ∙ e)
]

-- one object changed
changed_low : (s : StoreState) (k : ℕ) (f : StoredObject → StoredObject) (o : Option StoredObject) → object_at s k ≡ o →
    TagsAreLow s → ((z : StoredObject) → o ≡ Some z → z.tag < 2 ^ 32 → (f z).tag < 2 ^ 32) →
    TagsAreLow (changed_if_there s k f o)
changed_low s k f None there low keeps q x e = low q x e
changed_low s k f (Some z) there low keeps q x e = elim (cases_eq q k) [
  | inl same ↦
      let it : f z ≡ x =
      same_Some (f z) x
      (sym (lookup_set s.objects k (f z) (subst IsSome (sym there) refl))
      ∙ ap (object_at (changed_if_there s k f (Some z))) (sym same) ∙ e) in
      subst (λ (y : StoredObject). y.tag < 2 ^ 32) it (keeps z refl (low k z there))
  | inr other ↦ low q x (sym (lookup_set_beside s.objects k q (f z) other) ∙ e)
]

-- a SET TAG is refused on the greatest tag
not_greatest : (o : Option StoredObject) (z : StoredObject) → o ≡ Some z
    → of_object (λ y. nat_eq y.tag MAX_TAG) (option_map state_of o) ≡ false → z.tag < 2 ^ 32 → z.tag + 1 < 2 ^ 32
not_greatest o z there e low = next z.tag (rw there at e) low
  where
    next : (n : ℕ) → nat_eq n 4294967295 ≡ false → n < 2 ^ 32 → n + 1 < 2 ^ 32
    next n e l = grind (arith, e, l, nat_tests)

effect_low : (a : Action) (d : DriveState) (c : Command) → c.action ≡ a → c.capability.tag < 2 ^ 32
    → (is_set_tag c.action && of_object (λ y. nat_eq y.tag MAX_TAG) (option_map state_of (object_at d.store c.object)))
    ≡ false → TagsAreLow d.store → TagsAreLow (effect_of a d.store c)
effect_low action.Create d c is read clear low =
    put_low d.store c.object (created c.capability.tag c.payload (lane_for c 0)) low read
effect_low action.Read d c is read clear low = low
effect_low action.Write d c is read clear low =
    changed_low d.store c.object (after_write c.offset c.payload (lane_for c 0)) (object_at d.store c.object) refl low
    (λ z there l. l)
effect_low action.GetAttr d c is read clear low = low
effect_low action.SetAttr d c is read clear low =
    changed_low d.store c.object (after_set_attr c.attribute c.payload (lane_for c 0)) (object_at d.store c.object) refl
    low (λ z there l. l)
effect_low action.SetTag d c is read clear low =
    changed_low d.store c.object (after_set_tag (lane_for c (next_tag (object_at d.store c.object))))
    (object_at d.store c.object) refl low
    (λ z there l. not_greatest (object_at d.store c.object) z there (rw is at clear) l)

state_low : (d : DriveState) (now : ℕ) (c : Command) (v : Verdict) → first_fault d now c ≡ v → c.capability.tag < 2 ^ 32
    → TagsAreLow d.store → TagsAreLow (state_by v d c).store
state_low d now c verdict.Perform is read low =
    effect_low c.action d c refl read (clear_late (view_of d.store c) c (clear_early d now c is).0).tag low
state_low d now c v is read low = low

-- so it is behind any bytes
pub after_low : (d : DriveState) (now : ℕ) (r : Result Command CommandErr)
    → ((c : Command) → r ≡ Ok c → c.capability.tag < 2 ^ 32) → TagsAreLow d.store
    → TagsAreLow (after_reading d now r).store
after_low d now (Ok c) read low = state_low d now c (first_fault d now c) refl (read c refl) low
after_low d now (Err e) read low = low

-- ---- replies

-- a tag that is named has 32 bits
abbrev pub NamesLow : Verdict → Type 0
NamesLow (verdict.Tag current) = current < 2 ^ 32
NamesLow v = Unit {0}

abbrev pub AllNameLow : List Row → Type 0
AllNameLow [] = Unit {0}
AllNameLow (r ∷ rows) = NamesLow r.1 × AllNameLow rows

first_low : (rows : List Row) → AllNameLow rows → NamesLow (first_row rows)
first_low [] all = tt
first_low (r ∷ rows) all = by r.0 all.0 (first_low rows all.1)
  where
    by : (b : Bool) → NamesLow r.1 → NamesLow (first_row rows) → NamesLow (if b then r.1 else first_row rows)
    by true x y = x
    by false x y = y

tag_low : (s : StoreState) (c : Command) (o : Option StoredObject) → object_at s c.object ≡ o → TagsAreLow s
    → tag_of (option_map state_of o) < 2 ^ 32
tag_low s c None there low = omega arith
tag_low s c (Some x) there low = low c.object x there

pub fault_low : (d : DriveState) (now : ℕ) (c : Command) → TagsAreLow d.store → NamesLow (first_fault d now c)
unfolding first_fault
fault_low d now c low =
    let tag = tag_low d.store c (object_at d.store c.object) refl low in
    first_low (all_rows d now c)
    (tt, (tt, (tt, (tt, (tt, (tt, (tt, (tt, (tt, (tag, (tt, (tt, (tt, (tt, (tt, (tt, tt))))))))))))))))

-- a reply that names a tag
abbrev pub SaysLow : Reply → Type 0
SaysLow r = r.verdict ≡ 9 → r.detail < 2 ^ 32

refused_low : (c : Command) (v : Verdict) → NamesLow v → SaysLow (refused_reply c v)
refused_low c (verdict.Tag current) low e = low
refused_low c v low e = absurd (omega (arith, e))

result_low : (a : Action) (s : StoreState) (c : Command) → SaysLow (result_of a s c)
result_low action.Create s c e = absurd (omega (arith, e))
result_low action.Read s c e = absurd (omega (arith, e))
result_low action.Write s c e = absurd (omega (arith, e))
result_low action.GetAttr s c e = absurd (omega (arith, e))
result_low action.SetAttr s c e = absurd (omega (arith, e))
result_low action.SetTag s c e = absurd (omega (arith, e))

kept_low : (c : Command) (l : Option LaneEntry) → SaysLow (kept_reply c l)
kept_low c None e = absurd (omega (arith, e))
kept_low c (Some l) e = absurd (omega (arith, e))

by_low : (v : Verdict) (d : DriveState) (c : Command) → NamesLow v → SaysLow (reply_by v d c)
by_low verdict.Perform d c low = result_low c.action d.store c
by_low verdict.Again d c low = kept_low c (lane_or_none (object_at d.store c.object) c.capability.holder)
by_low v d c low = refused_low c v low

pub reply_low : (d : DriveState) (now : ℕ) (r : Result Command CommandErr) → TagsAreLow d.store
    → SaysLow (reply_to_reading d now r)
reply_low d now (Ok c) low = by_low (first_fault d now c) d c (fault_low d now c low)
reply_low d now (Err e) low = λ is. absurd (omega (arith, is))
