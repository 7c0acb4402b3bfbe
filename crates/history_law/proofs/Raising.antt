-- A SET TAG that is performed raises the tag, and leaves the server's lane.
use Rattle.std.proofs.Common.{◌≡◌, ◌⊎◌, ℕ, ◌+◌, ◌≤◌, ◌<◌, Bool, true, false, not, nat_eq, ◌&&◌, is_none, List, [], Option, Some, None, IsSome, option_map, refl, sym, ap, subst, ◌∙◌, arith, inl, inr}
use Rattle.std.proofs.lemmas.Bool.{cases_eq}
use Rattle.std.proofs.lemmas.Bool.Decides.{nat_tests}
use Rattle.std.proofs.lemmas.Option.{same_Some}
use Rattle.osd_commands.specs.declared.actions.Action.{Action}
use Rattle.osd_commands.specs.declared.actions.Action.TheVariants as action
use Rattle.osd_commands.specs.declared.commands.Command.{Command}
use Rattle.osd_objects.specs.declared.lanes.LaneEntry.{LaneEntry}
use Rattle.osd_objects.specs.declared.object.StoredObject.{StoredObject}
use Rattle.osd_objects.specs.Lanes.{lane_of, with_lane}
use Rattle.osd_objects.specs.Objects.{state_of, created, after_write, after_set_attr, after_set_tag}
use Rattle.osd_objects.specs.Store.{StoreState, object_at, changed_if_there}
use Rattle.osd_objects.proofs.Entries.{lookup_inserted, lookup_beside, lookup_set, lookup_set_beside}
use Rattle.osd_drive.specs.State.{DriveState}
use Rattle.osd_drive.specs.Table.{is_create, of_object}
use Rattle.osd_drive.specs.Effects.{lane_for, next_tag, effect_of, performed}
use Rattle.osd_drive.proofs.LaneLaws.{lane_kept}
use Rattle.history_law.proofs.Lanes.{lane_beside}
use Rattle.history_law.proofs.Spending.{IsFree}

-- ---- an object that is changed

-- where an object is found behind a change of it, it was there
changed_at : (s : StoreState) (k : ℕ) (f : StoredObject → StoredObject) (o : Option StoredObject) → object_at s k ≡ o
    → (q : ℕ) (y : StoredObject) → object_at (changed_if_there s k f o) q ≡ Some y
    → (object_at s q ≡ Some y × (q ≡ k → ⊥)) ⊎ ((x : StoredObject) × (q ≡ k) × (object_at s k ≡ Some x) × (f x ≡ y))
changed_at s k f None none q y e = elim (cases_eq q k) [
  | inl same ↦ absurd (cc (sym e ∙ ap (object_at s) same ∙ none))
  | inr other ↦ inl (e, other)
]
changed_at s k f (Some z) there q y e = elim (cases_eq q k) [
  | inl same ↦ inr (
    z,
    same,
    there,
    same_Some (f z) y
        (sym (lookup_set s.objects k (f z) (subst IsSome (sym there) refl))
        ∙ ap (object_at (changed_if_there s k f (Some z))) (sym same) ∙ e),
  )
  | inr other ↦ inl (sym (lookup_set_beside s.objects k q (f z) other) ∙ e, other)
]

-- ---- the tag

same_tag : (a b : ℕ) → not (nat_eq a b) ≡ false → a ≡ b
same_tag a b e = grind (arith, e, nat_tests)

-- the object is there, with the capability's tag
pub there_with : (c : Command) (o : Option StoredObject) → is_create c.action ≡ false
    → (not (is_create c.action) && is_none (option_map state_of o)) ≡ false
    → (not (is_create c.action) && of_object (λ x. not (nat_eq c.capability.tag x.tag)) (option_map state_of o)) ≡ false
    → (x : StoredObject) × (o ≡ Some x) × (x.tag ≡ c.capability.tag)
there_with c None old there tag = absurd (cc (sym (ap (λ (b : Bool). not b && true) old) ∙ there))
there_with c (Some x) old there tag = (
  x,
  refl,
  sym (same_tag c.capability.tag x.tag (sym (ap (λ (b : Bool). not b && not (nat_eq c.capability.tag x.tag)) old)
      ∙ tag)),
)

-- behind a SET TAG that is performed
pub set_tag_raises : (d : DriveState) (c : Command) → c.action ≡ action.SetTag → IsFree d c
    → (y : StoredObject) × (object_at (performed d c).store c.object ≡ Some y) × (y.tag ≡ c.capability.tag + 1)
set_tag_raises d c is f =
    let old : is_create c.action ≡ false = ap is_create is in
    let r = there_with c (object_at d.store c.object) old f.there f.tag in
    let lane = lane_for c (next_tag (object_at d.store c.object)) in (
      after_set_tag lane r.0,
      ap (λ (a : Action). object_at (effect_of a d.store c) c.object) is
          ∙ ap (λ (o : Option StoredObject). object_at (changed_if_there d.store c.object (after_set_tag lane) o)
          c.object) r.1
          ∙ lookup_set d.store.objects c.object (after_set_tag lane r.0) (subst IsSome (sym r.1) refl),
      ap (λ (n : ℕ). n + 1) r.2,
    )

-- ---- lanes

-- A lane of a holder, behind a change of an object: it was there on an object of no later tag, or it is the command's,
-- and a SET TAG raised the tag.
pub data LaneFrom (s : StoreState) (c : Command) (q holder : ℕ) (y : StoredObject) (l : LaneEntry) : Type 0 where
  Old : (x : StoredObject) → object_at s q ≡ Some x → lane_of x.lanes holder ≡ Some l → x.tag ≤ y.tag
      → LaneFrom s c q holder y l
  New : q ≡ c.object → c.capability.holder ≡ holder → l.nonce ≡ c.nonce
      → (c.action ≡ action.SetTag → c.capability.tag < y.tag) → LaneFrom s c q holder y l

-- a change that leaves a lane of its holder
lane_put : (s : StoreState) (c : Command) (detail q holder : ℕ) (f : StoredObject → StoredObject) (x y : StoredObject)
    (l : LaneEntry) → q ≡ c.object → object_at s q ≡ Some x → y.lanes ≡ with_lane x.lanes (lane_for c detail)
    → x.tag ≤ y.tag
    → (c.action ≡ action.SetTag → c.capability.tag < y.tag) → lane_of y.lanes holder ≡ Some l
    → LaneFrom s c q holder y l
lane_put s c detail q holder f x y l same there lanes tag raised e = elim (cases_eq c.capability.holder holder) [
  | inl own ↦ New same own (nonce own) raised
  | inr other ↦ Old x there
      (sym (lane_beside x.lanes (lane_for c detail) holder other)
      ∙ ap (λ (ls : List LaneEntry). lane_of ls holder) (sym lanes) ∙ e)
      tag
]
  where
    some_lane : (a b : LaneEntry) → Some a ≡ Some b → a ≡ b
    some_lane a b i = cc i

    nonce : c.capability.holder ≡ holder → l.nonce ≡ c.nonce
    nonce own =
        ap (λ (z : LaneEntry). z.nonce)
        (some_lane l (lane_for c detail)
        (sym e ∙ ap (λ (ls : List LaneEntry). lane_of ls holder) lanes
        ∙ ap (lane_of (with_lane x.lanes (lane_for c detail))) (sym own) ∙ lane_kept x.lanes (lane_for c detail)))

lane_changed : (s : StoreState) (c : Command) (detail : ℕ) (f : StoredObject → StoredObject) (q holder : ℕ)
    (y : StoredObject) (l : LaneEntry)
    → ((x : StoredObject) → object_at s c.object ≡ Some x
    → ((f x).lanes ≡ with_lane x.lanes (lane_for c detail)) × (x.tag ≤ (f x).tag)
    × (c.action ≡ action.SetTag → c.capability.tag < (f x).tag))
    → object_at (changed_if_there s c.object f (object_at s c.object)) q ≡ Some y → lane_of y.lanes holder ≡ Some l
    → LaneFrom s c q holder y l
lane_changed s c detail f q holder y l leaves there e =
    elim (changed_at s c.object f (object_at s c.object) refl q y there) [
      | inl (old, other) ↦ Old y old e (omega arith)
      | inr (x, same, found, is) ↦
          let r = leaves x found in
          lane_put s c detail q holder f x y l same (ap (object_at s) same ∙ found)
          (ap (λ (z : StoredObject). z.lanes) (sym is) ∙ r.0)
          (subst (λ (z : StoredObject). x.tag ≤ z.tag) is r.1)
          (λ a. subst (λ (z : StoredObject). c.capability.tag < z.tag) is (r.2 a)) e
    ]

not_set_tag : (a b : Action) → a ≡ b → (b ≡ action.SetTag → ⊥) → (n m : ℕ) → a ≡ action.SetTag → n < m
not_set_tag a b is never n m e = absurd (never (sym is ∙ e))

-- behind each command that is performed
pub lane_from : (a : Action) (d : DriveState) (c : Command) → c.action ≡ a → IsFree d c
    → (q holder : ℕ) (y : StoredObject)
    (l : LaneEntry) → object_at (effect_of a d.store c) q ≡ Some y → lane_of y.lanes holder ≡ Some l
    → LaneFrom d.store c q holder y l
lane_from action.Create d c is f q holder y l there e = elim (cases_eq q c.object) [
  | inl same ↦ made same
  | inr other ↦ Old y (sym (lookup_beside d.store.objects c.object q _ other) ∙ there) e (omega arith)
]
  where
    lane : LaneEntry
    lane = lane_for c 0

    own_lane : (a b : LaneEntry) → Some a ≡ Some b → a.nonce ≡ b.nonce
    own_lane a b i = ap (λ (z : LaneEntry). z.nonce) (same_Some a b i)

    made : q ≡ c.object → LaneFrom d.store c q holder y l
    made same =
        let is_y : created c.capability.tag c.payload lane ≡ y =
        same_Some _ y (sym (lookup_inserted d.store.objects c.object (created c.capability.tag c.payload lane))
        ∙ ap (object_at (effect_of action.Create d.store c)) (sym same) ∙ there) in
        let found : lane_of (with_lane [] lane) holder ≡ Some l =
        ap (λ (z : StoredObject). lane_of z.lanes holder) is_y ∙ e in
        elim (cases_eq c.capability.holder holder) [
          | inl own ↦ New same own
              (own_lane l lane (sym found ∙ ap (lane_of (with_lane [] lane)) (sym own) ∙ lane_kept [] lane))
              (λ i. absurd (cc (sym is ∙ i)))
          | inr other ↦ absurd (cc (sym found ∙ lane_beside [] lane holder other))
        ]
lane_from action.Read d c is f q holder y l there e = Old y there e (omega arith)
lane_from action.GetAttr d c is f q holder y l there e = Old y there e (omega arith)
lane_from action.Write d c is f q holder y l there e =
    lane_changed d.store c 0 (after_write c.offset c.payload (lane_for c 0)) q holder y l
    (λ x found. (refl, omega arith, not_set_tag c.action action.Write is (λ z. cc z) _ _)) there e
lane_from action.SetAttr d c is f q holder y l there e =
    lane_changed d.store c 0 (after_set_attr c.attribute c.payload (lane_for c 0)) q holder y l
    (λ x found. (refl, omega arith, not_set_tag c.action action.SetAttr is (λ z. cc z) _ _)) there e
lane_from action.SetTag d c is f q holder y l there e =
    lane_changed d.store c (next_tag (object_at d.store c.object)) (after_set_tag (lane_for c (next_tag (object_at
    d.store c.object))))
    q holder y l (λ x found. (refl, omega arith, λ i. raised x found)) there e
  where
    raised : (x : StoredObject) → object_at d.store c.object ≡ Some x → c.capability.tag < x.tag + 1
    raised x found =
        let r = there_with c (object_at d.store c.object) (ap is_create is) f.there f.tag in
        let tag : x.tag ≡ c.capability.tag = ap (λ (z : StoredObject). z.tag) (same_Some x r.0 (sym found ∙ r.1))
        ∙ r.2 in
        omega (arith, tag)
