-- What a performed command leaves of its object: the tag, the bytes, and the lanes.
-- Towards `ComponentsGoOn` (`specs/Steps.antt`).
use Rattle.std.proofs.Common.{◌≡◌, ◌⊎◌, ℕ, ◌+◌, ◌-◌, ◌<◌, ◌≤◌, ◌&&◌, Bool, true, false, List, [], ◌∷◌, length, Option, Some, None, IsSome, nat_eq, nat_lt, refl, sym, ap, subst, ◌∙◌, inl, inr, arith}
use Rattle.std.specs.Prelude.{get_or, slice_index}
use Rattle.std.proofs.lemmas.Bool.{cases_lt}
use Rattle.std.proofs.lemmas.Bool.Decides.{nat_tests}
use Rattle.osd_lists.proofs.Overwritten.{before_overwritten, inside_overwritten, behind_overwritten}
use Rattle.osd_commands.specs.declared.actions.Action.{Action}
use Rattle.osd_commands.specs.declared.actions.Action.TheVariants as action
use Rattle.osd_commands.specs.declared.commands.Command.{Command}
use Rattle.osd_objects.specs.declared.lanes.LaneEntry.{LaneEntry}
use Rattle.osd_objects.specs.declared.object.StoredObject.{StoredObject}
use Rattle.osd_objects.specs.Objects.{created, after_write, after_set_attr, after_set_tag}
use Rattle.osd_objects.specs.Sparse.{Sparse, written}
use Rattle.osd_objects.specs.Store.{object_at, lane_or_none, changed_if_there}
use Rattle.osd_objects.proofs.Entries.{lookup_inserted, lookup_set}
use Rattle.osd_drive.specs.State.{DriveState}
use Rattle.osd_drive.specs.Table.{is_create, is_mutating, of_lane}
use Rattle.osd_drive.specs.Effects.{lane_for, next_tag, effect_of, performed}
use Rattle.history_law.proofs.Spending.{IsFree, absent}
use Rattle.history_law.proofs.Raising.{there_with}

-- ---- the object

-- a command that makes no object finds one, which has the capability's tag, and leaves this of it
pub record Leaves (d : DriveState) (c : Command) (f : StoredObject → StoredObject) : Type 0 where
  pub before : StoredObject
  pub there : object_at d.store c.object ≡ Some before
  pub tag : before.tag ≡ c.capability.tag
  pub behind : object_at (performed d c).store c.object ≡ Some (f before)

changes : (d : DriveState) (c : Command) (a : Action) (f : StoredObject → StoredObject) → c.action ≡ a →
    is_create a ≡ false → (effect_of a d.store c ≡ changed_if_there d.store c.object f (object_at d.store c.object)) →
    IsFree d c → Leaves d c f
changes d c a f is old effect free =
    let r = there_with c (object_at d.store c.object) (ap is_create is ∙ old) free.there free.tag in
    record {
      before = r.0;
      there = r.1;
      tag = r.2;
      behind =
          ap (λ (b : Action). object_at (effect_of b d.store c) c.object) is
          ∙ ap (λ s. object_at s c.object) effect
          ∙ ap (λ (o : Option StoredObject). object_at (changed_if_there d.store c.object f o) c.object) r.1
          ∙ lookup_set d.store.objects c.object (f r.0) (subst IsSome (sym r.1) refl);
    }

pub writes : (d : DriveState) (c : Command) → c.action ≡ action.Write → IsFree d c →
    Leaves d c (after_write c.offset c.payload (lane_for c 0))
writes d c is free = changes d c action.Write (after_write c.offset c.payload (lane_for c 0)) is refl refl free

pub sets_tag : (d : DriveState) (c : Command) → c.action ≡ action.SetTag → IsFree d c →
    Leaves d c (after_set_tag (lane_for c (next_tag (object_at d.store c.object))))
sets_tag d c is free =
    changes d c action.SetTag (after_set_tag (lane_for c (next_tag (object_at d.store c.object)))) is refl refl free

pub sets_attr : (d : DriveState) (c : Command) → c.action ≡ action.SetAttr → IsFree d c →
    Leaves d c (after_set_attr c.attribute c.payload (lane_for c 0))
sets_attr d c is free =
    changes d c action.SetAttr (after_set_attr c.attribute c.payload (lane_for c 0)) is refl refl free

pub reads : (d : DriveState) (c : Command) → c.action ≡ action.Read → IsFree d c → Leaves d c (λ x. x)
reads d c is free =
    let r = there_with c (object_at d.store c.object) (ap is_create is) free.there free.tag in
    record {
      before = r.0;
      there = r.1;
      tag = r.2;
      behind = ap (λ (b : Action). object_at (effect_of b d.store c) c.object) is ∙ r.1;
    }

-- a CREATE finds none, and makes one
pub creates_none : (d : DriveState) (c : Command) → c.action ≡ action.Create → IsFree d c →
    object_at d.store c.object ≡ None
creates_none d c is free = absent (object_at d.store c.object) (rw is at free.finds)

pub creates : (d : DriveState) (c : Command) → c.action ≡ action.Create →
    object_at (performed d c).store c.object ≡ Some (created c.capability.tag c.payload (lane_for c 0))
creates d c is =
    ap (λ (b : Action). object_at (effect_of b d.store c) c.object) is
    ∙ lookup_inserted d.store.objects c.object (created c.capability.tag c.payload (lane_for c 0))

-- these change no object
pub rests : (d : DriveState) (c : Command) → (c.action ≡ action.Read) ⊎ (c.action ≡ action.GetAttr) → (o : ℕ) →
    object_at (performed d c).store o ≡ object_at d.store o
rests d c (inl is) o = ap (λ (b : Action). object_at (effect_of b d.store c) o) is
rests d c (inr is) o = ap (λ (b : Action). object_at (effect_of b d.store c) o) is

-- ---- the lane

-- the holder's lane is below the nonce of a change that is performed
pub lane_below : (d : DriveState) (c : Command) → is_mutating c.action ≡ true → IsFree d c → (x : StoredObject) →
    object_at d.store c.object ≡ Some x → (l : LaneEntry) → lane_or_none (Some x) c.capability.holder ≡ Some l →
    l.nonce < c.nonce
lane_below d c mutates free x there l lane =
    low l (at free.stale) (at_same free.repeated)
  where
    low : (l : LaneEntry) → nat_lt c.nonce l.nonce ≡ false → nat_eq l.nonce c.nonce ≡ false → l.nonce < c.nonce
    low l e f = grind (arith, e, f, nat_tests)

    own : lane_or_none (object_at d.store c.object) c.capability.holder ≡ Some l
    own = ap (λ o. lane_or_none o c.capability.holder) there ∙ lane

    at : (is_mutating c.action && of_lane (λ y. nat_lt c.nonce y.nonce)
        (lane_or_none (object_at d.store c.object) c.capability.holder)) ≡ false → nat_lt c.nonce l.nonce ≡ false
    at e =
        sym (ap (λ (b : Bool). b && of_lane (λ y. nat_lt c.nonce y.nonce) (Some l)) mutates)
        ∙ sym (ap (λ o. is_mutating c.action && of_lane (λ y. nat_lt c.nonce y.nonce) o) own) ∙ e

    at_same : (is_mutating c.action && of_lane (λ y. nat_eq y.nonce c.nonce)
        (lane_or_none (object_at d.store c.object) c.capability.holder)) ≡ false → nat_eq l.nonce c.nonce ≡ false
    at_same e =
        sym (ap (λ (b : Bool). b && of_lane (λ y. nat_eq y.nonce c.nonce) (Some l)) mutates)
        ∙ sym (ap (λ o. is_mutating c.action && of_lane (λ y. nat_eq y.nonce c.nonce) o) own) ∙ e

-- ---- the bytes

-- a byte that is written
pub written_inside : (s : Sparse) (offset : ℕ) (bytes : List ℕ) (i : ℕ) → i < length bytes →
    get_or (written s offset bytes).bytes (offset + i) 0 ≡ slice_index bytes i
written_inside s offset [] i below = absurd (omega (arith, below))
written_inside s offset (b ∷ bs) i below = inside_overwritten s.bytes offset (b ∷ bs) i below

pub written_at : (s : Sparse) (offset : ℕ) (bytes : List ℕ) (z : ℕ) → offset ≤ z → z < offset + length bytes →
    get_or (written s offset bytes).bytes z 0 ≡ slice_index bytes (z - offset)
written_at s offset bytes z low high =
    let sum : z ≡ offset + (z - offset) = omega (arith, low) in
    ap (λ (y : ℕ). get_or (written s offset bytes).bytes y 0) sum
    ∙ written_inside s offset bytes (z - offset) (omega (arith, low, high))

-- and one that isn't
pub written_outside : (s : Sparse) (offset : ℕ) (bytes : List ℕ) (z : ℕ) →
    (offset ≤ z → z < offset + length bytes → ⊥) → get_or (written s offset bytes).bytes z 0 ≡ get_or s.bytes z 0
written_outside s offset [] z out = refl
written_outside s offset (b ∷ bs) z out = elim (cases_lt z offset) [
  | inl before ↦ before_overwritten s.bytes offset (b ∷ bs) z before
  | inr from ↦ elim (cases_lt z (offset + length (b ∷ bs))) [
    | inl within ↦ absurd (out from within)
    | inr behind ↦ behind_overwritten s.bytes offset (b ∷ bs) z behind
  ]
]
