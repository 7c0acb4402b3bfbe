-- What a command that is performed leaves of the tags of objects.
use Rattle.std.proofs.Common.{◌≡◌, true, ℕ, ◌+◌, ◌≤◌, Option, Some, None, IsSome, refl, sym, ap, subst, ◌∙◌, arith, inl, inr}
use Rattle.std.proofs.lemmas.Option.{same_Some}
use Rattle.osd_commands.specs.declared.actions.Action.{Action}
use Rattle.osd_commands.specs.declared.actions.Action.TheVariants as action
use Rattle.osd_commands.specs.declared.commands.Command.{Command}
use Rattle.osd_objects.specs.declared.object.StoredObject.{StoredObject}
use Rattle.osd_objects.specs.Objects.{created, after_write, after_set_attr, after_set_tag}
use Rattle.osd_objects.specs.Store.{StoreState, object_at, changed_if_there}
use Rattle.osd_objects.proofs.Entries.{lookup_inserted, lookup_beside, lookup_set, lookup_set_beside}
use Rattle.osd_drive.specs.State.{DriveState}
use Rattle.osd_drive.specs.Table.{is_create}
use Rattle.osd_drive.specs.Effects.{lane_for, next_tag, effect_of}
use Rattle.history_law.proofs.Spending.{IsFree, free}
use Rattle.history_law.proofs.Raising.{there_with}
use Rattle.history_law.specs.Names.{Kept}
use Rattle.component_law.specs.Tagged.{IsBehind}
use Rattle.component_law.specs.Within.{sets_tag, IsWithin, ObjectWithin, PerformedStayWithin}

-- ---- an object that is changed

others_stay : (s : StoreState) (k : ℕ) (f : StoredObject → StoredObject) (o : Option StoredObject) (q : ℕ)
    → (q ≡ k → ⊥) → object_at (changed_if_there s k f o) q ≡ object_at s q
others_stay s k f None q other = refl
others_stay s k f (Some z) q other = lookup_set_beside s.objects k q (f z) other

changed_own : (s : StoreState) (k : ℕ) (f : StoredObject → StoredObject) (o : Option StoredObject) → object_at s k ≡ o
    → (y : StoredObject) → object_at (changed_if_there s k f o) k ≡ Some y
    → (x : StoredObject) × (object_at s k ≡ Some x) × (f x ≡ y)
changed_own s k f None none y e = absurd (cc (sym none ∙ e))
changed_own s k f (Some z) there y e =
    (z, there, same_Some (f z) y (sym (lookup_set s.objects k (f z) (subst IsSome (sym there) refl)) ∙ e))

-- one that keeps its tag
kept_tag : (d : DriveState) (c : Command) (k : Kept) (f : StoredObject → StoredObject)
    → ((x : StoredObject) → (f x).tag ≡ x.tag) → ObjectWithin k d c.object → (y : StoredObject)
    → object_at (changed_if_there d.store c.object f (object_at d.store c.object)) c.object ≡ Some y → IsWithin k y.tag
kept_tag d c k f same was y e =
    let r = changed_own d.store c.object f (object_at d.store c.object) refl y e in
    subst (IsWithin k) (sym (same r.0) ∙ ap (λ (z : StoredObject). z.tag) r.2) (was r.0 r.1)

-- ---- each action

own_by : (a : Action) (d : DriveState) (c : Command) → c.action ≡ a → IsFree d c → (k : Kept)
    → (sets_tag a ≡ true → IsBehind k c)
    → ObjectWithin k d c.object → (y : StoredObject) → object_at (effect_of a d.store c) c.object ≡ Some y
    → IsWithin k y.tag
own_by action.Create d c is f k b was y e =
    let made : created c.capability.tag c.payload (lane_for c 0) ≡ y =
    same_Some _ y
    (sym (lookup_inserted d.store.objects c.object (created c.capability.tag c.payload (lane_for c 0))) ∙ e) in
    inl (subst (λ (t : ℕ). t ≤ k.tag) (ap (λ (z : StoredObject). z.tag) made) (b refl).0)
own_by action.Read d c is f k b was y e = was y e
own_by action.GetAttr d c is f k b was y e = was y e
own_by action.Write d c is f k b was y e =
    kept_tag d c k (after_write c.offset c.payload (lane_for c 0)) (λ x. refl) was y e
own_by action.SetAttr d c is f k b was y e =
    kept_tag d c k (after_set_attr c.attribute c.payload (lane_for c 0)) (λ x. refl) was y e
own_by action.SetTag d c is f k b was y e =
    let lane = lane_for c (next_tag (object_at d.store c.object)) in
    let r = changed_own d.store c.object (after_set_tag lane) (object_at d.store c.object) refl y e in
    let w = there_with c (object_at d.store c.object) (ap is_create is) f.there f.tag in
    let same : r.0.tag ≡ c.capability.tag =
    ap (λ (z : StoredObject). z.tag) (same_Some r.0 w.0 (sym r.1 ∙ w.1)) ∙ w.2 in
    let tag : y.tag ≡ c.capability.tag + 1 =
    ap (λ (z : StoredObject). z.tag) (sym r.2) ∙ ap (λ (n : ℕ). n + 1) same in
    elim ((b refl).1 is) [
      | inl less ↦ inl (omega (arith, tag, less))
      | inr wide ↦ inr (omega (arith, tag, (b refl).0), wide)
    ]

others_by : (a : Action) (d : DriveState) (c : Command) (q : ℕ) → (q ≡ c.object → ⊥)
    → object_at (effect_of a d.store c) q ≡ object_at d.store q
others_by action.Create d c q other =
    lookup_beside d.store.objects c.object q (created c.capability.tag c.payload (lane_for c 0)) other
others_by action.Read d c q other = refl
others_by action.GetAttr d c q other = refl
others_by action.Write d c q other = others_stay d.store c.object _ (object_at d.store c.object) q other
others_by action.SetAttr d c q other = others_stay d.store c.object _ (object_at d.store c.object) q other
others_by action.SetTag d c q other = others_stay d.store c.object _ (object_at d.store c.object) q other

pub performed_stay_within : PerformedStayWithin
performed_stay_within d now c e = record {
  own = λ k b was y there. own_by c.action d c refl (free d now c e) k b was y there;
  others = λ o other. others_by c.action d c o other;
}
