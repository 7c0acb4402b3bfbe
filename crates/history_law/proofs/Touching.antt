-- A performed command touches its own object and range alone.
use Rattle.std.proofs.Common.{◌≡◌, ℕ, ◌+◌, ◌<◌, ◌≤◌, false, List, [], ◌∷◌, length, Option, Some, None, Result, Ok, Err, IsSome, IsTrue, refl, sym, ap, subst, ◌∙◌, arith, inl, inr, nat_eq}
use Rattle.std.specs.Prelude.{get_or, is_some}
use Rattle.std.specs.Option.{option_map}
use Rattle.std.proofs.lemmas.Bool.{cases_lt, and_parts}
use Rattle.osd_lists.proofs.Overwritten.{before_overwritten, behind_overwritten}
use Rattle.osd_lists.proofs.Options.{guard_ok}
use Rattle.osd_lists.proofs.Tests.{not_false}
use Rattle.osd_capability.specs.declared.layout.Capability.{Capability}
use Rattle.osd_capability.specs.declared.layout.CapErr.{CapErr}
use Rattle.osd_commands.specs.declared.actions.Action.{Action}
use Rattle.osd_commands.specs.declared.actions.Action.TheVariants.{Create, Read, Write, GetAttr, SetAttr, SetTag}
use Rattle.osd_commands.specs.declared.commands.Command.{Command}
use Rattle.osd_commands.specs.declared.commands.CommandErr.TheVariants.{Short, Magic, Length}
use Rattle.osd_commands.specs.Commands.{allows, is_sized, command_at, sized, with_capability, unless_reserved, with_action, reading}
use Rattle.osd_commands.proofs.Passing.{if_ok}
use Rattle.osd_objects.specs.declared.object.StoredObject.{StoredObject}
use Rattle.osd_objects.specs.Objects.{state_of}
use Rattle.osd_objects.specs.Sparse.{Sparse, written}
use Rattle.osd_objects.specs.Store.{StoreState, object_at, bytes_or_none, changed_if_there, AreOthersKept}
use Rattle.osd_objects.proofs.Entries.{lookup_inserted, lookup_beside, lookup_set, lookup_set_beside}
use Rattle.osd_drive.specs.declared.verdict.Verdict.TheVariants.{Perform}
use Rattle.osd_drive.specs.State.{DriveState}
use Rattle.osd_drive.specs.Table.{first_fault, is_out_of_range}
use Rattle.osd_drive.specs.Effects.{effect_of, result_of}
use Rattle.osd_drive.proofs.Clear.{all_told}
use Rattle.history_law.specs.Touching.{byte_of, IsInside, PerformedTouchesItsOwn}

-- ---- a command that is read has the payload that its action allows

sized_only : (bytes : List ℕ) (d c : Command) → sized bytes d ≡ Ok c → IsTrue (allows c.action c.length (length c.payload))
sized_only bytes d c is =
    let both = if_ok (is_sized bytes d.action d.length (length d.payload)) (Length (length d.payload)) d c is in
    subst (λ (x : Command). IsTrue (allows x.action x.length (length x.payload))) both.1
    (and_parts _ (allows d.action d.length (length d.payload)) both.0).1

capable_only : (bytes : List ℕ) (a : Action) (r : Result Capability CapErr) (c : Command) → with_capability bytes a r ≡ Ok c
    → IsTrue (allows c.action c.length (length c.payload))
capable_only bytes a (Ok cap) c is = sized_only bytes (command_at a cap bytes) c is
capable_only bytes a (Err e) c is = absurd (cc is)

reserved_only : (bytes : List ℕ) (a : Action) (o : Option ℕ) (c : Command) → unless_reserved bytes a o ≡ Ok c
    → IsTrue (allows c.action c.length (length c.payload))
reserved_only bytes a None c is = capable_only bytes a _ c is
reserved_only bytes a (Some at) c is = absurd (cc is)

action_only : (bytes : List ℕ) (o : Option Action) (c : Command) → with_action bytes o ≡ Ok c
    → IsTrue (allows c.action c.length (length c.payload))
action_only bytes None c is = absurd (cc is)
action_only bytes (Some a) c is = reserved_only bytes a _ c is

read_only : (bytes : List ℕ) (c : Command) → reading bytes ≡ Ok c → IsTrue (allows c.action c.length (length c.payload))
unfolding reading
read_only bytes c is = action_only bytes _ c (guard_ok _ Magic _ c (guard_ok _ Short _ c is).1).1

-- ---- other objects

changed_beside : (s : StoreState) (k : ℕ) (f : StoredObject → StoredObject) (o : Option StoredObject)
    → AreOthersKept s k (changed_if_there s k f o)
changed_beside s k f None q other = refl
changed_beside s k f (Some x) q other = lookup_set_beside s.objects k q (f x) other

others : (a : Action) (s : StoreState) (c : Command) → AreOthersKept s c.object (effect_of a s c)
others Create s c q other = lookup_beside s.objects c.object q _ other
others Read s c q other = refl
others Write s c q other = changed_beside s c.object _ (object_at s c.object) q other
others GetAttr s c q other = refl
others SetAttr s c q other = changed_beside s c.object _ (object_at s c.object) q other
others SetTag s c q other = changed_beside s c.object _ (object_at s c.object) q other

-- ---- the object

changed_there : (s : StoreState) (k : ℕ) (f : StoredObject → StoredObject) (o : Option StoredObject) → object_at s k ≡ o
    → object_at (changed_if_there s k f o) k ≡ option_map f o
changed_there s k f None is = is
changed_there s k f (Some x) is = lookup_set s.objects k (f x) (subst IsSome (sym is) refl)

-- a change that leaves byte k of the object
left_of : (s : StoreState) (object k : ℕ) (f : StoredObject → StoredObject) (o : Option StoredObject)
    → object_at s object ≡ o → ((x : StoredObject) → get_or (f x).content.bytes k 0 ≡ get_or x.content.bytes k 0)
    → byte_of (changed_if_there s object f o) object k ≡ byte_of s object k
left_of s object k f None is same = refl
left_of s object k f (Some x) is same =
    ap (λ (p : Option StoredObject). get_or (bytes_or_none p) k 0) (changed_there s object f (Some x) is)
    ∙ same x ∙ sym (ap (λ (p : Option StoredObject). get_or (bytes_or_none p) k 0) is)

written_outside : (x : Sparse) (offset : ℕ) (payload : List ℕ) (k : ℕ)
    → (offset ≤ k → k < offset + length payload → ⊥) → get_or (written x offset payload).bytes k 0 ≡ get_or x.bytes k 0
written_outside x offset [] k out = refl
written_outside x offset (b ∷ bs) k out = elim (cases_lt k offset) [
  | inl before ↦ before_overwritten x.bytes offset (b ∷ bs) k before
  | inr from ↦ elim (cases_lt k (offset + length (b ∷ bs))) [
    | inl within ↦ absurd (out from within)
    | inr behind ↦ behind_overwritten x.bytes offset (b ∷ bs) k behind
  ]
]

-- what a command without fault says of its object and its range
pub record IsAtHome (d : DriveState) (c : Command) : Type 0 where
  pub object : c.object ≡ c.capability.object
  pub range : is_out_of_range c ≡ false
  pub absent : c.action ≡ Create → object_at d.store c.object ≡ None

pub home : (d : DriveState) (now : ℕ) (c : Command) → first_fault d now c ≡ Perform → IsAtHome d c
home d now c e =
    let all = (all_told d now c).0 e in
    let here = not_false _ all.1.1.1.1.1.0 in
    let rest = and_parts (nat_eq c.partition c.capability.partition) _ here in
    let same = (and_parts (nat_eq c.object c.capability.object) _ rest.1).0 in
    let finds = all.1.1.1.1.1.1.1.1.0 in
    record {
      object = grind (arith, same);
      range = all.1.1.1.1.1.1.0;
      absent = λ creates. gone (object_at d.store c.object) (rw creates at finds);
    }
  where
    gone : (o : Option StoredObject) → is_some (option_map state_of o) ≡ false → o ≡ None
    gone None h = refl
    gone (Some x) h = absurd (cc h)

bytes_left : (a : Action) (d : DriveState) (c : Command) → c.action ≡ a → IsAtHome d c
    → IsTrue (allows a c.length (length c.payload)) → (k : ℕ) → (IsInside c.capability k → ⊥)
    → byte_of (effect_of a d.store c) c.object k ≡ byte_of d.store c.object k
bytes_left Create d c is h allowed k out =
    ap (λ (p : Option StoredObject). get_or (bytes_or_none p) k 0) (lookup_inserted d.store.objects c.object _)
    ∙ sym (ap (λ (p : Option StoredObject). get_or (bytes_or_none p) k 0) (h.absent is))
bytes_left Read d c is h allowed k out = refl
bytes_left Write d c is h allowed k out =
    let range = rw is at h.range in
    left_of d.store c.object k _ (object_at d.store c.object) refl
    (λ x. written_outside x.content c.offset c.payload k
    (λ from within. out (grind (arith, range, allowed, from, within), grind (arith, range, allowed, from, within))))
bytes_left GetAttr d c is h allowed k out = refl
bytes_left SetAttr d c is h allowed k out = left_of d.store c.object k _ (object_at d.store c.object) refl (λ x. refl)
bytes_left SetTag d c is h allowed k out = left_of d.store c.object k _ (object_at d.store c.object) refl (λ x. refl)

told_by : (a : Action) (d : DriveState) (c : Command) → a ≡ Read
    → (result_of a d.store c).payload ≡ (result_of Read d.store c).payload
told_by a d c is = ap (λ (x : Action). (result_of x d.store c).payload) is

pub touches_its_own : PerformedTouchesItsOwn
touches_its_own d now bytes c is e =
    let h = home d now c e in
    record {
      object = h.object;
      others = others c.action d.store c;
      bytes = bytes_left c.action d c refl h (read_only bytes c is);
      tells = told_by c.action d c;
      inside = λ reads k from within.
          let range = rw reads at h.range in
          (grind (arith, range, from, within), grind (arith, range, from, within));
    }
