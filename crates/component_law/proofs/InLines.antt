-- The tag of each component's object is its file's: it is neither behind nor ahead.
use Rattle.std.proofs.Common.{◌≡◌, ◌≤◌, ℕ, Bool, true, false, Option, Some, None, refl, sym, ap, subst, ◌∙◌, arith, inl, inr}
use Rattle.std.specs.Prelude.{◌||◌}
use Rattle.std.proofs.lemmas.Bool.{cases_lt}
use Rattle.std.proofs.lemmas.Bool.Decides.{nat_tests}
use Rattle.osd_objects.specs.declared.object.StoredObject.{StoredObject}
use Rattle.osd_objects.specs.Store.{object_at}
use Rattle.server_rules.specs.Files.{file_at}
use Rattle.world_history.specs.ServerNames.{Kept}
use Rattle.world_history.specs.State.{DriveAt, at_number}
use Rattle.world_history.specs.Book.{ServerSeen}
use Rattle.history_law.proofs.DriveLines.{drive_read}
use Rattle.history_law.specs.Read.{BookIsRead}
use Rattle.component_law.proofs.NamedLines.{are_named}
use Rattle.history_law.specs.Reaching.{has_tag, has_reached}
use Rattle.exchange_law.proofs.Replied.{read_at}
use Rattle.component_law.specs.Within.{IsWithin, ObjectWithin}
use Rattle.component_law.specs.TagWithin.{NoTagIsAhead}
use Rattle.component_law.specs.Least.{NoTagIsBehind}
use Rattle.component_law.specs.TagTags.{IsTagOf, HasTag, EachTagIsItsFiles}

neither : (k : Kept) (tag : ℕ) → k.tag ≤ tag → IsWithin k tag → IsTagOf k tag
neither k tag from (inl le) = inl (omega (arith, from, le))
neither k tag from (inr (le, fence)) = elim (cases_lt k.tag tag) [
  | inl less ↦ inr (omega (arith, less, le), fence)
  | inr most ↦ inl (omega (arith, from, most))
]

by_object : (k : Kept) (a : DriveAt) (object : ℕ) (o : Option StoredObject) → object_at a.state.store object ≡ o
    → ObjectWithin k a.state object → has_tag k.tag o ≡ true
    → (x : StoredObject) × (object_at a.state.store object ≡ Some x) × IsTagOf k x.tag
by_object k a object None is within e = absurd (cc e)
by_object k a object (Some x) is within e =
    (x, is, neither k x.tag (grind (arith, e, nat_tests)) (within x is))

by_failed : (k : Kept) (a : DriveAt) (object : ℕ) (b : Bool) → a.failed ≡ b → ObjectWithin k a.state object
    → (b || has_tag k.tag (object_at a.state.store object)) ≡ true → HasTag k (Some a) object
by_failed k a object true is within e = inl is
by_failed k a object false is within e = inr (by_object k a object (object_at a.state.store object) refl within e)

has : (k : Kept) (o : Option DriveAt) (object : ℕ)
    → ((a : DriveAt) → o ≡ Some a → ObjectWithin k a.state object) → has_reached object k.tag o ≡ true
    → HasTag k o object
has k None object within e = absurd (cc e)
has k (Some a) object within e = by_failed k a object a.failed refl (within a refl) e

pub each_tag_is_its_files : NoTagIsAhead → NoTagIsBehind → BookIsRead → EachTagIsItsFiles
each_tag_is_its_files ahead behind read h w k written text few fair n f is at i present =
    let named = are_named h written in
    let there : file_at w.server.files n ≡ Some f =
    ap (λ (s : ServerSeen). file_at s.server.files n) (sym (read w h k written)) ∙ is in
    let r = read_at w h k in
    elim (behind w h k named text few fair n f there at i present) [
      | inl creating ↦ inl creating
      | inr (inl reached) ↦ inr (inl (subst (λ (o : Option DriveAt). HasTag f.kept o at.object)
          (sym (drive_read w r.injected h at.drive r.drives))
          (has f.kept (at_number w.drives at.drive) at.object
          (λ a stands x found. ahead w h k named text few fair n f there at i a stands x found) reached)))
      | inr (inr off) ↦ inr (inr off)
    ]
