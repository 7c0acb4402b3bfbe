-- The world behind what a drive does: another drive stands in one place, and no party but drives sent anything.
-- Towards `ComponentsGoOn` (`specs/Steps.antt`).
use Rattle.std.proofs.Common.{◌≡◌, ℕ, ◌||◌, Bool, Option, Some, IsSome, refl, sym, ap, subst, ◌∙◌, inl, inr}
use Rattle.std.proofs.lemmas.Bool.{cases_eq}
use Rattle.osd_commands.specs.declared.commands.Command.{Command}
use Rattle.osd_objects.specs.Store.{object_at}
use Rattle.osd_objects.proofs.Entries.{lookup_set, lookup_set_beside}
use Rattle.world_history.specs.ServerNames.{Component}
use Rattle.world_history.specs.State.{World, DriveAt, at_number, with_number}
use Rattle.exchange_law.specs.Sent.{HasSent}
use Rattle.file_simulation.specs.Components.{object_on, has_failed, is_lost_in, object_of}

-- drive d became another; no client sent anything
pub record IsBehind (w v : World) (d : ℕ) (a b : DriveAt) : Type 0 where
  pub there : at_number w.drives d ≡ Some a
  pub drives : v.drives ≡ with_number w.drives d b
  pub sent : (c e : ℕ) (x : Command) → HasSent v c e x → HasSent w c e x

pub drive_here : (w v : World) (d : ℕ) (a b : DriveAt) → IsBehind w v d a b → at_number v.drives d ≡ Some b
drive_here w v d a b k =
    ap (λ xs. at_number xs d) k.drives ∙ lookup_set w.drives d b (subst IsSome (sym k.there) refl)

pub drive_beside : (w v : World) (d : ℕ) (a b : DriveAt) → IsBehind w v d a b → (e : ℕ) → (e ≡ d → ⊥) →
    at_number v.drives e ≡ at_number w.drives e
drive_beside w v d a b k e other = ap (λ xs. at_number xs e) k.drives ∙ lookup_set_beside w.drives d e b other

-- nothing is lost by it where the drive didn't fail
pub lost_kept : (w v : World) (d : ℕ) (a b : DriveAt) → IsBehind w v d a b → b.failed ≡ a.failed → (at : Component) →
    is_lost_in v at ≡ is_lost_in w at
lost_kept w v d a b k same at = ap (λ (x : Bool). at.missing || x) (elim (cases_eq at.drive d) [
  | inl here ↦
      ap (λ (n : ℕ). has_failed (at_number v.drives n)) here ∙ ap has_failed (drive_here w v d a b k) ∙ same
      ∙ sym (ap has_failed k.there) ∙ sym (ap (λ (n : ℕ). has_failed (at_number w.drives n)) here)
  | inr other ↦ ap has_failed (drive_beside w v d a b k at.drive other)
])

-- an object stays that the drive left, or that isn't there
pub object_kept : (w v : World) (d : ℕ) (a b : DriveAt) → IsBehind w v d a b → (at : Component) →
    (at.drive ≡ d → object_at b.state.store at.object ≡ object_at a.state.store at.object) →
    object_of v at ≡ object_of w at
object_kept w v d a b k at same = elim (cases_eq at.drive d) [
  | inl here ↦
      ap (λ (n : ℕ). object_on (at_number v.drives n) at.object) here
      ∙ ap (λ (o : Option DriveAt). object_on o at.object) (drive_here w v d a b k) ∙ same here
      ∙ sym (ap (λ (o : Option DriveAt). object_on o at.object) k.there)
      ∙ sym (ap (λ (n : ℕ). object_on (at_number w.drives n) at.object) here)
  | inr other ↦ ap (λ (o : Option DriveAt). object_on o at.object) (drive_beside w v d a b k at.drive other)
]

-- the object that is there before and behind
pub object_before : (w v : World) (d : ℕ) (a b : DriveAt) → IsBehind w v d a b → (at : Component) → at.drive ≡ d →
    object_of w at ≡ object_at a.state.store at.object
object_before w v d a b k at here =
    ap (λ (n : ℕ). object_on (at_number w.drives n) at.object) here
    ∙ ap (λ (o : Option DriveAt). object_on o at.object) k.there

pub object_behind : (w v : World) (d : ℕ) (a b : DriveAt) → IsBehind w v d a b → (at : Component) → at.drive ≡ d →
    object_of v at ≡ object_at b.state.store at.object
object_behind w v d a b k at here =
    ap (λ (n : ℕ). object_on (at_number v.drives n) at.object) here
    ∙ ap (λ (o : Option DriveAt). object_on o at.object) (drive_here w v d a b k)
