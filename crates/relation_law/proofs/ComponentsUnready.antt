-- The object of a component that isn't lost is there, or its file isn't ready and makes it, or was cut off while it did.
-- Towards `ComponentsGoOn` (`specs/Steps.antt`).
use Rattle.std.proofs.Common.{◌≡◌, ◌||◌, ℕ, Bool, true, false, slice_get, Some, None, refl, inl, inr}
use Rattle.std.proofs.lemmas.Bool.{cases_Bool}
use Rattle.world_history.specs.ServerNames.{File, Component}
use Rattle.world_history.specs.State.{World, at_number}
use Rattle.history_law.specs.Fencing.{Reached}
use Rattle.component_law.specs.Standing.{StandsBy, IsSettled, IsStanding, IsLeft}
use Rattle.file_simulation.specs.Components.{has_failed, is_lost_in, object_of}
use Rattle.relation_law.specs.ComponentsBehind.{IsUnready, AreUnready}
use Rattle.relation_law.proofs.DriveMoves.{got_in}

-- where the object of a component isn't there, and its drive hasn't failed, it hasn't reached the file's tag
abbrev pub ReachedAreThere : Reached → World → File → Type 0
ReachedAreThere R v g =
    (k : ℕ) (at : Component) → slice_get g.kept.components k ≡ Some at → is_lost_in v at ≡ false → object_of v at ≡ None →
    R at.drive at.object g.kept.tag ≡ true → ⊥

unless_missing : (a b : Bool) → (a || b) ≡ false → a ≡ false
unless_missing true b e = absurd (cc e)
unless_missing false b e = refl

module _ (R : Reached) (v : World) (g : File) (there : ReachedAreThere R v g) (k : ℕ) (at : Component)
    (found : slice_get g.kept.components k ≡ Some at) (lost : is_lost_in v at ≡ false) (none : object_of v at ≡ None) where
  present : at.missing ≡ false
  present = unless_missing at.missing (has_failed (at_number v.drives at.drive)) lost

  absent : R at.drive at.object g.kept.tag ≡ true → ⊥
  absent = there k at found lost none

  unready : (is : IsSettled R g) → g.kept.ready ≡ false
  unready is = elim (cases_Bool g.kept.ready) [
    | inl made ↦ absurd (absent (is.made made at (got_in g.kept.components k at found) present))
    | inr unmade ↦ unmade
  ]

  pub left : IsLeft R g → IsUnready g at
  left is =
      let unmade = unready is.settled in
      record { unready = unmade; ungranted = (is.settled.unmade unmade).0; due = inr is.quiet }

  pub standing : IsStanding R g → IsUnready g at
  standing is =
      let unmade = unready is.settled in
      record {
        unready = unmade;
        ungranted = (is.settled.unmade unmade).0;
        due = elim (is.each at (got_in g.kept.components k at found) present) [
          | inl creates ↦ inl creates
          | inr reached ↦ absurd (absent reached)
        ];
      }

  pub by_down : (down : Bool) → StandsBy down R g → IsUnready g at
  by_down true is = left is
  by_down false is = standing is

-- so it is of a file that stands as its server has it
pub are_unready : (R : Reached) (v : World) (g : File) → StandsBy v.down R g → ReachedAreThere R v g → AreUnready v g
are_unready R v g is there k at found lost none = by_down R v g there k at found lost none v.down is
