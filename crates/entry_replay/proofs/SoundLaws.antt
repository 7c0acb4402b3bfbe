-- What entries make of a file is sound.
use Rattle.std.specs.Prelude.{ℕ, Bool, true, false, List, [], ◌∷◌, ◌≡◌, ◌≤◌, ◌==◌, nat_le, not, length, filter, refl}
use Rattle.std.proofs.Common.{arith, inl, inr}
use Rattle.std.proofs.lemmas.Bool.{and_parts, cases_Bool, leb-true}
use Rattle.std.proofs.lemmas.List.{length-set}
use Rattle.data_map.specs.declared.ranges.TheConstants.{MAX_FILE_SIZE}
use Rattle.server_rules.specs.declared.files.Component.{Component}
use Rattle.server_rules.specs.declared.files.Kept.{Kept}
use Rattle.server_rules.specs.declared.grants.Grant.{Grant}
use Rattle.server_rules.specs.Get.{high_after}
use Rattle.server_rules.proofs.Components.{length_lost}
use Rattle.file_jobs.specs.Ranges.{EndInside}
use Rattle.file_jobs.specs.Sound.{IsSound}
use Rattle.file_jobs.proofs.Rising.{all_inside}
use Rattle.server_entries.specs.declared.entry.FileChange.{FileChange}
use Rattle.server_entries.specs.declared.entry.FileChange.TheVariants.{Size, FenceStarted, Fenced, Repaired, Missing, Present, Ready, Format, Zoned}
use Rattle.server_entries.specs.Changes.{is_grant, granted, returned, changed}

ends_inside : (g : Grant) → is_grant g ≡ true → (g.first ≤ g.end) × (g.end ≤ MAX_FILE_SIZE)
ends_inside g e =
    let stripes = (and_parts (nat_le g.first g.end) (nat_le g.end MAX_FILE_SIZE) (and_parts _ _ e).0) in
    (leb-true g.first g.end stripes.0, leb-true g.end MAX_FILE_SIZE stripes.1)

high_inside : (rw_flag : Bool) (high end : ℕ) → high ≤ MAX_FILE_SIZE → end ≤ MAX_FILE_SIZE → (g : Grant) → g.rw ≡ rw_flag →
    g.end ≡ end →
    high_after high g ≤ MAX_FILE_SIZE
high_inside true high end a b g e f = rw (e, f) (omega (arith, a, b))
high_inside false high end a b g e f = rw e a

pub granted_sound : (g : Grant) (k : Kept) → IsSound k → is_grant g ≡ true → IsSound (granted g k)
granted_sound g k s e = record {
  few = s.few;
  whole = s.whole;
  high = high_inside g.rw k.high g.end s.high (ends_inside g e).1 g refl refl;
  live = all_inside k.grants (g ∷ []) s.live ((ends_inside g e).0, (ends_inside g e).1, tt);
  ended = s.ended;
}

ends_but : (gs : List Grant) (n : ℕ) → EndInside gs → EndInside (filter (λ (g : Grant). not (g.number == n)) gs)
ends_but [] n e = tt
ends_but (g ∷ gs) n e = elim (cases_Bool (g.number == n)) [
  | inl that ↦ rw that (ends_but gs n e.2)
  | inr other ↦ rw other (e.0, e.1, ends_but gs n e.2)
]

pub returned_sound : (n : ℕ) (k : Kept) → IsSound k → IsSound (returned n k)
returned_sound n k s = record { few = s.few; whole = s.whole; high = s.high; live = ends_but k.grants n s.live; ended = s.ended }

pub changed_sound : (c : FileChange) (k : Kept) → IsSound k → IsSound (changed c k)
changed_sound (Size size) k s = record { few = s.few; whole = s.whole; high = s.high; live = s.live; ended = s.ended }
changed_sound FenceStarted k s =
    record { few = s.few; whole = s.whole; high = s.high; live = tt; ended = all_inside k.ended k.grants s.ended s.live }
changed_sound (Fenced tag format) k s = record { few = s.few; whole = s.whole; high = s.high; live = s.live; ended = s.ended }
changed_sound Repaired k s = record { few = s.few; whole = s.whole; high = s.high; live = s.live; ended = tt }
changed_sound (Missing j) k s = record {
  few = rw (length_lost (j ∷ []) k.components 0) s.few;
  whole = rw (length_lost (j ∷ []) k.components 0) s.whole;
  high = s.high;
  live = s.live;
  ended = s.ended;
}
changed_sound (Present j drive object) k s =
    let at : Component = record { drive = drive; object = object; missing = false } in
    record {
      few = rw (length-set k.components j at) s.few;
      whole = rw (length-set k.components j at) s.whole;
      high = s.high;
      live = s.live;
      ended = s.ended;
    }
changed_sound Ready k s = record { few = s.few; whole = s.whole; high = s.high; live = s.live; ended = s.ended }
changed_sound (Format format) k s = record { few = s.few; whole = s.whole; high = s.high; live = s.live; ended = s.ended }
changed_sound Zoned k s = record { few = s.few; whole = s.whole; high = s.high; live = s.live; ended = s.ended }

pub changed_number : (c : FileChange) (k : Kept) → (changed c k).number ≡ k.number
changed_number (Size size) k = refl
changed_number FenceStarted k = refl
changed_number (Fenced tag format) k = refl
changed_number Repaired k = refl
changed_number (Missing j) k = refl
changed_number (Present j drive object) k = refl
changed_number Ready k = refl
changed_number (Format format) k = refl
changed_number Zoned k = refl
