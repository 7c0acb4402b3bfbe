-- A column of which each position has a replica that isn't lost isn't short.
-- Towards `EventsAreLawful` (`specs/Steps.antt`).
use Rattle.std.proofs.Common.{◌≡◌, ℕ, ◌+◌, ◌-◌, ◌*◌, ◌/◌, ◌%◌, ◌<◌, Bool, true, refl, sym, ap, ◌∙◌, arith, inl, inr}
use Rattle.std.proofs.lemmas.Bool.{lt-ltb, true≢false}
use Rattle.std.proofs.lemmas.Nat.{mod_below, div-mul-add}
use Rattle.osd_lists.proofs.Tests.{nat_less}
use Rattle.data_map.specs.declared.check.RawMap.{RawMap}
use Rattle.data_map.specs.Check.{IsChecked}
use Rattle.data_map.specs.Striping.{replicas, group_width, data_units, place_of, positions}
use Rattle.data_map.specs.Inverse.{stripe_at, unit_at, byte_at}
use Rattle.data_map.proofs.Shape.{replicas_inside}
use Rattle.plan_law.specs.FileLayout.{column_of_cell}
use Rattle.plan_law.specs.Standing.{first_standing, position_stands, units_stand, column_stands}
use Rattle.plan_law.proofs.Cells.{with_parity, is_coded, is_plain, cell_coded, cell_plain, stands_at, position_again, unit_inside, lies_there}
use Rattle.plan_law.proofs.Repairing.{first_is, each_stands}
use Rattle.relation_law.specs.KeptGuards.{StandingColumnsAreNotShort}

-- the position of a cell of such a column has such a replica
stands_there : (m : RawMap) (lost : ℕ → Bool) (k z : ℕ) → IsChecked m → k < m.comps
    → column_stands m lost (column_of_cell m k z) ≡ true → position_stands m lost (k / replicas m) ≡ true
stands_there m lost k z c below e = elim (with_parity m) [
  | inr none ↦
      let p : ℕ = k / replicas m in
      let inside : p < positions m = stands_at m k c below in
      let unit : unit_at m p z < data_units m = let u = unit_inside m p z c in omega (arith, u, none) in
      let at : (place_of m (byte_at m p z)).position ≡ p = (lies_there m p z c inside unit).0 in
      let plain : column_stands m lost (byte_at m p z) ≡ true =
      ap (column_stands m lost) (sym (cell_plain m k z none)) ∙ e in
      let here : position_stands m lost (place_of m (byte_at m p z)).position ≡ true = rw (is_plain m none) at plain in
      ap (position_stands m lost) (sym at) ∙ here
  | inl some ↦
      let p : ℕ = k / replicas m in
      let inside : p < positions m = stands_at m k c below in
      let s : ℕ = stripe_at m p z in
      let bl : z % m.unit < m.unit = mod_below z m.unit c.some_unit in
      let coded : column_stands m lost (s * m.unit + z % m.unit) ≡ true =
      ap (column_stands m lost) (sym (cell_coded m k z some)) ∙ e in
      let all : units_stand m lost ((s * m.unit + z % m.unit) / m.unit) 0 (group_width m) ≡ true =
      rw (is_coded m some) at coded in
      let here : units_stand m lost s 0 (group_width m) ≡ true =
      ap (λ x. units_stand m lost x 0 (group_width m)) (sym (div-mul-add s m.unit (z % m.unit) bl)) ∙ all in
      ap (position_stands m lost) (sym (position_again m p z c inside))
      ∙ each_stands m lost s 0 (group_width m) (unit_at m p z) here (omega arith)
      (let u = unit_inside m p z c in omega (arith, u))
]

pub standing_not_short : StandingColumnsAreNotShort
standing_not_short m tag s c is x e short =
    let d = rw is at short in
    let below : d.0 < m.comps = nat_less d.0 m.comps d.2 in
    let p : ℕ = d.0 / replicas m in
    let stands : position_stands m s.lost p ≡ true =
    stands_there m s.lost d.0 d.1 c below (ap (column_stands m s.lost) d.3 ∙ e) in
    let r = first_is s.lost (p * replicas m) (replicas m) stands in
    let f : ℕ = first_standing s.lost (p * replicas m) (replicas m) in
    let at_f : f ≡ p * replicas m + (f - p * replicas m) = omega (arith, r.0) in
    let same : f / replicas m ≡ p =
    ap (λ y. y / replicas m) at_f ∙ div-mul-add p (replicas m) (f - p * replicas m) (omega (arith, r.0, r.1)) in
    let inside = replicas_inside m p c (stands_at m d.0 c below) in
    let there : f < m.comps = omega (arith, inside, r.1) in
    let column : column_of_cell m f d.1 ≡ x = column_same m f d.0 d.1 same ∙ d.3 in
    true≢false (sym (d.4 f d.1 (lt-ltb f m.comps there) column same) ∙ r.2)
  where
    column_same : (m : RawMap) (f k z : ℕ) → f / replicas m ≡ k / replicas m → column_of_cell m f z ≡ column_of_cell m k z
    column_same m f k z same = rw same refl
