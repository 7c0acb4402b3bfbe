-- The stripes of columns.
use Rattle.std.proofs.Common.{◌≡◌, ℕ, ◌/◌, ◌%◌, true, refl, inl, inr}
use Rattle.std.proofs.lemmas.Nat.{div-mul-add, mod_below}
use Rattle.data_map.specs.declared.check.RawMap.{RawMap}
use Rattle.data_map.specs.Check.{IsChecked}
use Rattle.data_map.specs.Striping.{replicas, stripe_of, column_of}
use Rattle.data_map.specs.Inverse.{stripe_at, unit_at}
use Rattle.data_map.proofs.Striping.{column_below, byte_stripe}
use Rattle.stripe_plan.specs.declared.plan.Span.{Span}
use Rattle.stripe_plan.specs.Touched.{IsTouchedStripe}
use Rattle.stripe_plan.proofs.ReadLaws.{stripe_touched}
use Rattle.plan_law.specs.FileLayout.{column_at, column_of_cell, stripe_of_column}
use Rattle.plan_law.specs.Writes.{touches_column}
use Rattle.plan_law.specs.Layouts.{ColumnsHaveStripes}
use Rattle.plan_law.proofs.Cells.{with_parity, is_coded, is_plain}
use Rattle.plan_law.proofs.Codes.{all_data}
use Rattle.plan_law.proofs.Payloads.{range_means, any_touched}

of_byte : (m : RawMap) (l : ℕ) → IsChecked m → stripe_of_column m (column_at m l) ≡ stripe_of m l
of_byte m l c = elim (with_parity m) [
  | inr none ↦ rw (is_plain m none) refl
  | inl some ↦ rw (is_coded m some) (div-mul-add (stripe_of m l) m.unit (column_of m l) (column_below m l c))
]

of_cell : (m : RawMap) (k z : ℕ) → IsChecked m → stripe_of_column m (column_of_cell m k z) ≡ stripe_at m (k / replicas m) z
of_cell m k z c = elim (with_parity m) [
  | inr none ↦ rw (is_plain m none) (byte_stripe m (stripe_at m (k / replicas m) z) (unit_at m (k / replicas m) z) (z % m.unit)
      (all_data m k z c none) (mod_below z m.unit c.some_unit))
  | inl some ↦ rw (is_coded m some) (div-mul-add (stripe_at m (k / replicas m) z) m.unit (z % m.unit)
      (mod_below z m.unit c.some_unit))
]

touched : (m : RawMap) (r : Span) (x : ℕ) → IsChecked m → touches_column m r x ≡ true → IsTouchedStripe m r (stripe_of_column m x)
touched m r x c e = elim (with_parity m) [
  | inr none ↦
      let inside = range_means r x (rw (is_plain m none) at e) in
      rw (is_plain m none) (stripe_touched m r x c inside.0 inside.1)
  | inl some ↦ rw (is_coded m some) (any_touched m r (x / m.unit) (x % m.unit) c (mod_below x m.unit c.some_unit)
      (rw (is_coded m some) at e)).0
]

pub columns_have_stripes : ColumnsHaveStripes
columns_have_stripes m c = (λ l. of_byte m l c, λ k z. of_cell m k z c, λ r x e. touched m r x c e)
