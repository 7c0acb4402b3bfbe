-- A map that the check takes meets what the code relies on.
use Rattle.std.proofs.Common.{◌≡◌, arith, Ok}
use Rattle.std.proofs.lemmas.Bool.Decides.{nat_tests}
use Rattle.data_map.specs.declared.check.RawMap.{RawMap}
use Rattle.data_map.specs.Check.{HasAlgorithm, checked, IsChecked}

pub checked_is_checked : (m n : RawMap) → HasAlgorithm m → checked m ≡ Ok n → IsChecked m
unfolding checked
checked_is_checked m n a h = record {
  some_unit = grind (arith, nat_tests);
  short_unit = grind (arith, nat_tests);
  some_components = grind (arith, nat_tests);
  few_components = grind (arith, nat_tests);
  whole_positions = grind (arith, nat_tests);
  narrow = grind (arith, nat_tests);
  whole_groups = grind (arith, nat_tests);
  some_data = grind (arith, nat_tests);
  no_depth = grind (arith, nat_tests);
  some_depth = grind (arith, nat_tests);
  short_depth = grind (arith, nat_tests);
  algorithm = a;
}

-- the facts that the code relies on are all that the check asks
pub checked_again : (m : RawMap) → IsChecked m → checked m ≡ Ok m
unfolding checked
checked_again m c =
    grind (
      arith,
      nat_tests,
      c.some_unit,
      c.short_unit,
      c.some_components,
      c.few_components,
      c.whole_positions,
      c.narrow,
      c.whole_groups,
      c.some_data,
      c.no_depth,
      c.some_depth,
      c.short_depth,
    )
