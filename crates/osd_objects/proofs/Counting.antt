-- What the objects take, when one is added or changed.
use Rattle.std.proofs.Common.{◌≡◌, ℕ, ◌+◌, ◌-◌, ◌≤◌, List, [], ◌∷◌, length, Option, Some, None, ap, ◌∙◌, arith}
use Rattle.std.specs.Ordering.{nat_cmp}
use Rattle.std.specs.List.Sorted.{IsStrictlySortedBy}
use Rattle.std.specs.Option.{option_map, unwrap_or}
use Rattle.std.specs.BTreeMap.{is_at, insert_entry}
use Rattle.std.specs.Map.{lookup, set_value, keys_of}
use Rattle.std.proofs.lemmas.Cmp.{nat_cmp_total}
use Rattle.std.proofs.lemmas.Map.Entries.{sum_by-set_value, sum_by-insert_entry}
use Rattle.std.proofs.lemmas.Map.Steps.{set_value_same}
use Rattle.osd_lists.proofs.Overwritten.{length-overwritten}
use Rattle.osd_objects.specs.declared.object.StoredObject.{StoredObject}
use Rattle.osd_objects.specs.Sparse.{Sparse, written}
use Rattle.osd_objects.specs.Objects.{length_of}
use Rattle.osd_objects.specs.Store.{IsCounted, growth}

abbrev Objects : Type 0
Objects = List (ℕ × StoredObject)

-- an object that takes nothing
pub counted_new : (capacity used : ℕ) (objects : Objects) (n : ℕ) (o : StoredObject) →
    IsStrictlySortedBy nat_cmp (keys_of objects) → lookup (is_at (nat_cmp n)) objects ≡ None → length_of o ≡ 0 →
    IsCounted capacity used objects → IsCounted capacity used (insert_entry nat_cmp objects n o)
counted_new capacity used objects n o sorted none nothing h =
    let none_taken : unwrap_or (option_map length_of (lookup (is_at (nat_cmp n)) objects)) 0 ≡ 0 =
    ap (λ (x : Option StoredObject). unwrap_or (option_map length_of x) 0) none in
    record {
      all =
          omega (arith, h.all, none_taken, nothing, sum_by-insert_entry length_of nat_cmp_total objects n o sorted);
      inside =
          h.inside;
    }

-- an object that takes more
pub counted_more : (capacity used : ℕ) (objects : Objects) (n : ℕ) (o p : StoredObject) →
    lookup (is_at (nat_cmp n)) objects ≡ Some o → length_of o ≤ length_of p → used + (length_of p - length_of o) ≤ capacity →
    IsCounted capacity used objects →
    IsCounted capacity (used + (length_of p - length_of o)) (set_value (is_at (nat_cmp n)) objects p)
counted_more capacity used objects n o p found more room h =
    record { all = omega (arith, h.all, more, sum_by-set_value length_of (is_at (nat_cmp n)) objects o p found); inside = room }

-- an object that takes the same
pub counted_same : (capacity used : ℕ) (objects : Objects) (n : ℕ) (o p : StoredObject) →
    lookup (is_at (nat_cmp n)) objects ≡ Some o → length_of p ≡ length_of o →
    IsCounted capacity used objects → IsCounted capacity used (set_value (is_at (nat_cmp n)) objects p)
counted_same capacity used objects n o p found same h =
    record {
      all = omega (arith, h.all, same, sum_by-set_value length_of (is_at (nat_cmp n)) objects o p found);
      inside =
          h.inside;
    }

-- how long bytes are after a write
pub length-written : (s : Sparse) (offset : ℕ) (bytes : List ℕ) →
    length ((written s offset bytes).bytes) ≡ length s.bytes + growth (length s.bytes) offset bytes
length-written s offset [] = omega arith
length-written s offset (b ∷ bytes) = length-overwritten s.bytes offset (b ∷ bytes) ∙ omega arith

-- what was found is written back
pub written_back : (objects : Objects) (n : ℕ) (o p : StoredObject) → lookup (is_at (nat_cmp n)) objects ≡ Some o → p ≡ o →
    set_value (is_at (nat_cmp n)) objects p ≡ objects
written_back objects n o p found same =
    ap (set_value (is_at (nat_cmp n)) objects) same ∙ set_value_same (is_at (nat_cmp n)) objects o found
