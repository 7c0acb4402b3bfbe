-- Bytes with holes, as callers see them.
use Rattle.std.specs.Prelude.{ℕ, zero, suc, ◌+◌, ◌-◌, ◌/◌, List, [], ◌∷◌, length, if◌then◌else◌}
use Rattle.std.specs.List.{list_any}
use Rattle.std.specs.Ordering.{nat_cmp}
use Rattle.std.specs.BTreeMap.{is_at}
use Rattle.std.specs.BTreeSet.{insert_key}
use Rattle.osd_lists.specs.Overwrite.{overwritten}
use Rattle.osd_objects.specs.declared.pages.TheConstants.{PAGE_BYTES}

-- all bytes below the length, a byte that was never written being 0, and the numbers of the pages on which
-- something was written, in order
pub record Sparse : Type 0 where
  pub bytes : List ℕ
  pub touched : List ℕ

abbrev pub no_bytes : Sparse
no_bytes = record { bytes = []; touched = [] }

-- page n was touched too
abbrev pub touch : List ℕ → ℕ → List ℕ
touch touched n = if list_any (is_at (nat_cmp n)) touched then touched else insert_key nat_cmp touched n

-- `count` pages from `first` on were touched too
unfoldable pub touch_from : List ℕ → ℕ → ℕ → List ℕ
touch_from touched first zero = touched
touch_from touched first (suc n) = touch_from (touch touched first) (first + 1) n

-- the pages of a range of bytes that isn't empty, from that of its first byte to that of its last
abbrev pub touch_range : List ℕ → ℕ → ℕ → List ℕ
touch_range touched offset count =
    touch_from touched (offset / PAGE_BYTES) ((offset + count - 1) / PAGE_BYTES + 1 - offset / PAGE_BYTES)

-- bytes written over the old ones from an offset on, and past their end; a gap before the offset becomes
-- zeros. No bytes change nothing.
abbrev pub written : Sparse → ℕ → List ℕ → Sparse
written s offset [] = s
written s offset (b ∷ bytes) = record {
  bytes = overwritten s.bytes offset (b ∷ bytes);
  touched = touch_range s.touched offset (length (b ∷ bytes));
}
