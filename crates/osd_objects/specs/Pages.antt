-- How the bytes of an object are kept: pages of 4,096 bytes by number, those alone that were touched.
-- A byte on no page is 0.
use Rattle.std.specs.Prelude.{◌≡◌, ℕ, zero, suc, ◌+◌, ◌/◌, ◌%◌, ◌≤◌, ◌<◌, ◌^◌, ◌⊎◌, true, List, [], ◌∷◌, length, take, drop, ◌++◌, replicate, get_or, Option, Some, None, is_some, if◌then◌else◌}
use Rattle.std.specs.Ordering.{nat_cmp}
use Rattle.std.specs.BTreeMap.{is_at, insert_entry}
use Rattle.std.specs.Map.{lookup, set_value, remove_entry, keys_of}
use Rattle.osd_objects.specs.declared.pages.TheConstants.{PAGE_BYTES}

abbrev pub Pages : Type 0
Pages = List (ℕ × List ℕ)

abbrev pub page_at : Pages → ℕ → Option (List ℕ)
page_at pages n = lookup (is_at (nat_cmp n)) pages

-- a byte of a page, 0 where there is no such page
abbrev pub byte_on : Option (List ℕ) → ℕ → ℕ
byte_on None i = 0
byte_on (Some page) i = get_or page i 0

-- byte k of all
unfoldable pub byte_at : Pages → ℕ → ℕ
byte_at pages k = byte_on (page_at pages (k / PAGE_BYTES)) (k % PAGE_BYTES)

-- `count` bytes from `start` on
unfoldable pub span : Pages → ℕ → ℕ → List ℕ
span pages start zero = []
span pages start (suc n) = byte_at pages start ∷ span pages (start + 1) n

-- a page of zeros, unless the page is there
abbrev pub with_page : Pages → ℕ → Pages
with_page pages n = if is_some (page_at pages n) then pages else insert_entry nat_cmp pages n (replicate PAGE_BYTES 0)

-- the same for `count` pages from `first` on
unfoldable pub with_pages : Pages → ℕ → ℕ → Pages
with_pages pages first zero = pages
with_pages pages first (suc n) = with_pages (with_page pages first) (first + 1) n

-- the pages without those of some numbers
unfoldable pub without_pages : Pages → List ℕ → Pages
without_pages pages [] = pages
without_pages pages (n ∷ numbers) = remove_entry (is_at (nat_cmp n)) (without_pages pages numbers)

-- each page is whole
abbrev pub AreFull : Pages → Type 0
AreFull pages = (n : ℕ) (page : List ℕ) → page_at pages n ≡ Some page → length page ≡ PAGE_BYTES

-- what stands on a page after bytes were written over those from its byte i on
abbrev pub part_over : Option (List ℕ) → ℕ → List ℕ → List ℕ
part_over None i part = part
part_over (Some page) i part = take i page ++ (part ++ drop (i + length part) page)

-- bytes written over those of the page of byte `at` from there on
abbrev pub with_part : Pages → ℕ → List ℕ → Pages
with_part pages at part = set_value (is_at (nat_cmp (at / PAGE_BYTES))) pages
    (part_over (page_at pages (at / PAGE_BYTES)) (at % PAGE_BYTES) part)

-- the pages of `count` bytes from a place on are there
abbrev pub HavePages : Pages → ℕ → ℕ → Type 0
HavePages pages at count = (k : ℕ) → at ≤ k → k < at + count → is_some (page_at pages (k / PAGE_BYTES)) ≡ true

-- bytes were written over those from a place on, on pages that are the same and whole
pub record IsOverlaid (before : Pages) (offset : ℕ) (bytes : List ℕ) (after : Pages) : Type 0 where
  pub keys : keys_of after ≡ keys_of before
  pub there : (n : ℕ) → is_some (page_at after n) ≡ is_some (page_at before n)
  pub full : AreFull after
  pub inside : (i : ℕ) → i < length bytes → byte_at after (offset + i) ≡ get_or bytes i 0
  pub others : (k : ℕ) → (k < offset) ⊎ (offset + length bytes ≤ k) → byte_at after k ≡ byte_at before k

-- each page is whole, no byte stands past the length, and a length fits
pub record IsKept (pages : Pages) (size : ℕ) : Type 0 where
  pub full : AreFull pages
  pub clean : (k : ℕ) → size ≤ k → byte_at pages k ≡ 0
  pub small : size < 2 ^ 63
