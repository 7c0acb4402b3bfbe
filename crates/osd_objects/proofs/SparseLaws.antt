-- What callers see of pages: a plain list of bytes.
use Rattle.std.proofs.Common.{◌≡◌, ℕ, ◌+◌, ◌-◌, ◌<◌, ◌^◌, ◌/◌, min, max, List, [], ◌∷◌, length, take, drop, get_or, sym, ap, ◌∙◌, arith, inl, inr}
use Rattle.std.proofs.lemmas.Bool.{cases_lt}
use Rattle.std.proofs.lemmas.Grind.{same_number_lists}
use Rattle.std.proofs.lemmas.List.{length-drop, length-take, get_or-take, get_or-drop, get_or_past}
use Rattle.osd_lists.specs.Overwrite.{overwritten}
use Rattle.osd_lists.proofs.Overwritten.{length-overwritten, before_overwritten, inside_overwritten, behind_overwritten}
use Rattle.std.specs.Map.{keys_of}
use Rattle.osd_objects.specs.declared.pages.TheConstants.{PAGE_BYTES}
use Rattle.osd_objects.specs.Pages.{Pages, byte_at, span, with_pages, IsKept, IsOverlaid}
use Rattle.osd_objects.specs.Sparse.{Sparse, touch_range, written}
use Rattle.osd_objects.proofs.Filling.{byte_with_pages, keys_with_pages}
use Rattle.osd_objects.proofs.PageLaws.{length-span, get_or-span}

-- a byte of the whole list, also past its end
byte_of_whole : (pages : Pages) (size k : ℕ) → IsKept pages size → get_or (span pages 0 size) k 0 ≡ byte_at pages k
byte_of_whole pages size k kept = elim (cases_lt k size) [
  | inl below ↦ get_or-span pages 0 size k below ∙ ap (byte_at pages) (omega arith)
  | inr past ↦ get_or_past (span pages 0 size) k 0 (omega (arith, past, length-span pages 0 size)) ∙ sym (kept.clean k past)
]

pub read_is : (pages : Pages) (size offset count end : ℕ) → (min (offset + count) size ≡ end) →
    span pages offset (end - offset) ≡ take count (drop offset (span pages 0 size))
read_is pages size offset count end e =
    let whole = span pages 0 size in
    same_number_lists _ _
    (omega (
      arith,
      e,
      length-span pages offset (end - offset),
      length-take count (drop offset whole),
      length-drop offset whole,
      length-span pages 0 size,
    ))
    (λ i below.
    let small : i < end - offset = omega (arith, below, length-span pages offset (end - offset)) in
    get_or-span pages offset (end - offset) i small ∙ ap (byte_at pages) (omega arith)
    ∙ sym (get_or-take count (drop offset whole) i 0 (omega (arith, small, e)) ∙ get_or-drop offset whole i 0
    ∙ get_or-span pages 0 size (offset + i) (omega (arith, small, e))))

pub written_is : (before filled after : Pages) (size offset : ℕ) (bytes : List ℕ) → IsKept before size →
    ((k : ℕ) → byte_at filled k ≡ byte_at before k) → IsOverlaid filled offset bytes after →
    span after 0 (max size (offset + length bytes)) ≡ overwritten (span before 0 size) offset bytes
written_is before filled after size offset bytes kept same over =
    let whole = span before 0 size in
    let end = max size (offset + length bytes) in
    same_number_lists _ _
    (length-span after 0 end ∙ omega (arith, length-overwritten whole offset bytes, length-span before 0 size))
    (λ k below.
    let small : k < end = omega (arith, below, length-span after 0 end) in
    get_or-span after 0 end k small ∙ ap (byte_at after) (omega arith) ∙ elim (cases_lt k offset) [
      | inl less ↦ over.others k (inl less) ∙ same k ∙ sym (byte_of_whole before size k kept)
          ∙ sym (before_overwritten whole offset bytes k less)
      | inr from ↦ elim (cases_lt k (offset + length bytes)) [
        | inl inside ↦
            let place : offset + (k - offset) ≡ k = omega (arith, from) in
            ap (byte_at after) (sym place) ∙ over.inside (k - offset) (omega (arith, inside, from))
            ∙ sym (inside_overwritten whole offset bytes (k - offset) (omega (arith, inside, from)))
            ∙ ap (λ x. get_or (overwritten whole offset bytes) x 0) place
        | inr past ↦ over.others k (inr past) ∙ same k ∙ sym (byte_of_whole before size k kept)
            ∙ sym (behind_overwritten whole offset bytes k past)
      ]
    ])

pub kept_written : (before filled after : Pages) (size offset : ℕ) (bytes : List ℕ) → IsKept before size →
    ((k : ℕ) → byte_at filled k ≡ byte_at before k) → IsOverlaid filled offset bytes after →
    offset + length bytes < 2 ^ 63 → IsKept after (max size (offset + length bytes))
kept_written before filled after size offset bytes kept same over short = record {
  full = over.full;
  clean = λ k past. over.others k (inr (omega (arith, past))) ∙ same k ∙ kept.clean k (omega (arith, past));
  small = omega (arith, kept.small, short);
}

abbrev sparse : List ℕ → List ℕ → Sparse
sparse bytes touched = record { bytes = bytes; touched = touched }

-- what callers see of pages that were filled up and then written over
pub view_written : (before filled after : Pages) (size offset : ℕ) (bytes : List ℕ) → 0 < length bytes → IsKept before size →
    filled ≡ with_pages before (offset / PAGE_BYTES) ((offset + length bytes - 1) / PAGE_BYTES + 1 - offset / PAGE_BYTES) →
    IsOverlaid filled offset bytes after →
    sparse (span after 0 (max size (offset + length bytes))) (keys_of after) ≡ written
    (sparse (span before 0 size) (keys_of before)) offset bytes
view_written before filled after size offset [] some kept fill over = absurd (omega (arith, some))
view_written before filled after size offset (b ∷ bytes) some kept fill over =
    let first = offset / PAGE_BYTES in
    let count = (offset + length (b ∷ bytes) - 1) / PAGE_BYTES + 1 - first in
    let all : span after 0 (max size (offset + length (b ∷ bytes))) ≡ overwritten (span before 0 size) offset (b ∷ bytes) =
    written_is before filled after size offset (b ∷ bytes) kept
    (λ k. ap (λ x. byte_at x k) fill ∙ byte_with_pages before first count k) over in
    let keys : keys_of after ≡ touch_range (keys_of before) offset (length (b ∷ bytes)) =
    over.keys ∙ ap keys_of fill ∙ keys_with_pages before first count in
    ap (λ (x : List ℕ). sparse x (keys_of after)) all
    ∙ ap (λ (x : List ℕ). sparse (overwritten (span before 0 size) offset (b ∷ bytes)) x) keys
