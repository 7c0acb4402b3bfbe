-- Laws of pages: where a byte stands, and what a span of bytes is.
use Rattle.std.proofs.Common.{◌≡◌, ℕ, zero, suc, ◌+◌, ◌-◌, ◌/◌, ◌%◌, ◌<◌, ◌≤◌, List, [], ◌∷◌, ◌++◌, length, take, drop, replicate, get_or, Some, None, is_some, false, refl, sym, ap, ◌∙◌, arith}
use Rattle.std.proofs.lemmas.Grind.{same_number_lists}
use Rattle.std.proofs.lemmas.List.{length-drop, length-take, length-replicate, get_or-take, get_or-drop, get_or-replicate}
use Rattle.osd_objects.specs.declared.pages.TheConstants.{PAGE_BYTES}
use Rattle.std.specs.Ordering.{nat_cmp}
use Rattle.std.specs.BTreeMap.{is_at, insert_entry}
use Rattle.std.specs.Map.{remove_entry}
use Rattle.osd_lists.proofs.Options.{none_there}
use Rattle.osd_objects.proofs.Entries.{removed_again}
use Rattle.osd_objects.specs.Pages.{Pages, page_at, byte_on, byte_at, span, with_page, with_pages, without_pages}

-- a place that lies on the page of `at`
pub on_page : (at i : ℕ) → at % PAGE_BYTES + i < PAGE_BYTES →
    ((at + i) / PAGE_BYTES ≡ at / PAGE_BYTES) × ((at + i) % PAGE_BYTES ≡ at % PAGE_BYTES + i)
on_page at i h = (omega (arith, h), omega (arith, h))

pub length-span : (pages : Pages) (start n : ℕ) → length (span pages start n) ≡ n
unfolding span
length-span pages start zero = refl
length-span pages start (suc n) = ap (λ k. suc k) (length-span pages (start + 1) n)

pub get_or-span : (pages : Pages) (start n i : ℕ) → i < n → get_or (span pages start n) i 0 ≡ byte_at pages (start + i)
unfolding span
get_or-span pages start zero i h = absurd (omega (arith, h))
get_or-span pages start (suc n) zero h = let e : start ≡ start + 0 = omega arith in ap (byte_at pages) e
get_or-span pages start (suc n) (suc i) h =
    get_or-span pages (start + 1) n i (omega (arith, h))
    ∙ (let e : start + 1 + i ≡ start + suc i = omega arith in ap (byte_at pages) e)

-- the bytes of a page that is there
pub span_of_page : (pages : Pages) (page : List ℕ) (at n : ℕ) → page_at pages (at / PAGE_BYTES) ≡ Some page →
    length page ≡ PAGE_BYTES → at % PAGE_BYTES + n ≤ PAGE_BYTES →
    take n (drop (at % PAGE_BYTES) page) ≡ span pages at n
unfolding byte_at
span_of_page pages page at n there whole inside =
    same_number_lists _ _
    (omega (
      arith,
      length-take n (drop (at % PAGE_BYTES) page),
      length-drop (at % PAGE_BYTES) page,
      length-span pages at n,
      whole,
      inside,
    ))
    (λ i below.
    let small : i < n = omega (arith, below, length-take n (drop (at % PAGE_BYTES) page)) in
    let place = on_page at i (omega (arith, small, inside)) in
    get_or-take n (drop (at % PAGE_BYTES) page) i 0 small ∙ get_or-drop (at % PAGE_BYTES) page i 0
    ∙ sym (get_or-span pages at n i small ∙ ap (λ k. byte_on (page_at pages k) ((at + i) % PAGE_BYTES)) place.0
    ∙ ap (λ o. byte_on o ((at + i) % PAGE_BYTES)) there ∙ ap (λ k. get_or page k 0) place.1))

-- the bytes of a page that is not there
pub span_of_none : (pages : Pages) (at n : ℕ) → page_at pages (at / PAGE_BYTES) ≡ None → at % PAGE_BYTES + n ≤ PAGE_BYTES →
    replicate n 0 ≡ span pages at n
unfolding byte_at
span_of_none pages at n none inside =
    same_number_lists _ _ (length-replicate n 0 ∙ sym (length-span pages at n))
    (λ i below.
    let small : i < n = omega (arith, below, length-replicate {A = ℕ} n 0) in
    let place = on_page at i (omega (arith, small, inside)) in
    get_or-replicate n i 0 0 small
    ∙ sym (get_or-span pages at n i small ∙ ap (λ k. byte_on (page_at pages k) ((at + i) % PAGE_BYTES)) place.0
    ∙ ap (λ o. byte_on o ((at + i) % PAGE_BYTES)) none))

pub with_no_page : (pages : Pages) (first end : ℕ) → end ≤ first → with_pages pages first (end - first) ≡ pages
unfolding with_pages
with_no_page pages first end h = let e : end - first ≡ 0 = omega (arith, h) in rw e refl

one_page_more : (pages : Pages) (first end : ℕ) → first < end →
    with_pages pages first (end - first) ≡ with_pages (with_page pages first) (first + 1) (end - (first + 1))
unfolding with_pages
one_page_more pages first end h = let e : end - first ≡ suc (end - (first + 1)) = omega (arith, h) in rw e refl

-- a span goes on
pub span_append : (pages : Pages) (start m n : ℕ) → span pages start (m + n) ≡ span pages start m ++ span pages (start + m) n
unfolding span
span_append pages start zero n = ap (span pages start) (omega arith) ∙ ap (λ x. span pages x n) (omega arith)
span_append pages start (suc m) n =
    let more : suc m + n ≡ suc (m + n) = omega arith in
    let place : start + 1 + m ≡ start + suc m = omega arith in
    ap (span pages start) more
    ∙ ap (λ (x : List ℕ). byte_at pages start ∷ x)
    (span_append pages (start + 1) m n ∙ ap (λ x. span pages (start + 1) m ++ span pages x n) place)

pub without_none : (pages : Pages) (numbers : List ℕ) → numbers ≡ [] → without_pages pages numbers ≡ pages
unfolding without_pages
without_none pages numbers none = rw none refl

-- the last number goes first
pub without_last : (pages : Pages) (numbers : List ℕ) (n : ℕ) →
    without_pages pages (numbers ++ n ∷ []) ≡ without_pages (remove_entry (is_at (nat_cmp n)) pages) numbers
unfolding without_pages
without_last pages [] n = refl
without_last pages (m ∷ numbers) n = ap (remove_entry (is_at (nat_cmp m))) (without_last pages numbers n)

-- a page that was added, and taken out before the others
pub without_added : (pages after : Pages) (numbers : List ℕ) (n : ℕ) → is_some (page_at pages n) ≡ false →
    after ≡ insert_entry nat_cmp pages n (replicate PAGE_BYTES 0) →
    without_pages after (numbers ++ n ∷ []) ≡ without_pages pages numbers
without_added pages after numbers n none added =
    without_last after numbers n
    ∙ ap (λ (x : Pages). without_pages x numbers)
    (ap (remove_entry (is_at (nat_cmp n))) added ∙ removed_again pages n (replicate PAGE_BYTES 0) (none_there _ none))

pub page_is_added : (pages after : Pages) (first end : ℕ) → first < end → after ≡ with_page pages first →
    with_pages after (first + 1) (end - (first + 1)) ≡ with_pages pages first (end - first)
page_is_added pages after first end h added =
    ap (λ (x : Pages). with_pages x (first + 1) (end - (first + 1))) added ∙ sym (one_page_more pages first end h)
