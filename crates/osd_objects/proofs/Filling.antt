-- What pages of zeros change: that they are there, and no byte.
use Rattle.std.proofs.Common.{◌≡◌, ℕ, zero, suc, ◌+◌, ◌/◌, ◌%◌, ◌<◌, ◌≤◌, ◌⊎◌, true, false, Bool, List, [], ◌∷◌, length, replicate, Some, is_some, refl, sym, ap, ◌∙◌, arith, inl, inr}
use Rattle.std.specs.List.{list_any}
use Rattle.std.specs.Ordering.{nat_cmp}
use Rattle.std.specs.BTreeMap.{is_at, insert_entry}
use Rattle.std.specs.BTreeSet.{insert_key}
use Rattle.std.specs.Map.{lookup, keys_of}
use Rattle.std.proofs.lemmas.Bool.{cases_lt, cases_eq, cases_Bool, eq-eqb, ne_eqb, lt-ltb, le-ltb}
use Rattle.std.proofs.lemmas.List.{length-replicate, get_or-replicate}
use Rattle.std.proofs.lemmas.Option.{same_Some}
use Rattle.osd_lists.proofs.Options.{none_there}
use Rattle.osd_objects.specs.declared.pages.TheConstants.{PAGE_BYTES}
use Rattle.osd_objects.specs.Pages.{Pages, page_at, byte_on, byte_at, with_page, with_pages, AreFull}
use Rattle.osd_objects.specs.Sparse.{touch, touch_from}
use Rattle.osd_objects.proofs.Entries.{lookup_inserted, lookup_beside}

abbrev zeros : List ℕ
zeros = replicate PAGE_BYTES 0

-- a look-up of a new page
page_new : (pages : Pages) (n q : ℕ) → q ≡ n → page_at (insert_entry nat_cmp pages n zeros) q ≡ Some zeros
page_new pages n q same = ap (λ x. page_at (insert_entry nat_cmp pages n zeros) x) same ∙ lookup_inserted pages n zeros

byte_with_page : (pages : Pages) (n k : ℕ) → byte_at (with_page pages n) k ≡ byte_at pages k
unfolding byte_at
byte_with_page pages n k = elim (cases_Bool (is_some (page_at pages n))) [
  | inl there ↦ rw there refl
  | inr none ↦ rw none (elim (cases_eq (k / PAGE_BYTES) n) [
    | inl same ↦ ap (λ x. byte_on x (k % PAGE_BYTES)) (page_new pages n (k / PAGE_BYTES) same)
        ∙ get_or-replicate PAGE_BYTES (k % PAGE_BYTES) 0 0 (omega arith)
        ∙ sym (ap (λ x. byte_on x (k % PAGE_BYTES)) (ap (page_at pages) same ∙ none_there _ none))
    | inr other ↦ ap (λ x. byte_on x (k % PAGE_BYTES)) (lookup_beside pages n (k / PAGE_BYTES) zeros other)
  ])
]

full_with_page : (pages : Pages) (n : ℕ) → AreFull pages → AreFull (with_page pages n)
full_with_page pages n full = λ q page found. elim (cases_Bool (is_some (page_at pages n))) [
  | inl there ↦ full q page (rw there at found)
  | inr none ↦ elim (cases_eq q n) [
    | inl same ↦ (let e : Some zeros ≡ Some page = sym (page_new pages n q same) ∙ rw none at found in
        ap length (sym (same_Some zeros page e)) ∙ length-replicate {A = ℕ} PAGE_BYTES 0)
    | inr other ↦ full q page (sym (lookup_beside pages n q zeros other) ∙ rw none at found)
  ]
]

there_with_page : (pages : Pages) (n q : ℕ) → (is_some (page_at pages q) ≡ true) ⊎ (q ≡ n) →
    is_some (page_at (with_page pages n) q) ≡ true
there_with_page pages n q h = elim (cases_Bool (is_some (page_at pages n))) [
  | inl there ↦ rw there (elim h [ inl old ↦ old | inr same ↦ ap (λ x. is_some (page_at pages x)) same ∙ there ])
  | inr none ↦ rw none (elim (cases_eq q n) [
    | inl same ↦ ap is_some (page_new pages n q same)
    | inr other ↦ ap is_some (lookup_beside pages n q zeros other) ∙ elim h [ inl old ↦ old | inr same ↦ absurd (other same) ]
  ])
]

-- whether a look-up finds something can be seen by the keys
found_by_key : {X : Type 0} (test : ℕ → Bool) (es : List (ℕ × X)) → is_some (lookup test es) ≡ list_any test (keys_of es)
found_by_key test [] = refl
found_by_key test (e ∷ es) = elim (cases_Bool (test e.0)) [ inl here ↦ rw here refl | inr past ↦ rw past (found_by_key test es) ]

keys_inserted : {X : Type 0} (es : List (ℕ × X)) (k : ℕ) (v : X) →
    keys_of (insert_entry nat_cmp es k v) ≡ insert_key nat_cmp (keys_of es) k
keys_inserted [] k v = refl
keys_inserted (e ∷ es) k v = elim (cases_lt k e.0) [
  | inl less ↦ rw (lt-ltb k e.0 less) refl
  | inr from ↦ elim (cases_eq k e.0) [
    | inl same ↦ rw (le-ltb k e.0 from, eq-eqb k e.0 same) refl
    | inr other ↦ rw (le-ltb k e.0 from, ne_eqb k e.0 other) (ap (λ (x : List ℕ). e.0 ∷ x) (keys_inserted es k v))
  ]
]

keys_with_page : (pages : Pages) (n : ℕ) → keys_of (with_page pages n) ≡ touch (keys_of pages) n
keys_with_page pages n = elim (cases_Bool (is_some (page_at pages n))) [
  | inl there ↦ (let key : list_any (is_at (nat_cmp n)) (keys_of pages) ≡ true =
      sym (found_by_key (is_at (nat_cmp n)) pages) ∙ there in rw (there, key) refl)
  | inr none ↦ (let key : list_any (is_at (nat_cmp n)) (keys_of pages) ≡ false =
      sym (found_by_key (is_at (nat_cmp n)) pages) ∙ none in rw (none, key) (keys_inserted pages n zeros))
]

pub byte_with_pages : (pages : Pages) (first n k : ℕ) → byte_at (with_pages pages first n) k ≡ byte_at pages k
unfolding with_pages
byte_with_pages pages first zero k = refl
byte_with_pages pages first (suc n) k = byte_with_pages (with_page pages first) (first + 1) n k ∙ byte_with_page pages first k

pub full_with_pages : (pages : Pages) (first n : ℕ) → AreFull pages → AreFull (with_pages pages first n)
unfolding with_pages
full_with_pages pages first zero full = full
full_with_pages pages first (suc n) full = full_with_pages (with_page pages first) (first + 1) n (full_with_page pages first full)

pub there_with_pages : (pages : Pages) (first n q : ℕ) → (is_some (page_at pages q) ≡ true) ⊎ ((first ≤ q) × (q < first + n)) →
    is_some (page_at (with_pages pages first n) q) ≡ true
unfolding with_pages
there_with_pages pages first zero q h = elim h [ inl old ↦ old | inr none ↦ absurd (omega (arith, none.0, none.1)) ]
there_with_pages pages first (suc n) q h = there_with_pages (with_page pages first) (first + 1) n q (elim h [
  | inl old ↦ inl (there_with_page pages first q (inl old))
  | inr new ↦ elim (cases_eq q first) [
    | inl same ↦ inl (there_with_page pages first q (inr same))
    | inr other ↦ inr (omega (arith, new.0, other), omega (arith, new.1))
  ]
])

pub keys_with_pages : (pages : Pages) (first n : ℕ) → keys_of (with_pages pages first n) ≡ touch_from (keys_of pages) first n
unfolding with_pages touch_from
keys_with_pages pages first zero = refl
keys_with_pages pages first (suc n) =
    keys_with_pages (with_page pages first) (first + 1) n
    ∙ ap (λ (x : List ℕ). touch_from x (first + 1) n) (keys_with_page pages first)
