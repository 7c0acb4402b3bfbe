-- Bytes written over those of pages, a part on one page and then the next.
use Rattle.std.proofs.Common.{◌≡◌, ℕ, ◌+◌, ◌-◌, ◌/◌, ◌%◌, ◌≤◌, true, List, [], ◌++◌, length, take, drop, replicate, get_or, Option, Some, is_some, refl, sym, ap, ◌∙◌, arith, inl, inr}
use Rattle.std.specs.Ordering.{nat_cmp}
use Rattle.std.specs.BTreeMap.{is_at}
use Rattle.std.proofs.lemmas.Bool.{cases_lt, cases_eq}
use Rattle.std.proofs.lemmas.List.{length-append, append-nil, get_or_append_left, get_or-append_right}
use Rattle.std.proofs.lemmas.Map.{keys-set_value}
use Rattle.std.proofs.lemmas.Option.{same_Some}
use Rattle.osd_lists.specs.Overwrite.{overwritten}
use Rattle.osd_lists.proofs.Overwritten.{length-overwritten, before_overwritten, inside_overwritten, behind_overwritten}
use Rattle.osd_objects.specs.declared.pages.TheConstants.{PAGE_BYTES}
use Rattle.osd_objects.specs.Pages.{Pages, page_at, byte_on, byte_at, part_over, with_part, AreFull, IsOverlaid}
use Rattle.osd_objects.proofs.Entries.{lookup_set, lookup_set_beside}
use Rattle.osd_objects.proofs.PageLaws.{on_page}

put_is_overwritten : (page : List ℕ) (i : ℕ) (part : List ℕ) → i ≤ length page →
    take i page ++ (part ++ drop (i + length part) page) ≡ overwritten page i part
put_is_overwritten page i part inside =
    let none : 0 ≡ i - length page = omega (arith, inside) in
    sym (ap (λ x. x ++ (part ++ drop (i + length part) page)) (append-nil (take i page)))
    ∙ ap (λ n. (take i page ++ replicate n 0) ++ (part ++ drop (i + length part) page)) none

-- a part that lies on one page
pub part_put : (pages : Pages) (at : ℕ) (page part : List ℕ) → page_at pages (at / PAGE_BYTES) ≡ Some page → AreFull pages →
    at % PAGE_BYTES + length part ≤ PAGE_BYTES → IsOverlaid pages at part (with_part pages at part)
unfolding byte_at
part_put pages at page part found full inside =
    let i = at % PAGE_BYTES in
    let n = at / PAGE_BYTES in
    let whole : length page ≡ PAGE_BYTES = full n page found in
    let new = part_over (page_at pages n) i part in
    let over : new ≡ overwritten page i part =
    ap (λ (o : Option (List ℕ)). part_over o i part) found ∙ put_is_overwritten page i part (omega (arith, whole, inside)) in
    let some : is_some (page_at pages n) ≡ true = ap is_some found in
    let here : page_at (with_part pages at part) n ≡ Some new = lookup_set pages n new some in
    let now : page_at (with_part pages at part) n ≡ Some (overwritten page i part) = here ∙ ap (λ (x : List ℕ). Some x) over in
    record {
      keys = keys-set_value (is_at (nat_cmp n)) pages new;
      there = λ q. elim (cases_eq q n) [
        | inl same ↦ ap (λ x. is_some (page_at (with_part pages at part) x)) same ∙ ap is_some here ∙ sym some
            ∙ ap (λ x. is_some (page_at pages x)) (sym same)
        | inr other ↦ ap is_some (lookup_set_beside pages n q new other)
      ];
      full = λ q other_page there. elim (cases_eq q n) [
        | inl same ↦ (let e : Some (overwritten page i part) ≡ Some other_page =
            sym now ∙ ap (page_at (with_part pages at part)) (sym same) ∙ there in
            ap length (sym (same_Some (overwritten page i part) other_page e)) ∙ length-overwritten page i part
            ∙ omega (arith, whole, inside))
        | inr other ↦ full q other_page (sym (lookup_set_beside pages n q new other) ∙ there)
      ];
      inside = λ j below.
          let place = on_page at j (omega (arith, below, inside)) in
          ap (λ k. byte_on (page_at (with_part pages at part) k) ((at + j) % PAGE_BYTES)) place.0
          ∙ ap (λ o. byte_on o ((at + j) % PAGE_BYTES)) now
          ∙ ap (λ k. get_or (overwritten page i part) k 0) place.1 ∙ inside_overwritten page i part j below;
      others = λ k out. elim (cases_eq (k / PAGE_BYTES) n) [
        | inl same ↦
            ap (λ x. byte_on (page_at (with_part pages at part) x) (k % PAGE_BYTES)) same
            ∙ ap (λ o. byte_on o (k % PAGE_BYTES)) now
            ∙ elim out [
              | inl before ↦ before_overwritten page i part (k % PAGE_BYTES) (omega (arith, same, before))
              | inr behind ↦ behind_overwritten page i part (k % PAGE_BYTES) (omega (arith, same, behind))
            ]
            ∙ sym (ap (λ x. byte_on (page_at pages x) (k % PAGE_BYTES)) same ∙ ap (λ o. byte_on o (k % PAGE_BYTES)) found)
        | inr other ↦ ap (λ o. byte_on o (k % PAGE_BYTES)) (lookup_set_beside pages n (k / PAGE_BYTES) new other)
      ];
    }

pub overlaid_nothing : (pages : Pages) (offset : ℕ) → AreFull pages → IsOverlaid pages offset [] pages
overlaid_nothing pages offset full =
    record {
      keys = refl;
      there = λ n. refl;
      full = full;
      inside = λ i below. absurd (omega (arith, below));
      others =
          λ k out. refl;
    }

pub overlaid_then : (before middle after : Pages) (offset : ℕ) (xs ys : List ℕ) → IsOverlaid before offset xs middle →
    IsOverlaid middle (offset + length xs) ys after → IsOverlaid before offset (xs ++ ys) after
overlaid_then before middle after offset xs ys h g = record {
  keys = g.keys ∙ h.keys;
  there = λ n. g.there n ∙ h.there n;
  full = g.full;
  inside = λ i below. elim (cases_lt i (length xs)) [
    | inl first ↦ g.others (offset + i) (inl (omega (arith, first))) ∙ h.inside i first ∙ sym (get_or_append_left xs ys 0 i first)
    | inr then ↦
        let place : offset + i ≡ offset + length xs + (i - length xs) = omega (arith, then) in
        ap (byte_at after) place ∙ g.inside (i - length xs) (omega (arith, then, below, length-append xs ys))
        ∙ sym (get_or-append_right xs ys (length xs) i 0 refl then)
  ];
  others = λ k out.
      let long = length-append xs ys in
      elim out [
        | inl below ↦ g.others k (inl (omega (arith, below))) ∙ h.others k (inl below)
        | inr above ↦ g.others k (inr (omega (arith, above, long))) ∙ h.others k (inr (omega (arith, above, long)))
      ];
}
