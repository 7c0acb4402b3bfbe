-- A file of which every write was acknowledged has one value at each position, and one size.
use Rattle.std.proofs.Common.{◌≡◌, ℕ, ◌+◌, ◌-◌, ◌<◌, ◌≤◌, true, List, [], ◌∷◌, ◌++◌, length, get_or, Some, None, refl, sym, ap, ◌∙◌, arith, inl, inr}
use Rattle.std.proofs.lemmas.Bool.{cases_lt, lt-ltb, le-ltb, eq-eqb}
use Rattle.std.proofs.lemmas.Option.{slice_get-get_or, slice_get_past}
use Rattle.osd_lists.specs.Overwrite.{overwritten}
use Rattle.osd_lists.proofs.Overwritten.{length-overwritten, before_overwritten, inside_overwritten, behind_overwritten}
use Rattle.file_log.specs.declared.entry.Entry.{Entry}
use Rattle.file_log.specs.declared.entry.Entry.TheVariants.{Write, Read}
use Rattle.file_log.specs.Judge.{Candidates, byte_for, settled, given, after_entry, AcceptsFrom, candidates_from, new_file, IsSettled, IsRange}

pub new_is_settled : IsSettled new_file []
new_is_settled = record { values = λ p. refl; sizes = refl }

pub byte_before : (offset : ℕ) (bytes : List ℕ) (p : ℕ) → p < offset → byte_for offset bytes p ≡ None
byte_before offset bytes p h = rw (lt-ltb p offset h) refl

pub byte_inside : (offset : ℕ) (bytes : List ℕ) (p : ℕ) → offset ≤ p → p - offset < length bytes →
    byte_for offset bytes p ≡ Some (get_or bytes (p - offset) 0)
byte_inside offset bytes p h inside = rw (le-ltb p offset h) (slice_get-get_or bytes (p - offset) 0 inside)

pub byte_behind : (offset : ℕ) (bytes : List ℕ) (p : ℕ) → offset ≤ p → length bytes ≤ p - offset → byte_for offset bytes p ≡ None
byte_behind offset bytes p h behind = rw (le-ltb p offset h) (slice_get_past bytes (p - offset) behind)

-- bytes that were written over another list stand there for sure
settled_over : (old : List ℕ) (offset : ℕ) (new : List ℕ) (p : ℕ) →
    settled (byte_for offset new p) (get_or old p 0 ∷ []) ≡ get_or (overwritten old offset new) p 0 ∷ []
settled_over old offset new p =
    elim (cases_lt p offset) [
      | inl before ↦ rw (byte_before offset new p before) (ap (λ v. v ∷ []) (sym (before_overwritten old offset new p before)))
      | inr from ↦ elim (cases_lt (p - offset) (length new)) [
        | inl inside ↦
            let place : offset + (p - offset) ≡ p = omega (arith, from) in
            rw (byte_inside offset new p (omega (arith, from)) inside)
            (ap (λ v. v ∷ [])
            (sym (inside_overwritten old offset new (p - offset) inside)
            ∙ ap (λ x. get_or (overwritten old offset new) x 0) place))
        | inr behind ↦ rw (byte_behind offset new p (omega (arith, from)) (omega (arith, behind)))
            (ap (λ v. v ∷ []) (sym (behind_overwritten old offset new p (omega (arith, from, behind)))))
      ]
    ]

pub after_write : (c : Candidates) (old : List ℕ) (offset : ℕ) (new : List ℕ) → IsSettled c old →
    IsSettled (after_entry c (Write offset new true)) (overwritten old offset new)
after_write c old offset new h = record {
  values = λ p. rw (h.values p) (settled_over old offset new p);
  sizes = rw h.sizes (ap (λ n. n ∷ []) (omega (arith, length-overwritten old offset new)));
}

settled_again : (bytes : List ℕ) (offset : ℕ) (answer : List ℕ) (p : ℕ) →
    ((i : ℕ) → i < length answer → get_or answer i 0 ≡ get_or bytes (offset + i) 0) →
    settled (byte_for offset answer p) (get_or bytes p 0 ∷ []) ≡ get_or bytes p 0 ∷ []
settled_again bytes offset answer p same =
    elim (cases_lt p offset) [
      | inl before ↦ rw (byte_before offset answer p before) refl
      | inr from ↦ elim (cases_lt (p - offset) (length answer)) [
        | inl inside ↦
            let place : offset + (p - offset) ≡ p = omega (arith, from) in
            rw (byte_inside offset answer p (omega (arith, from)) inside)
            (ap (λ v. v ∷ []) (same (p - offset) inside ∙ ap (λ x. get_or bytes x 0) place))
        | inr behind ↦ rw (byte_behind offset answer p (omega (arith, from)) (omega (arith, behind))) refl
      ]
    ]

pub after_answer : (c : Candidates) (bytes : List ℕ) (offset len : ℕ) (answer : List ℕ) → IsSettled c bytes →
    IsRange bytes offset len answer → IsSettled (after_entry c (Read offset len (Some answer))) bytes
after_answer c bytes offset len answer h r = record {
  values = λ p. rw (h.values p) (settled_again bytes offset answer p r.same);
  sizes = rw (h.sizes, r.size, eq-eqb (given offset len (length bytes)) (given offset len (length bytes)) refl) refl;
}

-- a log that goes on
pub accepts_more : (c : Candidates) (log more : List Entry) → AcceptsFrom c log → AcceptsFrom (candidates_from c log) more →
    AcceptsFrom c (log ++ more)
accepts_more c [] more h g = g
accepts_more c (e ∷ es) more h g = (h.0, accepts_more (after_entry c e) es more h.1 g)

pub candidates_more : (c : Candidates) (log more : List Entry) →
    candidates_from c (log ++ more) ≡ candidates_from (candidates_from c log) more
candidates_more c [] more = refl
candidates_more c (e ∷ es) more = candidates_more (after_entry c e) es more
