-- The lanes of an object, as a list: no two have one holder, and few holders have few lanes.
use Rattle.std.proofs.Common.{◌≡◌, ◌⊎◌, ◌==◌, ℕ, zero, suc, ◌+◌, ◌≤◌, ◌<◌, nat_eq, ◌++◌, ◌∷◌, [], List, Option, Some, None, length, slice_set, refl, sym, ap, subst, ◌∙◌, arith, inl, inr, eq-eqb, ne_eqb, lt-ltb, if◌then◌else◌}
use Rattle.std.specs.Prelude.{get_or}
use Rattle.std.specs.List.{position_or_len}
use Rattle.std.proofs.lemmas.Bool.{cases_eq, cases_lt}
use Rattle.std.proofs.lemmas.List.Quantifiers.{position-Some}
use Rattle.osd_lists.proofs.Tests.{nat_same}
use Rattle.osd_objects.specs.declared.lanes.LaneEntry.{LaneEntry}
use Rattle.osd_objects.specs.Lanes.{place_of, put_at, with_lane}
use Rattle.server_rules.specs.declared.limits.TheConstants.{SERVER_HOLDER}
use Rattle.server_rules.specs.Laws.{In}
use Rattle.server_rules.proofs.Members.{in_either}
use Rattle.scenario_text.specs.declared.names.TheConstants.{CLIENTS}
use Rattle.exchange_law.specs.Lanes.{NoneHolds, HoldersDiffer}

pub none_in : (q : ℕ) (ls : List LaneEntry) (l : LaneEntry) → NoneHolds q ls → In l ls → l.holder ≡ q → ⊥
none_in q [] l none i e = i
none_in q (x ∷ ls) l none (inl same) e = none.0 (ap (λ (y : LaneEntry). y.holder) (sym same) ∙ e)
none_in q (x ∷ ls) l none (inr i) e = none_in q ls l none.1 i e

-- ---- a lane that is put

in_set : (ls : List LaneEntry) (i : ℕ) (y l : LaneEntry) → In l (slice_set ls i y) → (l ≡ y) ⊎ In l ls
in_set [] i y l j = absurd j
in_set (x ∷ ls) zero y l (inl e) = inl e
in_set (x ∷ ls) zero y l (inr j) = inr (inr j)
in_set (x ∷ ls) (suc i) y l (inl e) = inr (inl e)
in_set (x ∷ ls) (suc i) y l (inr j) = elim (in_set ls i y l j) [ inl e ↦ inl e | inr k ↦ inr (inr k) ]

in_put : (ls : List LaneEntry) (y l : LaneEntry) (o : Option ℕ) → In l (put_at ls y o) → (l ≡ y) ⊎ In l ls
in_put ls y l (Some i) j = in_set ls i y l j
in_put ls y l None j = elim (in_either l ls (y ∷ []) j) [
  | inl k ↦ inr k
  | inr k ↦ elim k [ inl e ↦ inl e | inr n ↦ absurd n ]
]

-- one that stands there then is the one that was put, or was there
pub in_with : (ls : List LaneEntry) (y l : LaneEntry) → In l (with_lane ls y) → (l ≡ y) ⊎ In l ls
in_with ls y l j = in_put ls y l (place_of ls y.holder) j

set_none : (ls : List LaneEntry) (i q : ℕ) (y : LaneEntry) → (get_or ls i y).holder ≡ y.holder → NoneHolds q ls
    → NoneHolds q (slice_set ls i y)
set_none [] i q y same none = tt
set_none (x ∷ ls) zero q y same none = (λ e. none.0 (same ∙ e), none.1)
set_none (x ∷ ls) (suc i) q y same none = (none.0, set_none ls i q y same none.1)

set_differ : (ls : List LaneEntry) (i : ℕ) (y : LaneEntry) → (get_or ls i y).holder ≡ y.holder → HoldersDiffer ls
    → HoldersDiffer (slice_set ls i y)
set_differ [] i y same d = tt
set_differ (x ∷ ls) zero y same d = (subst (λ (q : ℕ). NoneHolds q ls) same d.0, d.1)
set_differ (x ∷ ls) (suc i) y same d = (set_none ls i x.holder y same d.0, set_differ ls i y same d.1)

more_none : (ls : List LaneEntry) (q : ℕ) (y : LaneEntry) → NoneHolds q ls → (y.holder ≡ q → ⊥)
    → NoneHolds q (ls ++ y ∷ [])
more_none [] q y none other = (other, tt)
more_none (x ∷ ls) q y none other = (none.0, more_none ls q y none.1 other)

more_differ : (ls : List LaneEntry) (y : LaneEntry) → HoldersDiffer ls → NoneHolds y.holder ls
    → HoldersDiffer (ls ++ y ∷ [])
more_differ [] y d none = (tt, tt)
more_differ (x ∷ ls) y d none = (more_none ls x.holder y d.0 (λ e. none.0 (sym e)), more_differ ls y d.1 none.1)

past_all : (q : ℕ) (ls : List LaneEntry) → length ls ≤ position_or_len (λ l. nat_eq l.holder q) ls → NoneHolds q ls
past_all q [] le = tt
past_all q (x ∷ ls) le = elim (cases_eq x.holder q) [
  | inl same ↦ let less : suc (length ls) ≤ 0 = rw (eq-eqb x.holder q same) at le in absurd (omega (arith, less))
  | inr other ↦
      let less : suc (length ls) ≤ 1 + position_or_len (λ l. nat_eq l.holder q) ls =
      rw (ne_eqb x.holder q other) at le in
      (other, past_all q ls (omega (arith, less)))
]

none_there : (q : ℕ) (ls : List LaneEntry) → place_of ls q ≡ None → NoneHolds q ls
none_there q ls e = elim (cases_lt (position_or_len (λ l. nat_eq l.holder q) ls) (length ls)) [
  | inl less ↦
      let found : Some (position_or_len (λ l. nat_eq l.holder q) ls) ≡ None =
      rw (lt-ltb (position_or_len (λ l. nat_eq l.holder q) ls) (length ls) less) at e in
      absurd (cc found)
  | inr from ↦ past_all q ls from
]

put_differ : (ls : List LaneEntry) (y : LaneEntry) (o : Option ℕ) → place_of ls y.holder ≡ o → HoldersDiffer ls
    → HoldersDiffer (put_at ls y o)
put_differ ls y (Some i) e d =
    let p = position-Some (λ l. nat_eq l.holder y.holder) ls i y e in
    set_differ ls i y (nat_same (get_or ls i y).holder y.holder p.1) d
put_differ ls y None e d = more_differ ls y d (none_there y.holder ls e)

pub with_differ : (ls : List LaneEntry) (y : LaneEntry) → HoldersDiffer ls → HoldersDiffer (with_lane ls y)
with_differ ls y d = put_differ ls y (place_of ls y.holder) refl d

-- ---- few holders

-- without the holder's lane
unfoldable without : (holder : ℕ) → List LaneEntry → List LaneEntry
without q [] = []
without q (l ∷ ls) = if l.holder == q then ls else l ∷ without q ls

without_none : (k q : ℕ) (ls : List LaneEntry) → NoneHolds k ls → NoneHolds k (without q ls)
unfolding without
without_none k q [] none = tt
without_none k q (l ∷ ls) none = elim (cases_eq l.holder q) [
  | inl same ↦ rw (eq-eqb l.holder q same) none.1
  | inr other ↦ rw (ne_eqb l.holder q other) (none.0, without_none k q ls none.1)
]

record IsWithout (q : ℕ) (ls rest : List LaneEntry) : Type 0 where
  longer : length ls ≤ length rest + 1
  differ : HoldersDiffer rest
  inside : (l : LaneEntry) → In l rest → In l ls
  others : (l : LaneEntry) → In l rest → l.holder ≡ q → ⊥

is_without : (q : ℕ) (ls : List LaneEntry) → HoldersDiffer ls → IsWithout q ls (without q ls)
unfolding without
is_without q [] d = record {
  longer = omega arith;
  differ = tt;
  inside = λ l i. absurd i;
  others = λ l i e. i;
}
is_without q (x ∷ ls) d = elim (cases_eq x.holder q) [
  | inl same ↦ rw (eq-eqb x.holder q same) (record {
    longer = omega arith;
    differ = d.1;
    inside = λ l i. inr i;
    others = λ l i e. none_in x.holder ls l d.0 i (e ∙ sym same);
  })
  | inr other ↦
      let r = is_without q ls d.1 in
      rw (ne_eqb x.holder q other) (record {
        longer = omega (arith, r.longer);
        differ = (without_none x.holder q ls d.0, r.differ);
        inside = λ l i. elim i [ inl e ↦ inl e | inr j ↦ inr (r.inside l j) ];
        others = λ l i e. elim i [
          | inl same ↦ other (ap (λ (y : LaneEntry). y.holder) (sym same) ∙ e)
          | inr j ↦ r.others l j e
        ];
      })
]

small : (n : ℕ) (ls : List LaneEntry) → HoldersDiffer ls → ((l : LaneEntry) → In l ls → l.holder < n) → length ls ≤ n
small zero [] d each = omega arith
small zero (x ∷ ls) d each = let less : x.holder < 0 = each x (inl refl) in absurd (omega (arith, less))
small (suc n) ls d each =
    let r = is_without n ls d in
    let rest : length (without n ls) ≤ n =
    small n (without n ls) r.differ (λ l i. below l.holder n (each l (r.inside l i)) (r.others l i)) in
    omega (arith, rest, r.longer)
  where
    below : (a b : ℕ) → a < suc b → (a ≡ b → ⊥) → a < b
    below a b less other = elim (cases_eq a b) [
      | inl e ↦ absurd (other e)
      | inr ne ↦ omega (arith, less, ne)
    ]

-- those of the clients and the server
pub are_few : (ls : List LaneEntry) → HoldersDiffer ls
    → ((l : LaneEntry) → In l ls → (l.holder ≡ SERVER_HOLDER) ⊎ (l.holder < CLIENTS)) → length ls ≤ CLIENTS + 1
are_few ls d each =
    let r = is_without SERVER_HOLDER ls d in
    let rest = small CLIENTS (without SERVER_HOLDER ls) r.differ (λ l i. elim (each l (r.inside l i)) [
      | inl e ↦ absurd (r.others l i e)
      | inr less ↦ less
    ]) in
    omega (arith, rest, r.longer)
