-- Numbers of stretches, and what they leave out.
use Rattle.std.proofs.Common.{◌≡◌, ℕ, zero, suc, ◌+◌, ◌*◌, ◌/◌, ◌<◌, ◌≤◌, Bool, true, false, List, [], ◌∷◌, ◌++◌, length, get_or, refl, sym, ap, ◌∙◌, arith, inl, inr, eq-eqb, ne_eqb, append-nil}
use Rattle.std.proofs.Math.ListN.{set}
use Rattle.std.proofs.Math.Nat.{mul-le-mul_right, div-mul-le_self}
use Rattle.std.specs.Prelude.{if◌then◌else◌}
use Rattle.std.specs.List.{All}
use Rattle.std.proofs.lemmas.Bool.{cases_eq, cases_lt, cases_Bool, true≢false}
use Rattle.std.proofs.lemmas.List.{get_or-set_other, length-set}
use Rattle.std.proofs.lemmas.Grind.{get_or-set_at}
use Rattle.std.proofs.lemmas.List.Elements.{All-nil, All-head, All-tail, All-append, All-cons}
use Rattle.stripe_plan.specs.declared.plan.Interval.{Interval}
use Rattle.stripe_plan.specs.declared.plan.Stretch.{Stretch}
use Rattle.stripe_plan.specs.declared.row_index.RowIndex.{RowIndex}
use Rattle.stripe_plan.specs.declared.row_index.TheConstants.{MOST_LISTS}
use Rattle.stripe_plan.specs.Indexed.{numbers_from, list_of, stands_in, IsInRow, AreEmpty, Indexes, IsApart, Sifts}

-- one stretch more
pub numbers_more : (test : Stretch → Bool) (ts : List Stretch) (t : Stretch) (n : ℕ) →
    numbers_from test (ts ++ t ∷ []) n ≡ numbers_from test ts n ++ (if test t then (n + length ts) ∷ [] else [])
unfolding numbers_from
numbers_more test [] t n = elim (cases_Bool (test t)) [
  | inl holds ↦ let at : n ≡ n + 0 = omega arith in rw holds (ap (λ (z : ℕ). z ∷ []) at)
  | inr fails ↦ rw fails refl
]
numbers_more test (x ∷ ts) t n =
    let at : n + 1 + length ts ≡ n + suc (length ts) = omega arith in
    let more : numbers_from test (ts ++ t ∷ []) (n + 1) ≡ numbers_from test ts
    (n + 1) ++ (if test t then (n + suc (length ts)) ∷ [] else []) =
    numbers_more test ts t (n + 1) ∙ ap (λ (z : ℕ). numbers_from test ts (n + 1) ++ (if test t then z ∷ [] else [])) at in
    elim (cases_Bool (test x)) [
      | inl holds ↦ rw holds (ap (λ (ns : List ℕ). n ∷ ns) more)
      | inr fails ↦ rw fails more
    ]

-- all are counted
pub every_count : (ts : List Stretch) (n : ℕ) → length (numbers_from (λ t. true) ts n) ≡ length ts
unfolding numbers_from
every_count [] n = refl
every_count (t ∷ ts) n = ap suc (every_count ts (n + 1))

-- a test that holds of all that aren't apart
pub sifted : (test : Stretch → Bool) (p : ℕ) (i : Interval) (ts : List Stretch) (n : ℕ) →
    All (λ t. test t ≡ false → IsApart p i t) ts → Sifts p i ts n (numbers_from test ts n)
unfolding numbers_from Sifts
sifted test p i [] n all = refl
sifted test p i (t ∷ ts) n all = elim (cases_Bool (test t)) [
  | inl holds ↦ rw holds
      (inl (
        numbers_from test ts (n + 1),
        refl,
        sifted test p i ts (n + 1) (All-tail (λ (x : Stretch). test x ≡ false → IsApart p i x) t ts all),
      ))
  | inr fails ↦ rw fails
      (inr (
        All-head (λ (x : Stretch). test x ≡ false → IsApart p i x) t ts all fails,
        sifted test p i ts (n + 1) (All-tail (λ (x : Stretch). test x ≡ false → IsApart p i x) t ts all),
      ))
]

-- each number is one of them
first_or_rest : (n e : ℕ) (rest : List ℕ) → n < e → ((j : ℕ) → j < length rest → get_or rest j 0 < e) → (j : ℕ) →
    j < length (n ∷ rest) → get_or (n ∷ rest) j 0 < e
first_or_rest n e rest lt below zero l = lt
first_or_rest n e rest lt below (suc j) l = below j (omega (arith, l))

pub sifted_below : (p : ℕ) (i : Interval) (ts : List Stretch) (n e : ℕ) (ns : List ℕ) → n + length ts ≡ e → Sifts p i ts n ns →
    (j : ℕ) → j < length ns → get_or ns j 0 < e
unfolding Sifts
sifted_below p i [] n e ns is s = λ j lt. let none : length ns ≡ 0 = ap length s in absurd (omega (arith, none, lt))
sifted_below p i (t ∷ ts) n e ns is s = elim s [
  | inl w ↦ λ j. rw w.1 (first_or_rest n e w.0 (omega (arith, is)) (sifted_below p i ts (n + 1) e w.0 (omega (arith, is)) w.2) j)
  | inr w ↦ sifted_below p i ts (n + 1) e ns (omega (arith, is)) w.1
]

-- the next one of a list
pub next : {A : Type 0} (all xs : List A) (x : A) (n : ℕ) (d : A) → ((k : ℕ) → get_or all (n + k) d ≡ get_or (x ∷ xs) k d) →
    (k : ℕ) → get_or all (n + 1 + k) d ≡ get_or xs k d
next all xs x n d at k = let z : n + 1 + k ≡ n + suc k = omega arith in ap (λ (y : ℕ). get_or all y d) z ∙ at (suc k)

pub here : {A : Type 0} (all xs : List A) (x : A) (n : ℕ) (d : A) → ((k : ℕ) → get_or all (n + k) d ≡ get_or (x ∷ xs) k d) →
    get_or all n d ≡ x
here all xs x n d at = let z : n ≡ n + 0 = omega arith in ap (λ (y : ℕ). get_or all y d) z ∙ at 0

-- ---- the index

all_weaker : {X : Type 0} (P Q : X → Type 0) → ((x : X) → P x → Q x) → (xs : List X) → All P xs → All Q xs
all_weaker P Q f [] all = All-nil Q
all_weaker P Q f (x ∷ xs) all = All-cons Q x xs (f x (All-head P x xs all)) (all_weaker P Q f xs (All-tail P x xs all))

all_any : {X : Type 0} (Q : X → Type 0) → ((x : X) → Q x) → (xs : List X) → All Q xs
all_any Q f [] = All-nil Q
all_any Q f (x ∷ xs) = All-cons Q x xs (f x) (all_any Q f xs)

rows_rise : (a b unit : ℕ) → a < b → (a + 1) * unit ≤ b * unit
rows_rise a b unit lt = let next : a + 1 ≤ b = omega (arith, lt) in mul-le-mul_right unit next

-- a stretch that stands in another list than the interval's row has no byte of the interval
row_apart : (lists unit p : ℕ) (i : Interval) (t : Stretch) → i.end ≤ (i.first / unit + 1) * unit → IsInRow unit t →
    stands_in lists unit (list_of lists p (i.first / unit)) t ≡ false → IsApart p i t
row_apart lists unit p i t short inside other_list = elim (cases_eq t.position p) [
  | inr other ↦ inl other
  | inl same ↦ elim (cases_eq (t.first / unit) (i.first / unit)) [
    | inl row ↦ absurd
        (true≢false (sym
        (eq-eqb (list_of lists t.position (t.first / unit)) (list_of lists p (i.first / unit))
        (ap (λ (z : ℕ). list_of lists z (t.first / unit)) same ∙ ap (list_of lists p) row)) ∙ other_list))
    | inr differ ↦ inr (
      inside.0,
      elim (cases_lt (t.first / unit) (i.first / unit)) [
        | inl lt ↦ inl
            (omega (arith, inside.1, rows_rise (t.first / unit) (i.first / unit) unit lt, div-mul-le_self i.first unit))
        | inr le ↦ inr
            (omega (
              arith,
              short,
              rows_rise (i.first / unit) (t.first / unit) unit (omega (arith, le, differ)),
              div-mul-le_self t.first unit,
            ))
      ],
    )
  ]
]

pub found_every : (p : ℕ) (i : Interval) (ts : List Stretch) → Sifts p i ts 0 (numbers_from (λ t. true) ts 0)
found_every p i ts =
    sifted (λ t. true) p i ts 0 (all_any (λ (t : Stretch). true ≡ false → IsApart p i t) (λ t e. absurd (true≢false e)) ts)

pub found_list : (x : RowIndex) (p : ℕ) (i : Interval) (ts : List Stretch) (list lists : ℕ) (ns : List ℕ) → Indexes ts x →
    (x.is_regular ≡ true) × IsInRow x.unit (record { position = 0; first = i.first; end = i.end }) → lists ≡ length x.lists →
    list ≡ list_of lists p (i.first / x.unit) → list < lists → ns ≡ get_or x.lists list [] →
    Sifts p i ts 0 ns
found_list x p i ts list lists ns k w is_lists is_list lt is =
    let at : list ≡ list_of (length x.lists) p (i.first / x.unit) =
    is_list ∙ ap (λ (z : ℕ). list_of z p (i.first / x.unit)) is_lists in
    rw (is ∙ k.each list (omega (arith, lt, is_lists))
    ∙ ap (λ (z : ℕ). numbers_from (stands_in (length x.lists) x.unit z) ts 0) at)
    (sifted (stands_in (length x.lists) x.unit (list_of (length x.lists) p (i.first / x.unit))) p i ts 0
    (all_weaker (IsInRow x.unit)
    (λ (t : Stretch). stands_in (length x.lists) x.unit (list_of (length x.lists) p (i.first / x.unit)) t ≡ false →
    IsApart p i t) (λ t inside. row_apart (length x.lists) x.unit p i t w.1.1 inside) ts (k.rows w.0)))

pub fresh : (unit n : ℕ) (regular : Bool) (every : List ℕ) (lists : List (List ℕ)) → 0 < unit → (regular ≡ true → 0 < n) →
    n ≤ MOST_LISTS → every ≡ [] → AreEmpty n lists →
    Indexes [] (record { unit = unit; is_regular = regular; every = every; lists = lists })
unfolding numbers_from
fresh unit n regular every lists some one most none empty = record {
  sound = (some, λ e. omega (arith, one e, empty.count), omega (arith, most, empty.count));
  every = none;
  each = λ k lt. empty.each k (omega (arith, lt, empty.count));
  rows = λ e. All-nil (IsInRow unit);
}

-- one of the lists when a number was added to one
one_list : (ts : List Stretch) (t : Stretch) (x : RowIndex) (list number j : ℕ) → Indexes ts x → number ≡ 0 + length ts →
    list ≡ list_of (length x.lists) t.position (t.first / x.unit) → list < length x.lists → j < length x.lists →
    get_or (set x.lists list (get_or x.lists list [] ++ number ∷ [])) j []
    ≡ numbers_from
    (stands_in (length x.lists) x.unit j) ts 0 ++ (if stands_in (length x.lists) x.unit j t then (0 + length ts) ∷ [] else [])
one_list ts t x list number j k at is_list lt l = elim (cases_eq list j) [
  | inl same ↦
      rw (eq-eqb (list_of (length x.lists) t.position (t.first / x.unit)) j (sym is_list ∙ same))
      (get_or-set_at x.lists list j (get_or x.lists list [] ++ number ∷ []) [] (sym same) lt
      ∙ ap (λ (ns : List ℕ). ns ++ number ∷ [])
      (k.each list lt ∙ ap (λ (z : ℕ). numbers_from (stands_in (length x.lists) x.unit z) ts 0) same)
      ∙ ap (λ (z : ℕ). numbers_from (stands_in (length x.lists) x.unit j) ts 0 ++ z ∷ []) at)
  | inr other ↦
      rw (ne_eqb (list_of (length x.lists) t.position (t.first / x.unit)) j (λ e. other (is_list ∙ e)))
      (get_or-set_other x.lists list j (get_or x.lists list [] ++ number ∷ []) [] (λ e. other (sym e)) ∙ k.each j l
      ∙ sym (append-nil (numbers_from (stands_in (length x.lists) x.unit j) ts 0)))
]

pub pushed : (ts : List Stretch) (t : Stretch) (x : RowIndex) (regular : Bool) (every : List ℕ) (lists : List (List ℕ))
    (number : ℕ) → Indexes ts x →
    (regular ≡ true → (x.is_regular ≡ true) × IsInRow x.unit t) → number ≡ length x.every → every ≡ x.every ++ number ∷ [] →
    (length x.lists ≡ 0 → lists ≡ x.lists) →
    (0 < length x.lists →
    lists ≡ set x.lists (list_of (length x.lists) t.position (t.first / x.unit))
    (get_or x.lists (list_of (length x.lists) t.position (t.first / x.unit)) [] ++ number ∷ [])) →
    (0 < length x.lists → list_of (length x.lists) t.position (t.first / x.unit) < length x.lists) →
    Indexes (ts ++ t ∷ []) (record { unit = x.unit; is_regular = regular; every = every; lists = lists })
pushed ts t x regular every lists number k keeps is_number is_every no_lists is_lists lt =
    let list : ℕ = list_of (length x.lists) t.position (t.first / x.unit) in
    let long : length lists ≡ length x.lists = elim (cases_lt 0 (length x.lists)) [
      | inl some ↦ ap length (is_lists some) ∙ length-set x.lists list (get_or x.lists list [] ++ number ∷ [])
      | inr le ↦ ap length (no_lists (omega (arith, le)))
    ] in
    let at : number ≡ 0 + length ts = omega (arith, is_number, ap length k.every, every_count ts 0) in
    record {
      sound = (k.sound.0, λ e. omega (arith, long, k.sound.1 (keeps e).0), omega (arith, long, k.sound.2));
      every = is_every ∙ ap (λ (ns : List ℕ). ns ++ number ∷ []) k.every
          ∙ ap (λ (z : ℕ). numbers_from (λ t. true) ts 0 ++ z ∷ []) at ∙ sym (numbers_more (λ t. true) ts t 0);
      each = λ j l.
          let some : 0 < length x.lists = omega (arith, l, long) in
          rw long (ap (λ (ls : List (List ℕ)). get_or ls j []) (is_lists some)
          ∙ one_list ts t x list number j k at refl (lt some) (omega (arith, l, long))
          ∙ sym (numbers_more (stands_in (length x.lists) x.unit j) ts t 0));
      rows = λ e. All-append (IsInRow x.unit) ts (t ∷ []) (k.rows (keeps e).0)
          (All-cons (IsInRow x.unit) t [] (keeps e).1 (All-nil (IsInRow x.unit)));
    }
