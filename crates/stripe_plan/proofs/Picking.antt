-- What columns and stretches give where those that are apart are left out.
use Rattle.std.proofs.Common.{◌≡◌, ℕ, ◌+◌, ◌<◌, ◌≤◌, List, [], ◌∷◌, length, get_or, map, refl, sym, ap, ◌∙◌, arith, inl, inr, eq-eqb, ne_eqb, append-nil}
use Rattle.std.specs.Prelude.{min, max}
use Rattle.std.proofs.lemmas.Bool.{cases_eq, cases_lt, le-ltb, le-leb, lt-leb}
use Rattle.data_map.specs.declared.check.RawMap.{RawMap}
use Rattle.stripe_plan.specs.declared.plan.Interval.{Interval}
use Rattle.stripe_plan.specs.declared.plan.Stretch.{Stretch}
use Rattle.stripe_plan.specs.declared.plan.Column.{Column}
use Rattle.stripe_plan.specs.Words.{byte_over, byte_at}
use Rattle.stripe_plan.specs.Asks.{before, behind, some_of, without}
use Rattle.stripe_plan.specs.Indexed.{stretch_of, stretches_of, IsApart, Sifts}
use Rattle.stripe_plan.proofs.Indexing.{next, here}
use Rattle.std.proofs.Common.{drop, ◌-◌}
use Rattle.std.proofs.lemmas.List.{drop_more, get_or_default, get_or-map, length-map, nil_from_length}
use Rattle.stripe_plan.specs.declared.plan.Part.{Part}
use Rattle.stripe_plan.specs.Plans.{part_column, columns_of}
use Rattle.stripe_plan.specs.Words.{bytes_at}
use Rattle.stripe_plan.proofs.Indexing.{sifted_below}
use Rattle.stripe_plan.proofs.Laid.{Filled, all_filled}
use Rattle.stripe_plan.proofs.Lefts.{empty}

-- ---- columns

abbrev pub no_column : Column
no_column = record { position = 0; offset = 0; bytes = [] }

-- the columns of these numbers
abbrev pub picked : List Column → List ℕ → List Column
picked cols ns = map (λ (k : ℕ). get_or cols k no_column) ns

-- a column that is apart has no byte of the interval
apart_column : (c : Column) (p : ℕ) (i : Interval) (o old : ℕ) → IsApart p i (stretch_of c) → i.first ≤ o → o < i.end →
    byte_over c p o old ≡ old
apart_column c p i o old apart from up = elim (cases_eq c.position p) [
  | inr other ↦ rw (ne_eqb c.position p other) refl
  | inl same ↦ elim apart [
    | inl other ↦ absurd (other same)
    | inr w ↦ elim w.1 [
      | inl below ↦ elim (cases_lt o c.offset) [
        | inl lt ↦ rw (eq-eqb c.position p same, lt-leb c.offset o lt) refl
        | inr le ↦ rw (
          eq-eqb c.position p same,
          le-leb c.offset o le,
          le-ltb o (c.offset + length c.bytes) (omega (arith, below, from)),
        ) refl
      ]
      | inr above ↦ rw (eq-eqb c.position p same, lt-leb c.offset o (omega (arith, above, up))) refl
    ]
  ]
]

sifted_byte : (all cols : List Column) (n : ℕ) → ((k : ℕ) → get_or all (n + k) no_column ≡ get_or cols k no_column) →
    (p : ℕ) (i : Interval) (ns : List ℕ) → Sifts p i (stretches_of cols) n ns →
    (o : ℕ) → i.first ≤ o → o < i.end → byte_at (picked all ns) p o ≡ byte_at cols p o
unfolding Sifts byte_at
sifted_byte all [] n at p i ns s o from up = rw s refl
sifted_byte all (c ∷ cols) n at p i ns s o from up = elim s [
  | inl w ↦ rw (w.1, here all cols c n no_column at)
      (ap (byte_over c p o) (sifted_byte all cols (n + 1) (next all cols c n no_column at) p i w.0 w.2 o from up))
  | inr w ↦ sifted_byte all cols (n + 1) (next all cols c n no_column at) p i ns w.1 o from up
      ∙ sym (apart_column c p i o (byte_at cols p o) w.0 from up)
]

pub same_byte : (cols : List Column) (p : ℕ) (i : Interval) (ns : List ℕ) → Sifts p i (stretches_of cols) 0 ns → (o : ℕ) →
    i.first ≤ o → o < i.end → byte_at (picked cols ns) p o ≡ byte_at cols p o
same_byte cols p i ns s o from up =
    sifted_byte cols cols 0 (λ k. let z : 0 + k ≡ k = omega arith in ap (λ (y : ℕ). get_or cols y no_column) z) p i ns s o from up

-- ---- stretches

abbrev pub no_stretch : Stretch
no_stretch = record { position = 0; first = 0; end = 0 }

abbrev pub chosen : List Stretch → List ℕ → List Stretch
chosen ts ns = map (λ (k : ℕ). get_or ts k no_stretch) ns

abbrev pub IsWithin : Interval → Interval → Type 0
IsWithin j i = (i.first ≤ j.first) × (j.end ≤ i.end)

-- a stretch that is apart takes nothing of the interval
apart_stretch : (t : Stretch) (ts : List Stretch) (p : ℕ) (i j : Interval) → IsApart p i t → IsWithin j i →
    without (t ∷ ts) p j ≡ without ts p j
unfolding without
apart_stretch t ts p i j apart inside = elim (cases_eq t.position p) [
  | inr other ↦ rw (ne_eqb t.position p other) refl
  | inl same ↦ elim apart [
    | inl other ↦ absurd (other same)
    | inr w ↦ elim w.1 [
      | inl below ↦
          let at : max j.first t.end ≡ j.first = omega (arith, below, inside.0) in
          rw (eq-eqb t.position p same, empty ts p (before t j) (omega (arith, w.0, below, inside.0)))
          (ap (λ (z : ℕ). without ts p (record { first = z; end = j.end })) at)
      | inr above ↦
          let at : min j.end t.first ≡ j.end = omega (arith, above, inside.1) in
          rw (eq-eqb t.position p same, empty ts p (behind t j) (omega (arith, w.0, above, inside.1)))
          (append-nil _ ∙ ap (λ (z : ℕ). without ts p (record { first = j.first; end = z })) at)
    ]
  ]
]

sifted_without : (all ts : List Stretch) (n : ℕ) → ((k : ℕ) → get_or all (n + k) no_stretch ≡ get_or ts k no_stretch) →
    (p : ℕ) (i : Interval) (ns : List ℕ) → Sifts p i ts n ns →
    (j : Interval) → IsWithin j i → without (chosen all ns) p j ≡ without ts p j
unfolding Sifts without
sifted_without all [] n at p i ns s j inside = rw s refl
sifted_without all (t ∷ ts) n at p i ns s j inside = elim s [
  | inl w ↦ elim (cases_eq t.position p) [
    | inr other ↦ rw (w.1, here all ts t n no_stretch at, ne_eqb t.position p other)
        (sifted_without all ts (n + 1) (next all ts t n no_stretch at) p i w.0 w.2 j inside)
    | inl same ↦
        let rest = sifted_without all ts (n + 1) (next all ts t n no_stretch at) p i w.0 w.2 in
        rw (
          w.1,
          here all ts t n no_stretch at,
          eq-eqb t.position p same,
          rest (before t j) (inside.0, omega (arith, inside.1)),
          rest (behind t j) (omega (arith, inside.0), inside.1),
        ) refl
  ]
  | inr w ↦ sifted_without all ts (n + 1) (next all ts t n no_stretch at) p i ns w.1 j inside
      ∙ sym (apart_stretch t ts p i j w.0 inside)
]

pub same_without : (ts : List Stretch) (p : ℕ) (i : Interval) (ns : List ℕ) → Sifts p i ts 0 ns →
    without (chosen ts ns) p i ≡ without ts p i
same_without ts p i ns s =
    sifted_without ts ts 0 (λ k. let z : 0 + k ≡ k = omega arith in
    ap (λ (y : ℕ). get_or ts y no_stretch) z) p i ns s i (omega arith, omega arith)

-- what isn't had, where no stretch has any
pub none_had : (ts : List Stretch) (p : ℕ) (i : Interval) (e : ℕ) (ns : List ℕ) → e ≡ i.end → length ns ≡ 0 →
    Sifts p (record { first = i.first; end = e }) ts 0 ns → some_of i ≡ without ts p i
unfolding without
none_had ts p i e ns is none s =
    ap (λ (ks : List ℕ). without (chosen ts ks) p i) (sym (nil_from_length ns none)) ∙ same_without ts p i ns (rw is at s)

-- ---- a loop over numbers from the last to the first

pub one_picked : (cols : List Column) (ns : List ℕ) (i : ℕ) (c : Column) → 0 < i → i - 1 < length ns →
    get_or ns (i - 1) 0 < length cols → c ≡ get_or cols (get_or ns (i - 1) 0) c →
    picked cols (drop (i - 1) ns) ≡ c ∷ picked cols (drop i ns)
one_picked cols ns i c some lt below is =
    let k : ℕ = get_or ns (i - 1) 0 in
    let next : i - 1 + 1 ≡ i = omega (arith, some) in
    let at : drop (i - 1) ns ≡ k ∷ drop i ns = drop_more ns (i - 1) 0 lt ∙ ap (λ (z : ℕ). k ∷ drop z ns) next in
    ap (picked cols) at ∙ ap (λ x. x ∷ picked cols (drop i ns)) (get_or_default cols k no_column c below ∙ sym is)

pub part_picked : (m : RawMap) (parts : List Part) (ns : List ℕ) (i : ℕ) (t : Part) → 0 < i → i - 1 < length ns →
    get_or ns (i - 1) 0 < length parts → t ≡ get_or parts (get_or ns (i - 1) 0) t →
    picked (columns_of m parts) (drop (i - 1) ns) ≡ part_column m t ∷ picked (columns_of m parts) (drop i ns)
part_picked m parts ns i t some lt below is =
    one_picked (columns_of m parts) ns i (part_column m t) some lt (omega (arith, below, length-map parts (part_column m)))
    (ap (part_column m) is ∙ sym (get_or-map (part_column m) parts (get_or ns (i - 1) 0) t (part_column m t) below))

pub all_picked : (cols : List Column) (p offset n : ℕ) (ns bytes : List ℕ) →
    Sifts p (record { first = offset; end = offset + n }) (stretches_of cols) 0 ns → Filled (picked cols ns) p offset n bytes →
    bytes ≡ bytes_at cols p offset n
all_picked cols p offset n ns bytes s f = all_filled cols p offset n bytes (record {
  long = f.long;
  each = λ k lt. f.each k lt
      ∙ same_byte cols p (record { first = offset; end = offset + n }) ns s (offset + k) (omega arith) (omega (arith, lt));
})

pub picked_below : (cols : List Column) (p : ℕ) (i : Interval) (ns : List ℕ) → Sifts p i (stretches_of cols) 0 ns → (j : ℕ) →
    j < length ns → get_or ns j 0 < length cols
picked_below cols p i ns s j lt =
    sifted_below p i (stretches_of cols) 0 (length cols) ns (omega (arith, length-map cols stretch_of)) s j lt

pub part_below : (m : RawMap) (parts : List Part) (p : ℕ) (i : Interval) (ns : List ℕ) →
    Sifts p i (stretches_of (columns_of m parts)) 0 ns → (j : ℕ) → j < length ns → get_or ns j 0 < length parts
part_below m parts p i ns s j lt =
    omega (arith, picked_below (columns_of m parts) p i ns s j lt, length-map parts (part_column m))

pub chosen_below : (ts : List Stretch) (p : ℕ) (i : Interval) (ns : List ℕ) → Sifts p i ts 0 ns → (j : ℕ) → j < length ns →
    get_or ns j 0 < length ts
chosen_below ts p i ns s j lt = sifted_below p i ts 0 (length ts) ns (omega arith) s j lt

-- ---- an index that is made
