-- The WRITE of a piece to a target: it has the words of the piece, and all of them but zeros.
use Rattle.std.proofs.Common.{◌≡◌, ◌⊎◌, ℕ, suc, zero, ◌+◌, ◌-◌, ◌<◌, ◌≤◌, true, nat_lt, List, [], ◌∷◌, length, drop, slice_range, slice_index, replicate, refl, sym, ap, ◌∙◌, arith, inl, inr, eq-eqb, ne_eqb}
use Rattle.std.proofs.lemmas.Bool.{cases_eq, cases_lt}
use Rattle.std.proofs.lemmas.List.{length-take, get_or-take}
use Rattle.data_map.specs.declared.check.RawMap.{RawMap}
use Rattle.data_map.specs.Check.{IsChecked}
use Rattle.data_map.specs.Striping.{offset_of}
use Rattle.osd_commands.specs.declared.commands.Command.{Command}
use Rattle.server_rules.specs.Columns.{first_unlike, end_unlike, end_of}
use Rattle.stripe_repair.proofs.UnlikeLaws.{end_inside}
use Rattle.headline_law.proofs.SmallLemmas.{behind_from}
use Rattle.world_history.specs.ServerNames.{Piece}
use Rattle.fence_law.specs.State as machine
use Rattle.fence_law.specs.State.{State}
use Rattle.fence_law.specs.Law.{byte_before}
use Rattle.plan_law.specs.FileLayout.{layout_of, word_in}
use Rattle.plan_law.specs.Pieces.{AreWords as AreWordsOf}
use Rattle.file_simulation.specs.Jobs.{AreWords, HasAllOf, word_now}
use Rattle.headline_law.specs.TargetLaws.{EndsInSome}
use Rattle.headline_law.proofs.TargetPieces.{IsWithin, cell_in}

-- ---- where a row differs from zeros

ahead_zero : (bytes : List ℕ) (count j : ℕ) → j < first_unlike bytes (replicate count 0) → slice_index bytes j ≡ 0
unfolding first_unlike
ahead_zero [] count j low = refl
ahead_zero (x ∷ xs) zero j low = absurd (omega (arith, low))
ahead_zero (x ∷ xs) (suc n) j low = elim (cases_eq x 0) [
  | inr other ↦ absurd (omega (arith, rw (ne_eqb x 0 other) at low))
  | inl same ↦ at j (rw (eq-eqb x 0 same) at low) (ahead_zero xs n) same
]
  where
    at : (q : ℕ) → q < first_unlike xs (replicate n 0) + 1 →
        ((y : ℕ) → y < first_unlike xs (replicate n 0) → slice_index xs y ≡ 0) → x ≡ 0 → slice_index (x ∷ xs) q ≡ 0
    at zero l rest same = same
    at (suc q) l rest same = rest q (omega (arith, l))

behind_zero : (bytes : List ℕ) (count i end j : ℕ) → end ≤ i → end_unlike bytes (replicate count 0) i end ≤ i + j →
    j < count → slice_index bytes j ≡ 0
unfolding end_unlike
behind_zero [] count i end j le past low = refl
behind_zero (x ∷ xs) zero i end j le past low = absurd (omega (arith, low))
behind_zero (x ∷ xs) (suc n) i end j le past low = elim (cases_eq x 0) [
  | inl same ↦
      at j low (λ y less beyond. behind_zero xs n (i + 1) end y (omega (arith, le)) beyond less)
      (rw (eq-eqb x 0 same) at past) same
  | inr other ↦
      later j low (behind_from xs (replicate n 0) (i + 1) (i + 1)) (rw (ne_eqb x 0 other) at past)
      (λ y less beyond. behind_zero xs n (i + 1) (i + 1) y (omega arith) beyond less)
]
  where
    at : (q : ℕ) → q < suc n →
        ((y : ℕ) → y < n → end_unlike xs (replicate n 0) (i + 1) end ≤ (i + 1) + y → slice_index xs y ≡ 0) →
        end_unlike xs (replicate n 0) (i + 1) end ≤ i + q → x ≡ 0 → slice_index (x ∷ xs) q ≡ 0
    at zero l rest beyond same = same
    at (suc q) l rest beyond same = rest q (omega (arith, l)) (omega (arith, beyond))

    later : (q : ℕ) → q < suc n →
        (end_unlike xs (replicate n 0) (i + 1) (i + 1) ≡ i + 1)
        ⊎ ((i + 1) + first_unlike xs (replicate n 0) < end_unlike xs (replicate n 0) (i + 1) (i + 1)) →
        end_unlike xs (replicate n 0) (i + 1) (i + 1) ≤ i + q →
        ((y : ℕ) → y < n → end_unlike xs (replicate n 0) (i + 1) (i + 1) ≤ (i + 1) + y → slice_index xs y ≡ 0) →
        slice_index (x ∷ xs) q ≡ 0
    later zero l (inl e) beyond rest = absurd (omega (arith, e, beyond))
    later zero l (inr more) beyond rest = absurd (omega (arith, more, beyond))
    later (suc q) l e beyond rest = rest q (omega (arith, l)) (omega (arith, beyond))

-- ---- what is cut out

at_drop : (xs : List ℕ) (n i : ℕ) → slice_index (drop n xs) i ≡ slice_index xs (n + i)
at_drop xs zero i = ap (slice_index xs) (omega arith)
at_drop [] (suc n) i = refl
at_drop (x ∷ xs) (suc n) i =
    let same : suc n + i ≡ suc (n + i) = omega arith in
    at_drop xs n i ∙ ap (slice_index (x ∷ xs)) (sym same)

pub at_cut : (xs : List ℕ) (a b i : ℕ) → i < b - a → slice_index (slice_range xs a b) i ≡ slice_index xs (a + i)
at_cut xs a b i low = get_or-take (b - a) (drop a xs) i 0 low ∙ at_drop xs a i

cut_long : (xs : List ℕ) (a b : ℕ) → b ≤ length xs → length (slice_range xs a b) ≡ b - a
cut_long xs a b inside = long a xs inside
  where
    dropped : (n : ℕ) (ys : List ℕ) → length (drop n ys) ≡ length ys - n
    dropped zero ys = omega arith
    dropped (suc n) [] = omega arith
    dropped (suc n) (y ∷ ys) = let r = dropped n ys in omega (arith, r)

    long : (n : ℕ) (ys : List ℕ) → b ≤ length ys → length (slice_range ys n b) ≡ b - n
    long n ys le =
        let t = length-take (b - n) (drop n ys) in let d = dropped n ys in omega (arith, t, d, le)

-- ---- the WRITE

-- what is cut out of a row from its first to its last byte that isn't 0
pub record IsCutOf (m : RawMap) (p : Piece) (bytes : List ℕ) (x : Command) : Type 0 where
  pub offset : x.offset ≡ offset_of m p.stripe p.column + first_unlike bytes (replicate p.count 0)
  pub payload : x.payload
      ≡ slice_range bytes (first_unlike bytes (replicate p.count 0)) (end_of bytes (replicate p.count 0))

module _ (s : State) (m : RawMap) (tag : ℕ) (layout : s.layout ≡ layout_of m tag) (k : ℕ) (p : Piece) (bytes : List ℕ)
    (within : IsWithin m.unit p) (long : length bytes ≤ p.count)
    (words : AreWordsOf m p.stripe p.column p.count k (byte_before s s.count) bytes) (x : Command)
    (cut : IsCutOf m p bytes x) where
  a : ℕ
  a = first_unlike bytes (replicate p.count 0)

  b : ℕ
  b = end_of bytes (replicate p.count 0)

  size : length x.payload ≡ end_of bytes (replicate p.count 0) - first_unlike bytes (replicate p.count 0)
  size =
      ap length cut.payload
      ∙ cut_long bytes (first_unlike bytes (replicate p.count 0)) (end_of bytes (replicate p.count 0))
      (end_inside bytes (replicate p.count 0))

  -- it has the words
  pub cut_words : AreWords s (byte_before s s.count) k x.offset x.payload
  cut_words i low =
      let first : ℕ = first_unlike bytes (replicate p.count 0) in
      let inside : i < end_of bytes (replicate p.count 0) - first_unlike bytes (replicate p.count 0) = omega (arith, low, size) in
      let last = end_inside bytes (replicate p.count 0) in
      let j : first + i < p.count = omega (arith, inside, last, long) in
      let place : offset_of m p.stripe (p.column + (first + i)) ≡ x.offset + i = omega (arith, cut.offset) in
      ap (λ (ys : List ℕ). slice_index ys i) cut.payload
      ∙ at_cut bytes (first_unlike bytes (replicate p.count 0)) (end_of bytes (replicate p.count 0)) i inside
      ∙ words (first + i) (omega (arith, j, within)) j
      ∙ ap (λ (z : ℕ). word_in m k z (byte_before s s.count)) place
      ∙ sym (ap (λ (y : machine.Layout). y.word k (x.offset + i) (byte_before s s.count)) layout)

  -- and leaves out only zeros
  pub cut_has_all : IsChecked m → k < m.comps → HasAllOf s m p k x
  cut_has_all checked below z has =
      let r = cell_in m p k z checked below has in
      let zero_word : slice_index bytes r.0 ≡ 0 → word_now s k z ≡ 0 = λ e.
      ap (λ (y : machine.Layout). y.word k z (byte_before s s.count)) layout
      ∙ ap (λ (n : ℕ). word_in m k n (byte_before s s.count)) r.3 ∙ sym (words r.0 r.2 r.1) ∙ e in
      elim (cases_lt r.0 (first_unlike bytes (replicate p.count 0))) [
        | inl ahead ↦ inr (zero_word (ahead_zero bytes p.count r.0 ahead))
        | inr from ↦ elim (cases_lt r.0 (end_of bytes (replicate p.count 0))) [
          | inl inside ↦ inl (omega (arith, cut.offset, r.3, from), omega (arith, cut.offset, r.3, size, inside, from))
          | inr past ↦ inr (zero_word (behind_zero bytes p.count 0 0 r.0 (omega arith) (omega (arith, past)) r.1))
        ]
      ]

-- where a row differs from zeros, the last byte that does isn't 0
last_some : (bytes : List ℕ) (count i end : ℕ) →
    (end_unlike bytes (replicate count 0) i end ≡ end)
    ⊎ ((n : ℕ) × (end_unlike bytes (replicate count 0) i end ≡ i + n + 1) × (slice_index bytes n ≡ 0 → ⊥))
unfolding end_unlike
last_some [] count i end = inl refl
last_some (x ∷ xs) zero i end = inl refl
last_some (x ∷ xs) (suc n) i end = elim (cases_eq x 0) [
  | inl same ↦ rw (eq-eqb x 0 same) (elim (last_some xs n (i + 1) end) [
    | inl none ↦ inl none
    | inr r ↦ inr (suc r.0, omega (arith, r.1), r.2)
  ])
  | inr other ↦ rw (ne_eqb x 0 other) (elim (last_some xs n (i + 1) (i + 1)) [
    | inl none ↦ inr (0, omega (arith, none), other)
    | inr r ↦ inr (suc r.0, omega (arith, r.1), r.2)
  ])
]

-- what is cut out of a row that isn't of zeros ends in a byte that isn't 0
pub cut_ends : (bytes : List ℕ) (count : ℕ) → nat_lt 0 (end_of bytes (replicate count 0)) ≡ true →
    EndsInSome (slice_range bytes (first_unlike bytes (replicate count 0)) (end_of bytes (replicate count 0)))
cut_ends bytes count some = by_last (last_some bytes count 0 0)
  where
    zeros : List ℕ
    zeros = replicate count 0

    none : end_of bytes zeros ≡ 0 → ⊥
    none e = cc (sym (ap (nat_lt 0) e) ∙ some)

    by_last : (end_of bytes zeros ≡ 0)
        ⊎ ((n : ℕ) × (end_of bytes zeros ≡ 0 + n + 1) × (slice_index bytes n ≡ 0 → ⊥)) →
        EndsInSome (slice_range bytes (first_unlike bytes zeros) (end_of bytes zeros))
    by_last (inl e) = absurd (none e)
    by_last (inr (n, e, other)) = elim (behind_from bytes zeros 0 0) [
      | inl zero_end ↦ absurd (none zero_end)
      | inr more ↦
          let long = cut_long bytes (first_unlike bytes zeros) (end_of bytes zeros) (end_inside bytes zeros) in
          let at : first_unlike bytes zeros + (n - first_unlike bytes zeros) ≡ n = omega (arith, more, e) in (
            n - first_unlike bytes zeros,
            omega (arith, long, more, e),
            λ none_there. other (ap (slice_index bytes) (sym at)
                ∙ sym (at_cut bytes (first_unlike bytes zeros) (end_of bytes zeros) (n - first_unlike bytes zeros)
                (omega (arith, more, e))) ∙ none_there),
          )
    ]
