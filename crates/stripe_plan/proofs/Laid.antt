-- Bytes that were laid over others.
use Rattle.std.proofs.Common.{◌≡◌, ℕ, ◌+◌, ◌-◌, ◌<◌, ◌≤◌, List, [], ◌∷◌, ◌++◌, length, get_or, take, drop, refl, sym, ap, ◌∙◌, arith, inl, inr}
use Rattle.std.specs.Prelude.{min, max, replicate}
use Rattle.std.proofs.lemmas.Bool.{cases_lt, lt-ltb, le-ltb, le-leb, lt-leb, eq-eqb, ne_eqb}
use Rattle.std.proofs.lemmas.List.{length-append, get_or_append_left, get_or-append_right, get_or-take, get_or-drop, get_or-replicate, length-take-le, length-drop, length-replicate}
use Rattle.std.proofs.lemmas.List.FromFn.{length-map-range_with_len, get_or-map-range_with_len}
use Rattle.std.proofs.lemmas.Grind.{same_number_lists}
use Rattle.stripe_plan.specs.declared.plan.Column.{Column}
use Rattle.stripe_plan.specs.Words.{byte_over, byte_at, bytes_at, laid_at, Laid, LaidColumn}

-- the bytes of a part that is written over the middle, of those before it and of those behind it
pub put_before : (old part : List ℕ) (a k : ℕ) → a + length part ≤ length old → k < a →
    get_or (take a old ++ (part ++ drop (a + length part) old)) k 0 ≡ get_or old k 0
put_before old part a k room lt =
    get_or_append_left (take a old) (part ++ drop (a + length part) old) 0 k
    (omega (arith, lt, length-take-le a old (omega (arith, room)))) ∙ get_or-take a old k 0 lt

pub put_in : (old part : List ℕ) (a k : ℕ) → a + length part ≤ length old → a ≤ k → k < a + length part →
    get_or (take a old ++ (part ++ drop (a + length part) old)) k 0 ≡ get_or part (k - a) 0
put_in old part a k room le lt =
    get_or-append_right (take a old) (part ++ drop (a + length part) old) a k 0 (length-take-le a old (omega (arith, room))) le
    ∙ get_or_append_left part (drop (a + length part) old) 0 (k - a) (omega (arith, le, lt))

pub put_behind : (old part : List ℕ) (a k : ℕ) → a + length part ≤ length old → a + length part ≤ k →
    get_or (take a old ++ (part ++ drop (a + length part) old)) k 0 ≡ get_or old k 0
put_behind old part a k room le =
    let at : a + length part + (k - a - length part) ≡ k = omega (arith, le) in
    get_or-append_right (take a old) (part ++ drop (a + length part) old) a k 0 (length-take-le a old (omega (arith, room)))
    (omega (arith, le))
    ∙ get_or-append_right part (drop (a + length part) old) (length part) (k - a) 0 refl (omega (arith, le))
    ∙ get_or-drop (a + length part) old (k - a - length part) 0 ∙ ap (λ (z : ℕ). get_or old z 0) at

laid_long : (old part : List ℕ) (a : ℕ) → a + length part ≤ length old →
    length (take a old ++ (part ++ drop (a + length part) old)) ≡ length old
laid_long old part a room =
    omega (
      arith,
      length-append (take a old) (part ++ drop (a + length part) old),
      length-append part (drop (a + length part) old),
      length-take-le a old (omega (arith, room)),
      length-drop (a + length part) old,
      room,
    )

-- where the bytes and the buffer meet, from start to end
laid_part : (offset from start end : ℕ) (bytes old part : List ℕ) (k : ℕ) → start ≡ max offset from →
    end ≡ min (offset + length old) (from + length bytes) → start < end → k < length old →
    part ≡ take (end - start) (drop (start - from) bytes) →
    get_or (take (start - offset) old ++ (part ++ drop (start - offset + length part) old)) k 0 ≡ laid_at from bytes (offset + k)
    (get_or old k 0)
unfolding laid_at
laid_part offset from start end bytes old part k is_start is_end lt k_lt is_part =
    let long : length part ≡ end - start =
    ap length is_part
    ∙ length-take-le (end - start) (drop (start - from) bytes)
    (omega (arith, length-drop (start - from) bytes, is_start, is_end, lt)) in
    let room : start - offset + length part ≤ length old = omega (arith, long, is_start, is_end, lt) in
    elim (cases_lt (offset + k) from) [
      | inl before ↦ rw (lt-leb from (offset + k) before)
          (put_before old part (start - offset) k room (omega (arith, before, is_start)))
      | inr after ↦ elim (cases_lt (offset + k) (from + length bytes)) [
        | inl inside ↦
            let at : start - from + (k - (start - offset)) ≡ offset + k - from = omega (arith, is_start, after) in
            rw (le-leb from (offset + k) after, lt-ltb (offset + k) (from + length bytes) inside)
            (put_in old part (start - offset) k room (omega (arith, is_start, after))
            (omega (arith, long, is_start, is_end, lt, inside, k_lt))
            ∙ ap (λ (xs : List ℕ). get_or xs (k - (start - offset)) 0) is_part
            ∙ get_or-take (end - start) (drop (start - from) bytes) (k - (start - offset)) 0
            (omega (arith, is_start, is_end, lt, inside, after, k_lt))
            ∙ get_or-drop (start - from) bytes (k - (start - offset)) 0 ∙ ap (λ (z : ℕ). get_or bytes z 0) at)
        | inr past ↦ rw (le-leb from (offset + k) after, le-ltb (offset + k) (from + length bytes) past)
            (put_behind old part (start - offset) k room (omega (arith, long, is_start, is_end, lt, past)))
      ]
    ]

-- where they don't meet
laid_none : (offset from start end : ℕ) (bytes old : List ℕ) (k : ℕ) → start ≡ max offset from →
    end ≡ min (offset + length old) (from + length bytes) → end ≤ start → k < length old →
    get_or old k 0 ≡ laid_at from bytes (offset + k) (get_or old k 0)
unfolding laid_at
laid_none offset from start end bytes old k is_start is_end le k_lt = elim (cases_lt (offset + k) from) [
  | inl before ↦ rw (lt-leb from (offset + k) before) refl
  | inr after ↦ elim (cases_lt (offset + k) (from + length bytes)) [
    | inl inside ↦ absurd (omega (arith, is_start, is_end, le, k_lt, after, inside))
    | inr past ↦ rw (le-leb from (offset + k) after, le-ltb (offset + k) (from + length bytes) past) refl
  ]
]

pub laid_all : (offset from start end : ℕ) (bytes old part new : List ℕ) → start ≡ max offset from →
    end ≡ min (offset + length old) (from + length bytes) → start < end →
    part ≡ take (end - start) (drop (start - from) bytes) →
    new ≡ take (start - offset) old ++ (part ++ drop (start - offset + length part) old) → Laid offset from bytes old new
laid_all offset from start end bytes old part new is_start is_end lt is_part is_new =
    let long : length part ≡ end - start =
    ap length is_part
    ∙ length-take-le (end - start) (drop (start - from) bytes)
    (omega (arith, length-drop (start - from) bytes, is_start, is_end, lt)) in
    record {
      long = ap length is_new ∙ laid_long old part (start - offset) (omega (arith, long, is_start, is_end, lt));
      each = λ k k_lt. ap (λ (xs : List ℕ). get_or xs k 0) is_new
          ∙ laid_part offset from start end bytes old part k is_start is_end lt k_lt is_part;
    }

pub laid_not : (offset from start end : ℕ) (bytes old : List ℕ) → start ≡ max offset from →
    end ≡ min (offset + length old) (from + length bytes) → end ≤ start → Laid offset from bytes old old
laid_not offset from start end bytes old is_start is_end le =
    record { long = refl; each = λ k lt. laid_none offset from start end bytes old k is_start is_end le lt }

-- a column of the position, and one of another
pub laid_column : (c : Column) (p offset : ℕ) (old new : List ℕ) → c.position ≡ p → Laid offset c.offset c.bytes old new →
    LaidColumn p offset c old new
unfolding laid_at
laid_column c p offset old new same laid =
    record { long = laid.long; each = λ k lt. rw (eq-eqb c.position p same) (laid.each k lt) }

pub other_column : (c : Column) (p offset : ℕ) (old : List ℕ) → (c.position ≡ p → ⊥) → LaidColumn p offset c old old
other_column c p offset old other = record { long = refl; each = λ k lt. rw (ne_eqb c.position p other) refl }

-- with all columns laid, from the last to the first
pub record Filled (cols : List Column) (p offset n : ℕ) (bytes : List ℕ) : Type 0 where
  pub long : length bytes ≡ n
  pub each : (k : ℕ) → k < n → get_or bytes k 0 ≡ byte_at cols p (offset + k)

pub none_filled : (p offset n : ℕ) → Filled [] p offset n (replicate n 0)
unfolding byte_at
none_filled p offset n = record { long = length-replicate n 0; each = λ k lt. get_or-replicate n k 0 0 lt }

pub one_filled : (c : Column) (cols : List Column) (p offset n : ℕ) (old new : List ℕ) → Filled cols p offset n old →
    LaidColumn p offset c old new → Filled (c ∷ cols) p offset n new
unfolding byte_at
one_filled c cols p offset n old new f l = record {
  long = l.long ∙ f.long;
  each = λ k lt. l.each k (omega (arith, lt, f.long)) ∙ ap (byte_over c p (offset + k)) (f.each k lt);
}

pub all_filled : (cols : List Column) (p offset n : ℕ) (bytes : List ℕ) → Filled cols p offset n bytes →
    bytes ≡ bytes_at cols p offset n
all_filled cols p offset n bytes f =
    same_number_lists bytes (bytes_at cols p offset n) (f.long ∙ sym (length-map-range_with_len (byte_at cols p) offset n))
    (λ k lt. f.each k (omega (arith, lt, f.long))
    ∙ sym (get_or-map-range_with_len (byte_at cols p) offset n k (offset + k) 0 (omega (arith, lt, f.long)) refl))
