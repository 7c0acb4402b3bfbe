-- Parity that is changed unit by unit.
use Rattle.std.proofs.Common.{◌≡◌, ℕ, zero, suc, ◌+◌, ◌-◌, ◌<◌, ◌≤◌, List, [], ◌∷◌, ◌++◌, length, get_or, take, drop, map, refl, sym, ap, ◌∙◌, arith, inl, inr}
use Rattle.std.specs.Prelude.{◌⊎◌, min, max, bit_xor, Option, Some, None}
use Rattle.std.specs.List.{range_with_len}
use Rattle.std.proofs.lemmas.Bool.{cases_lt, lt-ltb, le-ltb, le-leb, lt-leb}
use Rattle.std.proofs.lemmas.List.{get_or-take, get_or-drop, length-take-le, length-drop}
use Rattle.std.proofs.lemmas.List.FromFn.{length-map-range_with_len, get_or-map-range_with_len}
use Rattle.std.proofs.lemmas.Grind.{same_number_lists}
use Rattle.std.proofs.lemmas.Simd.{length-zip2, get_or-zip2}
use Rattle.std.proofs.Math.Seq.{drop-drop}
use borrow.Rule.Slice.PartMut.{mid_of, put_mid}
use Rattle.parity_code.specs.declared.code.Code.{Code}
use Rattle.parity_code.specs.declared.code.Code.TheVariants.{Plain, Xor, PandQ}
use Rattle.parity_code.specs.Codeword.{count_of}
use Rattle.parity_code.specs.Delta.{p_after, q_after}
use Rattle.data_map.specs.declared.check.RawMap.{RawMap}
use Rattle.data_map.specs.Striping.{data_units, parities, position_of, offset_of}
use Rattle.gf256.specs.Field.{product, two_to, added, summed}
use Rattle.stripe_plan.specs.declared.plan.Span.{Span}
use Rattle.stripe_plan.specs.declared.plan.Interval.{Interval}
use Rattle.stripe_plan.specs.declared.plan.Column.{Column}
use Rattle.stripe_plan.specs.Touched.{end_of, unit_start, own}
use Rattle.stripe_plan.specs.Parity.{p_exchanged, q_exchanged, p_changed, q_changed}
use Rattle.stripe_plan.specs.Words.{byte_at, got_at, got_in, known_from, new_at, news_from, news_at}
use Rattle.stripe_plan.specs.Encoded.{Exchanged, one_changed, UnitChanged, changed_parity, HasParity}
use Rattle.stripe_plan.proofs.Laid.{put_before, put_in, put_behind}
use Rattle.stripe_plan.proofs.WriteLaws.{none_out}

-- ---- a part of the parity

-- two changes of equal lists, byte by byte
twice_p : (x old new : List ℕ) (k : ℕ) → length old ≡ length x → length new ≡ length x → k < length x →
    get_or (summed (summed x old) new) k 0 ≡ p_exchanged (get_or x k 0) (get_or old k 0) (get_or new k 0)
twice_p x old new k long longer lt =
    get_or-zip2 bit_xor (summed x old) new k 0 0 0 (omega (arith, length-zip2 bit_xor x old, long, lt))
    (omega (arith, longer, lt))
    ∙ ap (λ (z : ℕ). bit_xor z (get_or new k 0)) (get_or-zip2 bit_xor x old k 0 0 0 lt (omega (arith, long, lt)))

twice_q : (c : ℕ) (x old new : List ℕ) (k : ℕ) → length old ≡ length x → length new ≡ length x → k < length x →
    get_or (added (two_to c) (added (two_to c) x old) new) k 0 ≡ q_exchanged c (get_or x k 0) (get_or old k 0) (get_or new k 0)
twice_q c x old new k long longer lt =
    get_or-zip2 (λ (o s : ℕ). bit_xor o (product (two_to c) s)) (added (two_to c) x old) new k 0 0 0
    (omega (arith, length-zip2 (λ (o s : ℕ). bit_xor o (product (two_to c) s)) x old, long, lt)) (omega (arith, longer, lt))
    ∙ ap (λ (z : ℕ). bit_xor z (product (two_to c) (get_or new k 0)))
    (get_or-zip2 (λ (o s : ℕ). bit_xor o (product (two_to c) s)) x old k 0 0 0 lt (omega (arith, long, lt)))

-- a part that was exchanged
part_exchanged : (f : (x old new : ℕ) → ℕ) (at : ℕ) (old new x part : List ℕ) → at + length old ≤ length x →
    length part ≡ length old →
    ((k : ℕ) → k < length old →
    get_or part k 0 ≡ f (get_or (take (length old) (drop at x)) k 0) (get_or old k 0) (get_or new k 0)) →
    Exchanged f at old new x (take at x ++ (part ++ drop (at + length part) x))
part_exchanged f at old new x part room long each =
    let fits : at + length part ≤ length x = omega (arith, long, room) in
    record {
      inside = λ k lt.
          let back : at + k - at ≡ k = omega arith in
          put_in x part at (at + k) fits (omega arith) (omega (arith, lt, long)) ∙ ap (λ (z : ℕ). get_or part z 0) back
          ∙ each k lt
          ∙ ap (λ (z : ℕ). f z (get_or old k 0) (get_or new k 0))
          (get_or-take (length old) (drop at x) k 0 lt ∙ get_or-drop at x k 0);
      before = λ k lt. put_before x part at k fits lt;
      behind = λ k le. put_behind x part at k fits (omega (arith, le, long));
    }

-- a part in the middle, as it is written back
middle : (at : ℕ) (old x y : List ℕ) → length y ≡ length old →
    put_mid at (at + length old - at) x y ≡ take at x ++ (y ++ drop (at + length y) x)
middle at old x y long =
    let n : at + length old - at ≡ length old = omega arith in
    let e : at + length old ≡ at + length y = omega (arith, long) in
    ap (λ (k : ℕ). take at x ++ (y ++ drop k (drop at x))) n
    ∙ ap (λ (zs : List ℕ). take at x ++ (y ++ zs)) (drop-drop (length old) at x ∙ ap (λ (k : ℕ). drop k x) e)

p_is : (code : Code) (old new x : List ℕ) → 0 < count_of code → p_after code old new x ≡ summed (summed x old) new
p_is Plain old new x some = absurd (omega (arith, some))
p_is Xor old new x some = refl
p_is PandQ old new x some = refl

q_is : (code : Code) (c : ℕ) (old new x : List ℕ) → 1 < count_of code →
    q_after code c old new x ≡ added (two_to c) (added (two_to c) x old) new
q_is Plain c old new x some = absurd (omega (arith, some))
q_is Xor c old new x some = absurd (omega (arith, some))
q_is PandQ c old new x some = refl

part_long : (at n : ℕ) (x : List ℕ) → at + n ≤ length x → length (take n (drop at x)) ≡ n
part_long at n x room = length-take-le n (drop at x) (omega (arith, room, length-drop at x))

pub p_part : (code : Code) (at : ℕ) (old new x y : List ℕ) → 0 < count_of code → at + length old ≤ length x →
    length new ≡ length old → y ≡ p_after code old new (mid_of at (at + length old - at) x) →
    Exchanged p_exchanged at old new x (put_mid at (at + length old - at) x y)
p_part code at old new x y some room same is =
    let n : at + length old - at ≡ length old = omega arith in
    let sub = part_long at (length old) x room in
    let is_y : y ≡ summed (summed (take (length old) (drop at x)) old) new =
    is ∙ p_is code old new _ some ∙ ap (λ (k : ℕ). summed (summed (take k (drop at x)) old) new) n in
    let long : length y ≡ length old =
    ap length is_y
    ∙ omega (
      arith,
      length-zip2 bit_xor (summed (take (length old) (drop at x)) old) new,
      length-zip2 bit_xor (take (length old) (drop at x)) old,
      sub,
      same,
    ) in
    rw (middle at old x y long) (part_exchanged p_exchanged at old new x y room long
    (λ k lt. ap (λ (zs : List ℕ). get_or zs k 0) is_y
    ∙ twice_p (take (length old) (drop at x)) old new k (sym sub) (same ∙ sym sub) (omega (arith, lt, sub))))

pub q_part : (code : Code) (c at : ℕ) (old new x y : List ℕ) → 1 < count_of code → at + length old ≤ length x →
    length new ≡ length old → y ≡ q_after code c old new (mid_of at (at + length old - at) x) →
    Exchanged (q_exchanged c) at old new x (put_mid at (at + length old - at) x y)
q_part code c at old new x y some room same is =
    let f : ℕ → ℕ → ℕ = λ o s. bit_xor o (product (two_to c) s) in
    let n : at + length old - at ≡ length old = omega arith in
    let sub = part_long at (length old) x room in
    let is_y : y ≡ added (two_to c) (added (two_to c) (take (length old) (drop at x)) old) new =
    is ∙ q_is code c old new _ some ∙ ap (λ (k : ℕ). added (two_to c) (added (two_to c) (take k (drop at x)) old) new) n in
    let long : length y ≡ length old =
    ap length is_y
    ∙ omega (
      arith,
      length-zip2 f (added (two_to c) (take (length old) (drop at x)) old) new,
      length-zip2 f (take (length old) (drop at x)) old,
      sub,
      same,
    ) in
    rw (middle at old x y long) (part_exchanged (q_exchanged c) at old new x y room long
    (λ k lt. ap (λ (zs : List ℕ). get_or zs k 0) is_y
    ∙ twice_q c (take (length old) (drop at x)) old new k (sym sub) (same ∙ sym sub) (omega (arith, lt, sub))))

-- ---- one unit

pub own_first : (m : RawMap) (r : Span) (s c : ℕ) (i : Interval) → i ≡ own m r s c →
    i.first ≡ max r.offset (unit_start m s c) - unit_start m s c
unfolding own
own_first m r s c i is = ap (λ (j : Interval). j.first) is

pub own_end : (m : RawMap) (r : Span) (s c : ℕ) (i : Interval) → i ≡ own m r s c →
    i.end ≡ min (end_of r) (unit_start m s c + m.unit) - unit_start m s c
unfolding own
own_end m r s c i is = ap (λ (j : Interval). j.end) is

-- a byte of the range's own columns is new, and no other
pub new_inside : (m : RawMap) (r : Span) (bytes : List ℕ) (s b c : ℕ) (i : Interval) → i ≡ own m r s c → i.first ≤ b → b < i.end →
    new_at m r bytes s b c ≡ Some (get_or bytes (unit_start m s c + b - r.offset) 0)
unfolding new_at
new_inside m r bytes s b c i is le lt =
    let first : (own m r s c).first ≤ b = rw is at le in
    let end : b < (own m r s c).end = rw is at lt in
    rw (le-leb (own m r s c).first b first, lt-ltb b (own m r s c).end end) refl

pub new_outside : (m : RawMap) (r : Span) (bytes : List ℕ) (s b c : ℕ) (i : Interval) → i ≡ own m r s c →
    (b < i.first) ⊎ (i.end ≤ b) → new_at m r bytes s b c ≡ None
unfolding new_at
new_outside m r bytes s b c i is (inl lt) = let first : b < (own m r s c).first = rw is at lt in
    rw (lt-leb (own m r s c).first b first) refl
new_outside m r bytes s b c i is (inr le) =
    let end : (own m r s c).end ≤ b = rw is at le in
    elim (cases_lt b (own m r s c).first) [
      | inl before ↦ rw (lt-leb (own m r s c).first b before) refl
      | inr from ↦ rw (le-leb (own m r s c).first b from, le-ltb b (own m r s c).end end) refl
    ]

-- parity of these columns, of which those in both intervals were exchanged
pub unit_changed : (m : RawMap) (r : Span) (bytes : List ℕ) (got : List Column) (s c row : ℕ) (i both mine : Interval)
    (f : (x old new : ℕ) → ℕ) (old new x y : List ℕ) →
    mine ≡ own m r s c → both.first ≡ max mine.first i.first → both.end ≡ min mine.end i.end → both.first < both.end →
    old ≡ got_in m got s c both → new ≡ take (both.end - both.first) (drop (unit_start m s c + both.first - r.offset) bytes) →
    Exchanged f (both.first - i.first) old new x y →
    ((v o z : ℕ) → one_changed row c (Some v) o z ≡ f z o v) → ((o z : ℕ) → one_changed row c None o z ≡ z) →
    UnitChanged m r bytes got s c row i x y
unit_changed m r bytes got s c row i both mine f old new x y is first end lt is_old is_new e does keeps = λ k k_lt.
    let b : ℕ = i.first + k in
    let at : ℕ = both.first - i.first in
    let mine_first = own_first m r s c mine is in
    let long : length old ≡ both.end - both.first =
    ap length is_old
    ∙ length-map-range_with_len (byte_at got (position_of m s c)) (offset_of m s both.first) (both.end - both.first) in
    let same : new_at m r bytes s b c ≡ None → get_or y k 0 ≡ get_or x k 0 →
    get_or y k 0 ≡ one_changed row c (new_at m r bytes s b c) (got_at m got s b c) (get_or x k 0) =
    λ none kept. kept
    ∙ sym (ap (λ (n : Option ℕ). one_changed row c n (got_at m got s b c) (get_or x k 0)) none
    ∙ keeps (got_at m got s b c) (get_or x k 0)) in
    elim (cases_lt b both.first) [
      | inl before ↦ same (new_outside m r bytes s b c mine is (inl (omega (arith, before, first))))
          (e.before k (omega (arith, before)))
      | inr from ↦ elim (cases_lt b both.end) [
        | inl inside ↦
            let j : ℕ = b - both.first in
            let here : at + j ≡ k = omega (arith, from, first) in
            let j_lt : j < length old = omega (arith, long, inside, from) in
            let o : get_or old j 0 ≡ got_at m got s b c =
            ap (λ (xs : List ℕ). get_or xs j 0) is_old
            ∙ get_or-map-range_with_len (byte_at got (position_of m s c)) (offset_of m s both.first) (both.end - both.first) j
            (offset_of m s b) 0 (omega (arith, long, j_lt)) (omega (arith, from)) in
            let place : unit_start m s c + both.first - r.offset + j ≡ unit_start m s c + b - r.offset =
            omega (arith, from, first, mine_first) in
            let v : get_or new j 0 ≡ get_or bytes (unit_start m s c + b - r.offset) 0 =
            ap (λ (xs : List ℕ). get_or xs j 0) is_new
            ∙ get_or-take (both.end - both.first) (drop (unit_start m s c + both.first - r.offset) bytes) j 0
            (omega (arith, long, j_lt))
            ∙ get_or-drop (unit_start m s c + both.first - r.offset) bytes j 0 ∙ ap (λ (z : ℕ). get_or bytes z 0) place in
            ap (λ (z : ℕ). get_or y z 0) (sym here) ∙ e.inside j j_lt
            ∙ ap (λ (z : ℕ). f (get_or x z 0) (get_or old j 0) (get_or new j 0)) here
            ∙ ap (λ (z : ℕ). f (get_or x k 0) z (get_or new j 0)) o ∙ ap (λ (z : ℕ). f (get_or x k 0) (got_at m got s b c) z) v
            ∙ sym (ap (λ (n : Option ℕ). one_changed row c n (got_at m got s b c) (get_or x k 0))
            (new_inside m r bytes s b c mine is (omega (arith, from, first)) (omega (arith, inside, end)))
            ∙ does (get_or bytes (unit_start m s c + b - r.offset) 0) (got_at m got s b c) (get_or x k 0))
        | inr past ↦ same (new_outside m r bytes s b c mine is (inr (omega (arith, past, end, k_lt))))
            (e.behind k (omega (arith, past, long, first, lt)))
      ]
    ]

pub unit_same : (m : RawMap) (r : Span) (bytes : List ℕ) (got : List Column) (s c row : ℕ) (i both mine : Interval) (x : List ℕ) →
    mine ≡ own m r s c → both.first ≡ max mine.first i.first → both.end ≡ min mine.end i.end → both.end ≤ both.first →
    ((o z : ℕ) → one_changed row c None o z ≡ z) → UnitChanged m r bytes got s c row i x x
unit_same m r bytes got s c row i both mine x is first end le keeps = λ k k_lt.
    let b : ℕ = i.first + k in
    let none : new_at m r bytes s b c ≡ None = elim (cases_lt b mine.first) [
      | inl before ↦ new_outside m r bytes s b c mine is (inl before)
      | inr from ↦ elim (cases_lt b mine.end) [
        | inl inside ↦ absurd (omega (arith, inside, from, first, end, le, k_lt))
        | inr past ↦ new_outside m r bytes s b c mine is (inr past)
      ]
    ] in
    sym (ap (λ (n : Option ℕ). one_changed row c n (got_at m got s b c) (get_or x k 0)) none
    ∙ keeps (got_at m got s b c) (get_or x k 0))

-- ---- all units

p_one : (n : Option ℕ) (ns : List (Option ℕ)) (o : ℕ) (os : List ℕ) (x : ℕ) →
    p_changed ns os (p_changed (n ∷ []) (o ∷ []) x) ≡ p_changed (n ∷ ns) (o ∷ os) x
p_one None ns o os x = refl
p_one (Some v) ns o os x = refl

q_one : (c : ℕ) (n : Option ℕ) (ns : List (Option ℕ)) (o : ℕ) (os : List ℕ) (x : ℕ) →
    q_changed (c + 1) ns os (q_changed c (n ∷ []) (o ∷ []) x) ≡ q_changed c (n ∷ ns) (o ∷ os) x
q_one c None ns o os x = refl
q_one c (Some v) ns o os x = refl

-- P and Q after the first u units' changes: with those of the rest they are the parity that is wanted
pub record Delta (m : RawMap) (r : Span) (bytes : List ℕ) (got : List Column) (s : ℕ) (i : Interval) (u : ℕ)
    (ps qs : List ℕ) : Type 0 where
  pub p_long : length ps ≡ i.end - i.first
  pub q_long : length qs ≡ i.end - i.first
  pub p : (k : ℕ) → k < i.end - i.first →
      p_changed (news_from m r bytes s (i.first + k) u (data_units m - u))
      (known_from m got [] s (i.first + k) u (data_units m - u)) (get_or ps k 0) ≡ changed_parity m r bytes got s
      (i.first + k) 0
  pub q : 1 < parities m → (k : ℕ) → k < i.end - i.first →
      q_changed u (news_from m r bytes s (i.first + k) u (data_units m - u))
      (known_from m got [] s (i.first + k) u (data_units m - u)) (get_or qs k 0) ≡ changed_parity m r bytes got s
      (i.first + k) 1

pub got_long : (m : RawMap) (got : List Column) (s c : ℕ) (i : Interval) → length (got_in m got s c i) ≡ i.end - i.first
got_long m got s c i = length-map-range_with_len (byte_at got (position_of m s c)) (offset_of m s i.first) (i.end - i.first)

got_byte : (m : RawMap) (got : List Column) (s c k : ℕ) (i : Interval) → k < i.end - i.first →
    get_or (got_in m got s c i) k 0 ≡ got_at m got s (i.first + k) c
got_byte m got s c k i lt =
    get_or-map-range_with_len (byte_at got (position_of m s c)) (offset_of m s i.first) (i.end - i.first) k
    (offset_of m s (i.first + k)) 0 lt (omega arith)

pub delta_init : (m : RawMap) (r : Span) (bytes : List ℕ) (got : List Column) (s : ℕ) (i : Interval) (p q : List ℕ) →
    p ≡ got_in m got s (data_units m) i → length q ≡ i.end - i.first →
    (1 < parities m → q ≡ got_in m got s (data_units m + 1) i) → Delta m r bytes got s i 0 p q
delta_init m r bytes got s i p q is_p q_long is_q =
    let all : data_units m - 0 ≡ data_units m = omega arith in
    let none : data_units m + 0 ≡ data_units m = omega arith in
    record {
      p_long = ap length is_p ∙ got_long m got s (data_units m) i;
      q_long = q_long;
      p = λ k lt. rw (all, none)
          (ap (p_changed (news_at m r bytes s (i.first + k)) (known_from m got [] s (i.first + k) 0 (data_units m)))
          (ap (λ (xs : List ℕ). get_or xs k 0) is_p ∙ got_byte m got s (data_units m) k i lt));
      q = λ two k lt. rw all
          (ap (q_changed 0 (news_at m r bytes s (i.first + k)) (known_from m got [] s (i.first + k) 0 (data_units m)))
          (ap (λ (xs : List ℕ). get_or xs k 0) (is_q two) ∙ got_byte m got s (data_units m + 1) k i lt));
    }

pub delta_step : (m : RawMap) (r : Span) (bytes : List ℕ) (got : List Column) (s : ℕ) (i : Interval) (u : ℕ)
    (p q p2 q2 : List ℕ) → u < data_units m → Delta m r bytes got s i u p q →
    length p2 ≡ length p → length q2 ≡ length q → UnitChanged m r bytes got s u 0 i p p2 →
    (1 < parities m → UnitChanged m r bytes got s u 1 i q q2) → Delta m r bytes got s i (u + 1) p2 q2
unfolding news_from known_from
delta_step m r bytes got s i u p q p2 q2 lt d p_long q_long cp cq =
    let more : data_units m - u ≡ suc (data_units m - (u + 1)) = omega (arith, lt) in
    record {
      p_long = p_long ∙ d.p_long;
      q_long = q_long ∙ d.q_long;
      p = λ k k_lt.
          let b : ℕ = i.first + k in
          let ns = news_from m r bytes s b (u + 1) (data_units m - (u + 1)) in
          let os = known_from m got [] s b (u + 1) (data_units m - (u + 1)) in
          ap (p_changed ns os) (cp k k_lt) ∙ p_one (new_at m r bytes s b u) ns (got_at m got s b u) os (get_or p k 0)
          ∙ rw (more, none_out m (position_of m s u)) at (d.p k k_lt);
      q = λ two k k_lt.
          let b : ℕ = i.first + k in
          let ns = news_from m r bytes s b (u + 1) (data_units m - (u + 1)) in
          let os = known_from m got [] s b (u + 1) (data_units m - (u + 1)) in
          ap (q_changed (u + 1) ns os) (cq two k k_lt)
          ∙ q_one u (new_at m r bytes s b u) ns (got_at m got s b u) os (get_or q k 0)
          ∙ rw (more, none_out m (position_of m s u)) at (d.q two k k_lt);
    }

-- with all units' changes it is
p_done : (m : RawMap) (r : Span) (bytes : List ℕ) (got : List Column) (s : ℕ) (i : Interval) (u : ℕ) (p q : List ℕ) →
    data_units m ≤ u → Delta m r bytes got s i u p q →
    p ≡ map (λ (b : ℕ). changed_parity m r bytes got s b 0) (range_with_len i.first (i.end - i.first))
unfolding news_from known_from
p_done m r bytes got s i u p q le d =
    let none : data_units m - u ≡ 0 = omega (arith, le) in
    same_number_lists p _
    (d.p_long ∙ sym (length-map-range_with_len (λ (b : ℕ). changed_parity m r bytes got s b 0) i.first (i.end - i.first)))
    (λ k k_lt.
    let low : k < i.end - i.first = omega (arith, k_lt, d.p_long) in
    rw none at (d.p k low)
    ∙ sym (get_or-map-range_with_len (λ (b : ℕ). changed_parity m r bytes got s b 0) i.first (i.end - i.first) k
    (i.first + k) 0 low refl))

q_done : (m : RawMap) (r : Span) (bytes : List ℕ) (got : List Column) (s : ℕ) (i : Interval) (u : ℕ) (p q : List ℕ) →
    data_units m ≤ u → 1 < parities m → Delta m r bytes got s i u p q →
    q ≡ map (λ (b : ℕ). changed_parity m r bytes got s b 1) (range_with_len i.first (i.end - i.first))
unfolding news_from known_from
q_done m r bytes got s i u p q le two d =
    let none : data_units m - u ≡ 0 = omega (arith, le) in
    same_number_lists q _
    (d.q_long ∙ sym (length-map-range_with_len (λ (b : ℕ). changed_parity m r bytes got s b 1) i.first (i.end - i.first)))
    (λ k k_lt.
    let low : k < i.end - i.first = omega (arith, k_lt, d.q_long) in
    rw none at (d.q two k low)
    ∙ sym (get_or-map-range_with_len (λ (b : ℕ). changed_parity m r bytes got s b 1) i.first (i.end - i.first) k
    (i.first + k) 0 low refl))

pub one_row : (m : RawMap) (r : Span) (bytes : List ℕ) (got : List Column) (s : ℕ) (i : Interval) (u : ℕ) (p q : List ℕ)
    (rows : List (List ℕ)) → data_units m ≤ u → parities m ≡ 1 → rows ≡ p ∷ [] →
    Delta m r bytes got s i u p q → HasParity (parities m) i (changed_parity m r bytes got s) rows
one_row m r bytes got s i u p q rows le one is d = rw (is, one) (record {
  enough = omega arith;
  each = λ row lt. let z : row ≡ 0 = omega (arith, lt) in rw z (p_done m r bytes got s i u p q le d);
})

pub two_rows : (m : RawMap) (r : Span) (bytes : List ℕ) (got : List Column) (s : ℕ) (i : Interval) (u : ℕ) (p q : List ℕ)
    (rows : List (List ℕ)) → data_units m ≤ u → parities m ≡ 2 → rows ≡ p ∷ q ∷ [] →
    Delta m r bytes got s i u p q → HasParity (parities m) i (changed_parity m r bytes got s) rows
two_rows m r bytes got s i u p q rows le two is d =
    let more : 1 < parities m = omega (arith, two) in
    rw (is, two)
    (record {
      enough = omega arith;
      each = λ row lt. let z : length (p ∷ q ∷ []) - 2 + row ≡ row = omega arith in
          rw z (pick row lt more);
    })
  where
    pick : (row : ℕ) → row < 2 → 1 < parities m →
        get_or (p ∷ q ∷ []) row [] ≡ map (λ (b : ℕ). changed_parity m r bytes got s b row)
        (range_with_len i.first (i.end - i.first))
    pick zero lt more = p_done m r bytes got s i u p q le d
    pick (suc zero) lt more = q_done m r bytes got s i u p q le more d
    pick (suc (suc row)) lt more = absurd (omega (arith, lt))
