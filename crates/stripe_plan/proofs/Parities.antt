-- The parity of a stripe's columns, in order, as the rows and columns that a write makes of it.
use Rattle.std.proofs.Common.{◌≡◌, ℕ, zero, suc, ◌+◌, ◌-◌, ◌*◌, ◌<◌, ◌≤◌, true, false, List, [], ◌∷◌, ◌++◌, length, get_or, take, drop, map, refl, sym, ap, ◌∙◌, arith, inl, inr}
use Rattle.std.specs.Prelude.{replicate, unwrap_or, Option, None, Ok}
use Rattle.std.specs.List.{range_with_len}
use Rattle.std.proofs.lemmas.Bool.{cases_eq, lt-ltb, le-ltb}
use Rattle.std.proofs.lemmas.List.{length-append, get_or_append_left, get_or-append-add, get_or-take, get_or-drop, length-take-le, length-drop}
use Rattle.std.proofs.lemmas.List.FromFn.{length-map-range_with_len, get_or-map-range_with_len}
use Rattle.std.proofs.lemmas.Grind.{same_number_lists}
use Rattle.data_map.specs.declared.check.RawMap.{RawMap}
use Rattle.data_map.specs.Striping.{group_of, group_width, data_units, offset_of}
use Rattle.data_map.specs.Inverse.{unit_in}
use Rattle.stripe_plan.specs.declared.plan.Span.{Span}
use Rattle.stripe_plan.specs.declared.plan.Interval.{Interval}
use Rattle.stripe_plan.specs.declared.plan.Column.{Column}
use Rattle.stripe_plan.specs.declared.plan.Part.{Part}
use Rattle.stripe_plan.specs.Touched.{stripes, unit_start, own, touches, columns, whole}
use Rattle.stripe_plan.specs.Lost.{is_out, is_degraded, unwritable}
use Rattle.stripe_plan.specs.Asks.{own_columns, changed}
use Rattle.stripe_plan.specs.Parity.{parity_of, overlaid}
use Rattle.stripe_plan.specs.Words.{news_at, decoded_at, parity_at, new_at, word_at}
use Rattle.stripe_plan.specs.Encoded.{changed_parity, encoded_parity, new_in, HasParity, AreParities, parity_column, parity_columns, data_column, data_columns}
use Rattle.stripe_plan.specs.Plans.{columns_of, written_columns, written_place, written_stripe, written, apply_and_encode, Gives}
use Rattle.stripe_plan.proofs.StripeRows.{same_range}
use Rattle.stripe_plan.proofs.Exchanges.{own_first, own_end, new_inside}

-- ---- the three ways to make it

pub by_whole : (m : RawMap) (r : Span) (bytes : List ℕ) (got : List Column) (out : List ℕ) (s b row : ℕ) → whole m r s ≡ true →
    parity_of row (overlaid (news_at m r bytes s b) (replicate (data_units m) 0)) ≡ parity_at m r bytes got out s b row
unfolding parity_at
by_whole m r bytes got out s b row all = rw all refl

pub by_decoding : (m : RawMap) (r : Span) (bytes : List ℕ) (got : List Column) (out : List ℕ) (s b row : ℕ) →
    whole m r s ≡ false → is_degraded m out s ≡ true →
    encoded_parity m r bytes s (decoded_at m got out s) b row ≡ parity_at m r bytes got out s b row
unfolding parity_at
by_decoding m r bytes got out s b row part less = rw (part, less) refl

pub by_change : (m : RawMap) (r : Span) (bytes : List ℕ) (got : List Column) (out : List ℕ) (s b row : ℕ) → whole m r s ≡ false →
    is_degraded m out s ≡ false →
    changed_parity m r bytes got s b row ≡ parity_at m r bytes got out s b row
unfolding parity_at
by_change m r bytes got out s b row part free = rw (part, free) refl

pub has_same : (n : ℕ) (i : Interval) (f g : ℕ → ℕ → ℕ) (rows : List (List ℕ)) → ((b row : ℕ) → f b row ≡ g b row) →
    HasParity n i f rows → HasParity n i g rows
has_same n i f g rows e h = record {
  enough = h.enough;
  each = λ row lt. h.each row lt
      ∙ same_range (λ (b : ℕ). f b row) (λ (b : ℕ). g b row) i.first (i.end - i.first) (λ b le l. e b row);
}

-- ---- one interval more

pub any_default : {A : Type 0} (xs : List A) (k : ℕ) (a b : A) → k < length xs → get_or xs k a ≡ get_or xs k b
any_default [] k a b l = absurd (omega (arith, l))
any_default (x ∷ xs) zero a b l = refl
any_default (x ∷ xs) (suc k) a b l = any_default xs k a b (omega (arith, l))

pub parities_more : (n : ℕ) (is : List Interval) (f : ℕ → ℕ → ℕ) (j : ℕ) (all : List (List (List ℕ))) (rows : List (List ℕ))
    (d : Interval) → j < length is → AreParities n (take j is) f all → HasParity n (get_or is j d) f rows →
    AreParities n (take (j + 1) is) f (all ++ (rows ∷ []))
parities_more n is f j all rows d lt h one =
    let had : length all ≡ j = h.long ∙ length-take-le j is (omega (arith, lt)) in
    record {
      long = length-append all (rows ∷ []) ∙ omega (arith, had) ∙ sym (length-take-le (j + 1) is (omega (arith, lt)));
      each = λ k e k_lt.
          let low : k < j + 1 = omega (arith, k_lt, length-take-le (j + 1) is (omega (arith, lt))) in
          elim (cases_eq k j) [
            | inl same ↦
                let at : k ≡ length all + 0 = omega (arith, same, had) in
                let there : get_or (all ++ (rows ∷ [])) k [] ≡ rows =
                ap (λ (z : ℕ). get_or (all ++ (rows ∷ [])) z []) at ∙ get_or-append-add all (rows ∷ []) 0 [] in
                let here : get_or (take (j + 1) is) k e ≡ get_or is j d =
                get_or-take (j + 1) is k e low ∙ ap (λ (z : ℕ). get_or is z e) same ∙ any_default is j e d lt in
                rw (there, here) one
            | inr other ↦
                let less : k < j = omega (arith, low, other) in
                let there : get_or (all ++ (rows ∷ [])) k [] ≡ get_or all k [] =
                get_or_append_left all (rows ∷ []) [] k (omega (arith, less, had)) in
                let here : get_or (take (j + 1) is) k e ≡ get_or (take j is) k e =
                get_or-take (j + 1) is k e low ∙ sym (get_or-take j is k e less) in
                rw (there, here) (h.each k e (omega (arith, less, had, h.long)))
          ];
    }

-- ---- as columns

pub word_data : (m : RawMap) (r : Span) (bytes : List ℕ) (got : List Column) (out : List ℕ) (s b c : ℕ) → c < data_units m →
    word_at m r bytes got out s b c ≡ unwrap_or (new_at m r bytes s b c) 0
unfolding word_at
word_data m r bytes got out s b c low = rw (lt-ltb c (data_units m) low) refl

pub word_parity : (m : RawMap) (r : Span) (bytes : List ℕ) (got : List Column) (out : List ℕ) (s b c : ℕ) → data_units m ≤ c →
    word_at m r bytes got out s b c ≡ parity_at m r bytes got out s b (c - data_units m)
unfolding word_at
word_parity m r bytes got out s b c past = rw (le-ltb c (data_units m) past) refl

pub changed_data : (m : RawMap) (r : Span) (s c : ℕ) → c < data_units m → changed m r s c ≡ own_columns m r s c
unfolding changed
changed_data m r s c low = rw (lt-ltb c (data_units m) low) refl

pub changed_all : (m : RawMap) (r : Span) (s c : ℕ) → data_units m ≤ c → changed m r s c ≡ columns m r s
unfolding changed
changed_all m r s c past = rw (le-ltb c (data_units m) past) refl

pub data_written : (m : RawMap) (r : Span) (bytes : List ℕ) (got : List Column) (out : List ℕ) (s c p : ℕ) → c < data_units m →
    written_columns m r bytes got out s c p (changed m r s c) ≡ data_columns m r bytes s c p
data_written m r bytes got out s c p low =
    ap (λ is. written_columns m r bytes got out s c p is) (changed_data m r s c low) ∙ each (own_columns m r s c)
  where
    each : (is : List Interval) → written_columns m r bytes got out s c p is ≡ map (data_column m r bytes s c p) is
    each [] = refl
    each (i ∷ is) =
        ap (λ xs. record {
          position = p;
          offset = offset_of m s i.first;
          bytes =
              xs;
        } ∷ written_columns m r bytes got out s c p is)
        (same_range (λ (b : ℕ). word_at m r bytes got out s b c) (λ (b : ℕ). unwrap_or (new_at m r bytes s b c) 0) i.first
        (i.end - i.first) (λ b le l. word_data m r bytes got out s b c low))
        ∙ ap (λ xs. data_column m r bytes s c p i ∷ xs) (each is)

pub parity_written : (m : RawMap) (r : Span) (bytes : List ℕ) (got : List Column) (out : List ℕ) (s c p : ℕ) → data_units m ≤ c →
    written_columns m r bytes got out s c p (changed m r s c) ≡ parity_columns m s p (parity_at m r bytes got out s)
    (c - data_units m) (columns m r s)
parity_written m r bytes got out s c p past =
    ap (λ is. written_columns m r bytes got out s c p is) (changed_all m r s c past) ∙ each (columns m r s)
  where
    each : (is : List Interval) →
        written_columns m r bytes got out s c p is ≡ parity_columns m s p (parity_at m r bytes got out s) (c - data_units m) is
    each [] = refl
    each (i ∷ is) =
        ap (λ xs. record {
          position = p;
          offset = offset_of m s i.first;
          bytes =
              xs;
        } ∷ written_columns m r bytes got out s c p is)
        (same_range (λ (b : ℕ). word_at m r bytes got out s b c)
        (λ (b : ℕ). parity_at m r bytes got out s b (c - data_units m)) i.first (i.end - i.first)
        (λ b le l. word_parity m r bytes got out s b c past))
        ∙ ap (λ xs. parity_column m s p (parity_at m r bytes got out s) (c - data_units m) i ∷ xs) (each is)

-- the range's own columns of a data unit
pub own_none : (m : RawMap) (r : Span) (s c : ℕ) (i : Interval) → c < data_units m → i ≡ own m r s c → i.end ≤ i.first →
    own_columns m r s c ≡ []
unfolding own_columns touches
own_none m r s c i low is le = let e : (own m r s c).end ≤ (own m r s c).first = rw is at le in
    rw (lt-ltb c (data_units m) low, le-ltb (own m r s c).first (own m r s c).end e) refl

pub own_one : (m : RawMap) (r : Span) (s c : ℕ) (i : Interval) → c < data_units m → i ≡ own m r s c → i.first < i.end →
    own_columns m r s c ≡ i ∷ []
unfolding own_columns touches
own_one m r s c i low is lt =
    let e : (own m r s c).first < (own m r s c).end = rw is at lt in
    rw (lt-ltb c (data_units m) low, lt-ltb (own m r s c).first (own m r s c).end e) (ap (λ (j : Interval). j ∷ []) (sym is))

-- the call's bytes for them
pub own_bytes : (m : RawMap) (r : Span) (bytes : List ℕ) (s c : ℕ) (i : Interval) (part : List ℕ) → length bytes ≡ r.length →
    i ≡ own m r s c → i.first < i.end →
    part ≡ take (i.end - i.first) (drop (unit_start m s c + i.first - r.offset) bytes) → part ≡ new_in m r bytes s c i
own_bytes m r bytes s c i part size is lt is_part =
    let first = own_first m r s c i is in
    let end = own_end m r s c i is in
    let long : length part ≡ i.end - i.first =
    ap length is_part
    ∙ length-take-le (i.end - i.first) (drop (unit_start m s c + i.first - r.offset) bytes)
    (omega (arith, length-drop (unit_start m s c + i.first - r.offset) bytes, size, first, end, lt)) in
    same_number_lists part _
    (long ∙ sym (length-map-range_with_len (λ (b : ℕ). unwrap_or (new_at m r bytes s b c) 0) i.first (i.end - i.first)))
    (λ k k_lt.
    let low : k < i.end - i.first = omega (arith, k_lt, long) in
    let at : unit_start m s c + i.first - r.offset + k ≡ unit_start m s c + (i.first + k) - r.offset = omega (arith, first, lt) in
    ap (λ (xs : List ℕ). get_or xs k 0) is_part
    ∙ get_or-take (i.end - i.first) (drop (unit_start m s c + i.first - r.offset) bytes) k 0 low
    ∙ get_or-drop (unit_start m s c + i.first - r.offset) bytes k 0
    ∙ ap (λ (z : ℕ). get_or bytes z 0) at
    ∙ sym (ap (λ (n : Option ℕ). unwrap_or n 0)
    (new_inside m r bytes s (i.first + k) c i is (omega arith) (omega (arith, low))))
    ∙ sym (get_or-map-range_with_len (λ (b : ℕ). unwrap_or (new_at m r bytes s b c) 0) i.first (i.end - i.first) k
    (i.first + k) 0 low refl))

pub data_pushed : (m : RawMap) (r : Span) (bytes : List ℕ) (s c p o : ℕ) (i : Interval) (part : List ℕ) (made new : List Column) →
    c < data_units m → i ≡ own m r s c → i.first < i.end →
    part ≡ new_in m r bytes s c i → o ≡ offset_of m s i.first →
    new ≡ made ++ (record { position = p; offset = o; bytes = part } ∷ []) → new ≡ made ++ data_columns m r bytes s c p
data_pushed m r bytes s c p o i part made new low is lt is_part at e =
    e ∙ ap (λ (z : ℕ). made ++ (record { position = p; offset = z; bytes = part } ∷ [])) at
    ∙ ap (λ (xs : List ℕ). made ++ (record { position = p; offset = offset_of m s i.first; bytes = xs } ∷ [])) is_part
    ∙ ap (λ is. made ++ map (data_column m r bytes s c p) is) (sym (own_one m r s c i low is lt))

-- ---- one place

pub place_data : (m : RawMap) (r : Span) (bytes : List ℕ) (got : List Column) (out : List ℕ) (s i c p : ℕ) → c ≡ unit_in m s i →
    p ≡ group_of m s * group_width m + i → is_out m out p ≡ false → c < data_units m →
    data_columns m r bytes s c p ≡ written_place m r bytes got out s i
unfolding written_place
place_data m r bytes got out s i c p is_c is_p there low =
    let here : is_out m out (group_of m s * group_width m + i) ≡ false = rw is_p at there in
    rw here (sym (data_written m r bytes got out s c p low)
    ∙ ap (λ (z : ℕ). written_columns m r bytes got out s z p (changed m r s z)) is_c
    ∙ ap (λ (z : ℕ). written_columns m r bytes got out s (unit_in m s i) z (changed m r s (unit_in m s i))) is_p)

pub place_parity : (m : RawMap) (r : Span) (bytes : List ℕ) (got : List Column) (out : List ℕ) (s i c p row : ℕ)
    (is : List Interval) → c ≡ unit_in m s i → p ≡ group_of m s * group_width m + i → is_out m out p ≡ false → data_units m ≤ c →
    row ≡ c - data_units m → is ≡ columns m r s →
    parity_columns m s p (parity_at m r bytes got out s) row is ≡ written_place m r bytes got out s i
unfolding written_place
place_parity m r bytes got out s i c p row is is_c is_p there past is_row all =
    let here : is_out m out (group_of m s * group_width m + i) ≡ false = rw is_p at there in
    rw here (ap (λ (z : ℕ). parity_columns m s p (parity_at m r bytes got out s) z is) is_row
    ∙ ap (parity_columns m s p (parity_at m r bytes got out s) (c - data_units m)) all
    ∙ sym (parity_written m r bytes got out s c p past)
    ∙ ap (λ (z : ℕ). written_columns m r bytes got out s z p (changed m r s z)) is_c
    ∙ ap (λ (z : ℕ). written_columns m r bytes got out s (unit_in m s i) z (changed m r s (unit_in m s i))) is_p)

-- ---- all places and stripes

pub left : (i e : ℕ) → i < e → e - i ≡ suc (e - (i + 1))
left i e lt = omega (arith, lt)

pub written_step : (m : RawMap) (r : Span) (bytes : List ℕ) (got : List Column) (out : List ℕ) (s i e : ℕ) → i < e →
    written_stripe m r bytes got out s i (e - i) ≡ written_place m r bytes got out s i ++ written_stripe m r bytes got out s
    (i + 1) (e - (i + 1))
unfolding written_stripe
written_step m r bytes got out s i e lt = rw (left i e lt) refl

pub written_end : (m : RawMap) (r : Span) (bytes : List ℕ) (got : List Column) (out : List ℕ) (s i e : ℕ) → e ≤ i →
    written_stripe m r bytes got out s i (e - i) ≡ []
unfolding written_stripe
written_end m r bytes got out s i e le = let z : e - i ≡ 0 = omega (arith, le) in rw z refl

pub stripes_step : (m : RawMap) (r : Span) (bytes : List ℕ) (got : List Column) (out : List ℕ) (s e : ℕ) → s < e →
    written m r bytes got out (range_with_len s (e - s)) ≡ written_stripe m r bytes got out s 0
    (group_width m) ++ written m r bytes got out (range_with_len (s + 1) (e - (s + 1)))
unfolding written
stripes_step m r bytes got out s e lt = rw (left s e lt) refl

pub stripes_end : (m : RawMap) (r : Span) (bytes : List ℕ) (got : List Column) (out : List ℕ) (s e : ℕ) → e ≤ s →
    written m r bytes got out (range_with_len s (e - s)) ≡ []
unfolding written
stripes_end m r bytes got out s e le = let z : e - s ≡ 0 = omega (arith, le) in rw z refl

-- ---- the call

pub encoded : (m : RawMap) (r : Span) (bytes : List ℕ) (got : List Part) (out : List ℕ) (made : List Column) →
    unwritable m out (stripes m r) ≡ None → made ≡ written m r bytes (columns_of m got) out (stripes m r) →
    Gives (apply_and_encode m r bytes got out) (Ok made)
unfolding apply_and_encode
encoded m r bytes got out made can e = inr (rw (can, e) refl)
