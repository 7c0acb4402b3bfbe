-- Parity that is made anew from all units of some columns.
use Rattle.std.proofs.Common.{◌≡◌, ℕ, zero, suc, ◌+◌, ◌-◌, ◌<◌, ◌≤◌, List, [], ◌∷◌, length, get_or, take, map, set, refl, sym, ap, ◌∙◌, arith, inl, inr}
use Rattle.std.specs.Prelude.{min, max, Option, Some, None, unwrap_or}
use Rattle.std.specs.List.{All}
use Rattle.std.proofs.lemmas.Bool.{cases_lt, cases_eq, lt-ltb, le-ltb, le-leb, lt-leb}
use Rattle.std.proofs.lemmas.List.{get_or-take, length-take-le, get_or-set_other}
use Rattle.std.proofs.lemmas.List.FromFn.{length-map-range_with_len, get_or-map-range_with_len}
use Rattle.std.proofs.lemmas.Grind.{same_number_lists, get_or-set_at}
use Rattle.data_map.specs.declared.check.RawMap.{RawMap}
use Rattle.data_map.specs.Check.{IsChecked}
use Rattle.data_map.specs.Striping.{group_width, data_units, parities}
use Rattle.parity_code.specs.Parity.{column}
use Rattle.parity_code.specs.Codeword.{count_of, codeword, width_of, AreRows}
use Rattle.parity_code.specs.Columns.{Stored}
use Rattle.parity_code.proofs.ColumnLaws.{cell, length_column, same_count, same_row}
use Rattle.stripe_plan.specs.declared.plan.Span.{Span}
use Rattle.stripe_plan.specs.declared.plan.Interval.{Interval}
use Rattle.stripe_plan.specs.Touched.{end_of, unit_start, own}
use Rattle.stripe_plan.specs.Parity.{overlaid, parity_of}
use Rattle.stripe_plan.specs.Words.{code_of, new_at, news_from, news_at, laid_at, HasColumns}
use Rattle.stripe_plan.specs.Encoded.{NewLaid, encoded_parity, HasParity}
use Rattle.stripe_plan.proofs.Columning.{code_count}
use Rattle.stripe_plan.proofs.StripeRows.{width_is}
use Rattle.stripe_plan.proofs.WriteLaws.{news_long, parity_word}

-- ---- the new bytes of a column

-- the call's byte, or what was there
pub new_laid : (m : RawMap) (r : Span) (bytes : List ℕ) (s b c x : ℕ) → b < m.unit → length bytes ≡ r.length →
    unwrap_or (new_at m r bytes s b c) x ≡ laid_at r.offset bytes (unit_start m s c + b) x
unfolding new_at own laid_at
new_laid m r bytes s b c x bl long = elim (cases_lt (unit_start m s c + b) r.offset) [
  | inl before ↦ rw (
    lt-leb (max r.offset (unit_start m s c) - unit_start m s c) b (omega (arith, before)),
    lt-leb r.offset (unit_start m s c + b) before,
  ) refl
  | inr from ↦ elim (cases_lt (unit_start m s c + b) (r.offset + length bytes)) [
    | inl to ↦ rw (
      le-leb (max r.offset (unit_start m s c) - unit_start m s c) b (omega (arith, from)),
      lt-ltb b (min (end_of r) (unit_start m s c + m.unit) - unit_start m s c) (omega (arith, to, bl, long)),
      le-leb r.offset (unit_start m s c + b) from,
      lt-ltb (unit_start m s c + b) (r.offset + length bytes) to,
    ) refl
    | inr past ↦ rw (
      le-leb (max r.offset (unit_start m s c) - unit_start m s c) b (omega (arith, from)),
      le-ltb b (min (end_of r) (unit_start m s c + m.unit) - unit_start m s c) (omega (arith, past, long)),
      le-leb r.offset (unit_start m s c + b) from,
      le-ltb (unit_start m s c + b) (r.offset + length bytes) past,
    ) refl
  ]
]

pub overlaid_long : (ns : List (Option ℕ)) (ds : List ℕ) → length ns ≡ length ds → length (overlaid ns ds) ≡ length ds
overlaid_long [] ds e = refl
overlaid_long (n ∷ ns) [] e = refl
overlaid_long (None ∷ ns) (d ∷ ds) e = ap suc (overlaid_long ns ds (omega (arith, e)))
overlaid_long (Some v ∷ ns) (d ∷ ds) e = ap suc (overlaid_long ns ds (omega (arith, e)))

pub overlaid_at : (m : RawMap) (r : Span) (bytes : List ℕ) (s b c n : ℕ) (ds : List ℕ) (k : ℕ) → k < n → length ds ≡ n →
    get_or (overlaid (news_from m r bytes s b c n) ds) k 0 ≡ unwrap_or (new_at m r bytes s b (c + k)) (get_or ds k 0)
unfolding news_from
overlaid_at m r bytes s b c zero ds k lt long = absurd (omega (arith, lt))
overlaid_at m r bytes s b c (suc n) [] k lt long = absurd (omega (arith, long))
overlaid_at m r bytes s b c (suc n) (d ∷ ds) zero lt long = let z : c + zero ≡ c = omega arith in
    rw z (first (new_at m r bytes s b c))
  where
    first : (o : Option ℕ) → get_or (overlaid (o ∷ news_from m r bytes s b (c + 1) n) (d ∷ ds)) 0 0 ≡ unwrap_or o d
    first None = refl
    first (Some v) = refl
overlaid_at m r bytes s b c (suc n) (d ∷ ds) (suc k) lt long =
    let z : c + suc k ≡ c + 1 + k = omega arith in
    rw z (rest (new_at m r bytes s b c) ∙ overlaid_at m r bytes s b (c + 1) n ds k (omega (arith, lt)) (omega (arith, long)))
  where
    rest : (o : Option ℕ) →
        get_or (overlaid (o ∷ news_from m r bytes s b (c + 1) n) (d ∷ ds)) (suc k) 0 ≡ get_or
        (overlaid (news_from m r bytes s b (c + 1) n) ds) k 0
    rest None = refl
    rest (Some v) = refl

-- ---- laying them over

pub laid_one : (m : RawMap) (r : Span) (bytes : List ℕ) (s : ℕ) (i : Interval) (u : ℕ) (old mid new : List (List ℕ)) (start : ℕ) →
    NewLaid m r bytes s i u old mid → u < length old →
    All (λ row. length row ≡ i.end - i.first) old → start ≡ unit_start m s u + i.first →
    Stored u 0 (length (get_or mid u [])) (λ k. laid_at r.offset bytes (start + k) (get_or (get_or mid u []) k 0)) mid new →
    NewLaid m r bytes s i (u + 1) old new
laid_one m r bytes s i u old mid new start laid lt even is_start stored =
    let wide : length (get_or mid u []) ≡ i.end - i.first = same_row old mid u [] laid.shape ∙ even u [] lt in
    let count : length mid ≡ length old = same_count old mid laid.shape in
    let column_is : (k : ℕ) → k < i.end - i.first →
    column new k ≡ set (column mid k) u (laid_at r.offset bytes (start + k) (get_or (get_or mid u []) k 0)) =
    λ k k_lt. let z : 0 + k ≡ k = omega arith in rw z at (stored.inside k (omega (arith, k_lt, wide))) in
    record {
      shape = stored.shape ∙ laid.shape;
      each = λ k c k_lt c_lt. ap (λ (xs : List ℕ). get_or xs c 0) (column_is k k_lt) ∙ elim (cases_eq c u) [
        | inl same ↦
            let there : u < length (column mid k) = omega (arith, length_column mid k, count, lt) in
            let o : unit_start m s u + (i.first + k) ≡ start + k = omega (arith, is_start) in
            get_or-set_at (column mid k) u c _ 0 same there
            ∙ ap (laid_at r.offset bytes (start + k))
            (sym (cell mid u k [] (omega (arith, count, lt))) ∙ laid.rest k u k_lt (omega arith))
            ∙ sym (rw (same, o) refl)
        | inr other ↦ get_or-set_other (column mid k) u c _ 0 other ∙ laid.each k c k_lt (omega (arith, c_lt, other))
      ];
      rest = λ k c k_lt le. ap (λ (xs : List ℕ). get_or xs c 0) (column_is k k_lt)
          ∙ get_or-set_other (column mid k) u c _ 0 (λ e. omega (arith, e, le)) ∙ laid.rest k c k_lt (omega (arith, le));
    }

-- the data of a column are the old ones with the new bytes
pub data_laid : (m : RawMap) (r : Span) (bytes : List ℕ) (s : ℕ) (i : Interval) (f : ℕ → List ℕ) (old new : List (List ℕ))
    (k : ℕ) → IsChecked m → i.end ≤ m.unit → length bytes ≡ r.length →
    HasColumns (group_width m) i f old → NewLaid m r bytes s i (data_units m) old new → k < i.end - i.first →
    take (data_units m) (column new k) ≡ overlaid (news_at m r bytes s (i.first + k)) (take (data_units m) (f (i.first + k)))
data_laid m r bytes s i f old new k ch inside long had laid lt =
    let b : ℕ = i.first + k in
    let count : length new ≡ group_width m = same_count old new laid.shape ∙ had.long in
    let new_long : length (take (data_units m) (column new k)) ≡ data_units m =
    length-take-le (data_units m) (column new k) (omega (arith, length_column new k, count)) in
    let f_long : length (f b) ≡ group_width m = ap length (sym (had.each k lt)) ∙ length_column old k ∙ had.long in
    let cut : length (take (data_units m) (f b)) ≡ data_units m = length-take-le (data_units m) (f b) (omega (arith, f_long)) in
    same_number_lists _ _
    (new_long ∙ sym
    (overlaid_long (news_at m r bytes s b) (take (data_units m) (f b)) (news_long m r bytes s b 0 (data_units m) ∙ sym cut)
    ∙ cut))
    (λ c c_lt.
    let low : c < data_units m = omega (arith, c_lt, new_long) in
    let z : 0 + c ≡ c = omega arith in
    get_or-take (data_units m) (column new k) c 0 low ∙ laid.each k c lt low
    ∙ ap (λ (xs : List ℕ). laid_at r.offset bytes (unit_start m s c + b) (get_or xs c 0)) (had.each k lt)
    ∙ sym (overlaid_at m r bytes s b 0 (data_units m) (take (data_units m) (f b)) c low cut
    ∙ rw (z, get_or-take (data_units m) (f b) c 0 low)
    (new_laid m r bytes s b c (get_or (f b) c 0) (omega (arith, lt, inside)) long)))

-- ---- the parity of them

-- of rows whose data are these
pub parity_coded : (m : RawMap) (i : Interval) (ds : ℕ → List ℕ) (mid new : List (List ℕ)) → IsChecked m →
    length mid ≡ group_width m → All (λ row. length row ≡ i.end - i.first) mid →
    ((k : ℕ) → k < i.end - i.first → take (data_units m) (column mid k) ≡ ds (i.first + k)) → map length new ≡ map length mid →
    ((k : ℕ) → k < width_of mid → column new k ≡ codeword (code_of m) (take (length mid - count_of (code_of m)) (column mid k))) →
    HasParity (parities m) i (λ (b row : ℕ). parity_of row (ds b)) new
parity_coded m i ds mid new ch count_mid even held shape coded =
    let count : length new ≡ group_width m = same_count mid new shape ∙ count_mid in
    let units : length mid - count_of (code_of m) ≡ data_units m = omega (arith, count_mid, code_count m) in
    let wide : width_of mid ≡ i.end - i.first = width_is (i.end - i.first) mid (omega (arith, count_mid, ch.some_data)) even in
    record {
      enough = omega (arith, count, ch.some_data);
      each = λ row lt.
          let at : length new - parities m + row ≡ data_units m + row = omega (arith, count, ch.some_data) in
          let here : data_units m + row < length new = omega (arith, count, lt, ch.some_data) in
          let row_long : length (get_or new (data_units m + row) []) ≡ i.end - i.first =
          same_row mid new (data_units m + row) [] shape
          ∙ even (data_units m + row) [] (omega (arith, here, count, count_mid)) in
          rw at (same_number_lists _ _
          (row_long ∙ sym (length-map-range_with_len (λ (b : ℕ). parity_of row (ds b)) i.first (i.end - i.first)))
          (λ k k_lt.
          let low : k < i.end - i.first = omega (arith, k_lt, row_long) in
          let data_long : length (take (data_units m) (column mid k)) ≡ data_units m =
          length-take-le (data_units m) (column mid k) (omega (arith, length_column mid k, count_mid)) in
          sym (cell new (data_units m + row) k [] here)
          ∙ ap (λ (xs : List ℕ). get_or xs (data_units m + row) 0)
          (coded k (rw wide low) ∙ ap (λ (n : ℕ). codeword (code_of m) (take n (column mid k))) units)
          ∙ ap (λ (n : ℕ). get_or (codeword (code_of m) (take (data_units m) (column mid k))) (n + row) 0) (sym data_long)
          ∙ parity_word (code_of m) (take (data_units m) (column mid k)) row (omega (arith, lt, code_count m))
          ∙ ap (parity_of row) (held k low)
          ∙ sym (get_or-map-range_with_len (λ (b : ℕ). parity_of row (ds b)) i.first (i.end - i.first) k
          (i.first + k) 0 low refl)));
    }

pub parity_made : (m : RawMap) (r : Span) (bytes : List ℕ) (s : ℕ) (i : Interval) (f : ℕ → List ℕ) (old mid new : List (List ℕ)) →
    IsChecked m → i.end ≤ m.unit → length bytes ≡ r.length →
    HasColumns (group_width m) i f old → NewLaid m r bytes s i (data_units m) old mid → map length new ≡ map length mid →
    ((k : ℕ) → k < width_of mid → column new k ≡ codeword (code_of m) (take (length mid - count_of (code_of m)) (column mid k))) →
    HasParity (parities m) i (encoded_parity m r bytes s f) new
parity_made m r bytes s i f old mid new ch inside long had laid shape coded =
    let count_mid : length mid ≡ group_width m = same_count old mid laid.shape ∙ had.long in
    let even : All (λ row. length row ≡ i.end - i.first) mid =
    λ k d lt. same_row old mid k d laid.shape ∙ had.even k d (omega (arith, lt, count_mid, had.long)) in
    parity_coded m i (λ (b : ℕ). overlaid (news_at m r bytes s b) (take (data_units m) (f b))) mid new ch count_mid even
    (λ k low. data_laid m r bytes s i f old mid k ch inside long had laid low) shape coded

-- rows of that shape can be encoded
pub can_encode : (m : RawMap) (i : Interval) (rows : List (List ℕ)) → IsChecked m → length rows ≡ group_width m →
    All (λ row. length row ≡ i.end - i.first) rows → AreRows (code_of m) rows
can_encode m i rows ch count even =
    let wide : width_of rows ≡ i.end - i.first = width_is (i.end - i.first) rows (omega (arith, count, ch.some_data)) even in
    record {
      some = omega (arith, count, code_count m, ch.some_data);
      most = omega (arith, count, ch.narrow);
      even =
          λ k d lt. even k d lt ∙ sym wide;
    }
