-- What the machine asks of a write's start.
use Rattle.std.proofs.Common.{◌≡◌, ℕ, ◌+◌, ◌-◌, ◌*◌, ◌/◌, ◌%◌, ◌<◌, ◌≤◌, Bool, true, false, List, length, refl, sym, ap, ◌∙◌}
use Rattle.std.proofs.Common.{arith, inl, inr}
use Rattle.std.specs.Prelude.{◌&&◌, not, nat_lt, Some, None}
use Rattle.std.proofs.lemmas.Bool.{cases_Bool, cases_lt, lt-ltb, and_parts}
use Rattle.std.proofs.lemmas.Nat.{mod_below, div-mul-add, mod-mul-add}
use Rattle.osd_lists.proofs.Tests.{nat_less}
use Rattle.file_log.specs.Judge.{byte_for}
use Rattle.file_log.proofs.Settled.{byte_before, byte_behind}
use Rattle.data_map.specs.declared.check.RawMap.{RawMap}
use Rattle.data_map.specs.Check.{IsChecked}
use Rattle.data_map.specs.Striping.{replicas, stripe_of, data_unit_of, column_of, group_width, data_units, parities, position_of}
use Rattle.data_map.specs.Striping.{offset_of}
use Rattle.data_map.specs.Inverse.{stripe_at, unit_at, byte_at}
use Rattle.data_map.proofs.Numbers.{digits}
use Rattle.data_map.proofs.Striping.{column_below, data_unit_below, position_in_range, unit_found}
use Rattle.data_map.proofs.Shape.{replicas_inside}
use Rattle.stripe_plan.specs.declared.plan.Span.{Span}
use Rattle.stripe_plan.specs.Touched.{end_of, stripes, unit_start}
use Rattle.stripe_plan.specs.Lost.{unwritable}
use Rattle.stripe_plan.specs.Words.{lost_from}
use Rattle.stripe_plan.proofs.ReadLaws.{stripe_touched}
use Rattle.stripe_plan.proofs.WriteLaws.{few_out}
use Rattle.fence_law.specs.Columns.{overlaid}
use Rattle.plan_law.specs.FileLayout.{column_at, column_of_cell, word_in}
use Rattle.plan_law.specs.Writes.{in_range, some_unit_touched, touches_column, touches_cell, hits_cell}
use Rattle.plan_law.specs.Sending.{WrittenWordsAreKnown}
use Rattle.plan_law.specs.Guards.{AreOut, StartsAreAllowed}
use Rattle.plan_law.proofs.Cells.{with_parity, is_coded, is_plain, col_coded, col_plain, cell_coded, cell_plain}
use Rattle.plan_law.proofs.Codes.{words_same, data_word, all_data}
use Rattle.plan_law.proofs.Payloads.{changed_low, changed_high, range_means, any_is, payloads_are_right}
use Rattle.plan_law.proofs.Outs.{one_there, component_there}
use Rattle.plan_law.proofs.Intervals.{in_is}

-- ---- new bytes

pub new_inside : (r : Span) (bytes : List ℕ) (p v : ℕ) → length bytes ≡ r.length → byte_for r.offset bytes p ≡ Some v →
    (r.offset ≤ p) × (p < end_of r)
new_inside r bytes p v long e = elim (cases_lt p r.offset) [
  | inl before ↦ absurd (cc (sym (byte_before r.offset bytes p before) ∙ e))
  | inr from ↦ elim (cases_lt p (end_of r)) [
    | inl to ↦ (from, to)
    | inr past ↦ absurd (cc (sym (byte_behind r.offset bytes p from (omega (arith, long, past))) ∙ e))
  ]
]

new_range : (r : Span) (bytes : List ℕ) (p v : ℕ) → length bytes ≡ r.length → byte_for r.offset bytes p ≡ Some v →
    in_range r p ≡ true
new_range r bytes p v long e = let i = new_inside r bytes p v long e in in_is r p i.0 i.1

-- a byte that isn't of the range stays
stays : (r : Span) (bytes : List ℕ) (e : ℕ → ℕ) (p : ℕ) → length bytes ≡ r.length → in_range r p ≡ false →
    overlaid (byte_for r.offset bytes) e p ≡ e p
stays r bytes e p long out = elim (cases_lt p r.offset) [
  | inl before ↦ rw (byte_before r.offset bytes p before) refl
  | inr from ↦ elim (cases_lt p (end_of r)) [
    | inl to ↦ absurd (cc (sym (in_is r p from to) ∙ out))
    | inr past ↦ rw (byte_behind r.offset bytes p from (omega (arith, long, past))) refl
  ]
]

-- ---- touched columns

touch_coded : (m : RawMap) (r : Span) (s b : ℕ) → 0 < parities m → b < m.unit →
    touches_column m r (s * m.unit + b) ≡ some_unit_touched m r s b 0 (data_units m)
touch_coded m r s b some bl = rw (is_coded m some)
    (ap (λ x. some_unit_touched m r x ((s * m.unit + b) % m.unit) 0 (data_units m)) (div-mul-add s m.unit b bl)
    ∙ ap (λ x. some_unit_touched m r s x 0 (data_units m)) (mod-mul-add s m.unit b bl))

touch_plain : (m : RawMap) (r : Span) (x : ℕ) → parities m ≡ 0 → touches_column m r x ≡ in_range r x
touch_plain m r x none = rw (is_plain m none) refl

-- the byte l of the file is among the units of its column
byte_any : (m : RawMap) (r : Span) (l : ℕ) → IsChecked m → in_range r l ≡ true →
    some_unit_touched m r (stripe_of m l) (column_of m l) 0 (data_units m) ≡ true
byte_any m r l c e =
    let whole : unit_start m (stripe_of m l) (data_unit_of m l) + column_of m l ≡ l = digits m.unit (data_units m) l c.some_unit
    in
    any_is m r (stripe_of m l) (column_of m l) 0 (data_units m) (data_unit_of m l) (omega arith)
    (omega (arith, data_unit_below m l c)) (rw whole e)

pub touch_is : (m : RawMap) (r : Span) (l : ℕ) → IsChecked m → in_range r l ≡ true → touches_column m r (column_at m l) ≡ true
touch_is m r l c e = elim (with_parity m) [
  | inl some ↦ ap (touches_column m r) (col_coded m l some) ∙ touch_coded m r (stripe_of m l) (column_of m l) some
      (column_below m l c) ∙ byte_any m r l c e
  | inr none ↦ ap (touches_column m r) (col_plain m l none) ∙ touch_plain m r l none ∙ e
]

-- ---- cells that are hit

pub changed_touched : (m : RawMap) (r : Span) (k z : ℕ) → IsChecked m → touches_cell m r k z ≡ true →
    touches_column m r (column_of_cell m k z) ≡ true
changed_touched m r k z c e =
    let s : ℕ = stripe_at m (k / replicas m) z in
    let b : ℕ = z % m.unit in
    let u : ℕ = unit_at m (k / replicas m) z in
    let bl : b < m.unit = mod_below z m.unit c.some_unit in
    elim (with_parity m) [
      | inl some ↦ ap (touches_column m r) (cell_coded m k z some) ∙ touch_coded m r s b some bl
          ∙ elim (cases_lt u (data_units m)) [
            | inl low ↦ any_is m r s b 0 (data_units m) u (omega arith) (omega (arith, low)) (sym (changed_low m r k z low) ∙ e)
            | inr past ↦ sym (changed_high m r k z past) ∙ e
          ]
      | inr none ↦
          ap (touches_column m r) (cell_plain m k z none) ∙ touch_plain m r (byte_at m (k / replicas m) z) none
          ∙ sym (changed_low m r k z (all_data m k z c none)) ∙ e
    ]

pub hit_means : (m : RawMap) (r : Span) (left : ℕ → Bool) (k z : ℕ) → hits_cell m r left k z ≡ true →
    (nat_lt k m.comps ≡ true) × (left k ≡ false) × (touches_cell m r k z ≡ true)
hit_means m r left k z e =
    let outer = and_parts (nat_lt k m.comps) (not (left k) && touches_cell m r k z) e in
    let inner = and_parts (not (left k)) (touches_cell m r k z) outer.1 in
    (outer.0, listed (left k) inner.0, inner.1)
  where
    listed : (t : Bool) → not t ≡ true → t ≡ false
    listed true x = absurd (cc x)
    listed false x = refl

pub hit_is : (m : RawMap) (r : Span) (left : ℕ → Bool) (k z : ℕ) → k < m.comps → left k ≡ false → touches_cell m r k z ≡ true →
    hits_cell m r left k z ≡ true
hit_is m r left k z below l e = rw (lt-ltb k m.comps below, l, e) refl

not_hit : (m : RawMap) (r : Span) (left : ℕ → Bool) (k z : ℕ) → k < m.comps → left k ≡ false → hits_cell m r left k z ≡ false →
    touches_cell m r k z ≡ false
not_hit m r left k z below l e = rw (lt-ltb k m.comps below, l) at e

-- ---- a cell of each column is hit

lands : (m : RawMap) (r : Span) (bytes out : List ℕ) (left : ℕ → Bool) (p : ℕ) → IsChecked m → length bytes ≡ r.length →
    unwritable m out (stripes m r) ≡ None → AreOut m left out →
    in_range r p ≡ true → (k z : ℕ) × (hits_cell m r left k z ≡ true) × (column_of_cell m k z ≡ column_at m p)
lands m r bytes out left p c long can outs e =
    let s : ℕ = stripe_of m p in
    let b : ℕ = column_of m p in
    let u : ℕ = data_unit_of m p in
    let bl : b < m.unit = column_below m p c in
    let inside = range_means r p e in
    let few : length (lost_from m out s 0 (group_width m)) ≤ parities m = few_out m r out s c
    (omega (arith, inside.0, inside.1)) can (stripe_touched m r p c inside.0 inside.1) in
    let one = one_there m out s u c (data_unit_below m p c) few in
    let w : ℕ = one.0 in
    let q : ℕ = position_of m s w in
    let z : ℕ = offset_of m s b in
    let there = component_there m out q one.2 in
    let k : ℕ = there.0 in
    let at_k : k ≡ q * replicas m + (k - q * replicas m) = omega (arith, there.1) in
    let rest : k - q * replicas m < replicas m = omega (arith, there.1, there.2) in
    let here : k / replicas m ≡ q = ap (λ x. x / replicas m) at_k ∙ div-mul-add q (replicas m) (k - q * replicas m) rest in
    let below : k < m.comps = omega (arith, there.2, replicas_inside m q c (position_in_range m s w c one.1)) in
    let listed : left k ≡ false = elim (cases_Bool (left k)) [ inl t ↦ absurd (cc (sym (outs k below t) ∙ there.3)) | inr f ↦ f ]
    in
    let found = unit_found m s w b c one.1 bl in
    let stripe : stripe_at m (k / replicas m) z ≡ s = ap (λ x. stripe_at m x z) here ∙ found.0 in
    let unit : unit_at m (k / replicas m) z ≡ w = ap (λ x. unit_at m x z) here ∙ found.1 in
    let column : z % m.unit ≡ b = mod-mul-add _ m.unit b bl in
    let whole : unit_start m s u + b ≡ p = digits m.unit (data_units m) p c.some_unit in
    let byte : unit_start m (stripe_at m (k / replicas m) z) (unit_at m (k / replicas m) z) + z % m.unit ≡ unit_start m s w + b =
    ap (λ x. unit_start m x (unit_at m (k / replicas m) z) + z % m.unit) stripe ∙ ap (λ x. unit_start m s x + z % m.unit) unit
    ∙ ap (λ x. unit_start m s w + x) column in
    let changed : touches_cell m r k z ≡ true = elim (cases_lt w (data_units m)) [
      | inl low ↦
          let same : w ≡ u = elim one.3 [ inl x ↦ x | inr past ↦ absurd (omega (arith, past, low)) ] in
          changed_low m r k z (omega (arith, unit, low)) ∙ ap (in_range r) (byte ∙ ap (λ x. unit_start m s x + b) same ∙ whole)
          ∙ e
      | inr past ↦
          changed_high m r k z (omega (arith, unit, past))
          ∙ ap (λ x. some_unit_touched m r x (z % m.unit) 0 (data_units m)) stripe
          ∙ ap (λ x. some_unit_touched m r s x 0 (data_units m)) column ∙ byte_any m r p c e
    ] in (
      k,
      z,
      hit_is m r left k z below listed changed,
      elim (with_parity m) [
        | inl some ↦ cell_coded m k z some ∙ ap (λ x. x * m.unit + z % m.unit) stripe ∙ ap (λ x. s * m.unit + x) column
            ∙ sym (col_coded m p some)
        | inr none ↦
            let low : w < data_units m = omega (arith, one.1, none) in
            let same : w ≡ u = elim one.3 [ inl x ↦ x | inr past ↦ absurd (omega (arith, past, low)) ] in
            cell_plain m k z none ∙ byte ∙ ap (λ x. unit_start m s x + b) same ∙ whole ∙ sym (col_plain m p none)
      ],
    )

-- ---- what isn't hit stays

misses : (m : RawMap) (r : Span) (bytes : List ℕ) (k z : ℕ) (e : ℕ → ℕ) → length bytes ≡ r.length → touches_cell m r k z ≡ false →
    word_in m k z (overlaid (byte_for r.offset bytes) e) ≡ word_in m k z e
misses m r bytes k z e long f =
    let s : ℕ = stripe_at m (k / replicas m) z in
    let b : ℕ = z % m.unit in
    elim (cases_lt (unit_at m (k / replicas m) z) (data_units m)) [
      | inl low ↦
          data_word m k z (overlaid (byte_for r.offset bytes) e) low
          ∙ stays r bytes e (byte_at m (k / replicas m) z) long (sym (changed_low m r k z low) ∙ f)
          ∙ sym (data_word m k z e low)
      | inr past ↦ words_same m (overlaid (byte_for r.offset bytes) e) e s b (unit_at m (k / replicas m) z)
          (λ u low. stays r bytes e (unit_start m s u + b) long (elim (cases_Bool (in_range r (unit_start m s u + b))) [
            | inl t ↦ absurd (cc (sym (any_is m r s b 0 (data_units m) u (omega arith) (omega (arith, low)) t)
                ∙ sym (changed_high m r k z past) ∙ f))
            | inr g ↦ g
          ]))
    ]

pub starts_are_allowed : StartsAreAllowed
starts_are_allowed m tag r bytes out left c long can outs = record {
  touches = λ p v e. touch_is m r p c (new_range r bytes p v long e);
  hits = λ k z e. let h = hit_means m r left k z e in (h.0, changed_touched m r k z c h.2);
  lands = λ p v e. lands m r bytes out left p c long can outs (new_range r bytes p v long e);
  misses = λ k z ck l h e. misses m r bytes k z e long (not_hit m r left k z (nat_less k m.comps ck) l h);
}

pub written_words_are_known : WrittenWordsAreKnown
written_words_are_known m r bytes got out left may k z e d f db fb df ff =
    let h = hit_means m r left k z e in
    sym (payloads_are_right m r bytes got out may k z d (nat_less k m.comps h.0) h.2 db df)
    ∙ payloads_are_right m r bytes got out may k z f (nat_less k m.comps h.0) h.2 fb ff
