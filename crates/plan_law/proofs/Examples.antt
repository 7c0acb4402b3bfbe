-- The writes and the read of one byte, by computation.
use Rattle.std.proofs.Common.{◌≡◌, ℕ, zero, suc, ◌+◌, ◌*◌, ◌/◌, ◌%◌, ◌<◌, true, false, [], ◌∷◌, refl, sym, arith, inl}
use Rattle.std.proofs.Common.{inr, ne_eqb}
use Rattle.std.specs.Prelude.{None}
use Rattle.std.proofs.lemmas.Bool.{cases_eq}
use Rattle.std.proofs.lemmas.Bool.Decides.{nat_tests}
use Rattle.std.proofs.lemmas.Nat.{div-add-mod'}
use Rattle.gf256.specs.Field.{two_to, product, product_bits, where_odd, double}
use Rattle.data_map.specs.Check.{IsChecked}
use Rattle.data_map.specs.Striping.{position_of, offset_of}
use Rattle.parity_code.specs.Decoding.{decoded}
use Rattle.parity_code.specs.Repairs.{repair_of}
use Rattle.fence_law.specs.Columns.{Agrees, AreBytes}
use Rattle.stripe_plan.specs.declared.plan.Aim.TheVariants.{Reads, Gathers}
use Rattle.stripe_plan.specs.Touched.{stripes, own, touches, columns, columns_between, whole}
use Rattle.stripe_plan.specs.Lost.{is_out, source_from, source, out_from, positions_out, is_short, is_degraded, unwritable}
use Rattle.stripe_plan.specs.Lost.{unreadable, hit_from}
use Rattle.stripe_plan.specs.Asks.{own_columns, changed, gathered, needed, without, without_each, asks_each, asks_place}
use Rattle.stripe_plan.specs.Asks.{asks_stripe, asks}
use Rattle.stripe_plan.specs.Words.{has_byte, lost_from, decoded_at, byte_at, known_from, new_at, news_from, parity_at, word_at}
use Rattle.stripe_plan.specs.Words.{answer_in, answer_at}
use Rattle.stripe_plan.specs.Laws.{IsWithin, IsGot, IsFetched}
use Rattle.stripe_plan.specs.Plans.{written_place, written_stripe, written, stores}
use Rattle.plan_law.specs.Writes.{some_unit_touched, touches_column}
use Rattle.plan_law.specs.Got.{IsShown}
use Rattle.plan_law.specs.Sending.{MayScatter}
use Rattle.plan_law.specs.Examples.{small_map, first_byte, one_byte, one_cell, old_bytes, bytes_before, shown_old, other_bytes}
use Rattle.plan_law.specs.Examples.{shown_others, new_bytes, ScatterIsMet, GatherIsMet, ExamplesAreMet}

checked : IsChecked small_map
checked = record {
  some_unit = omega arith;
  short_unit = omega arith;
  some_components = omega arith;
  few_components = omega arith;
  whole_positions = refl;
  narrow = omega arith;
  whole_groups = refl;
  some_data = omega arith;
  no_depth = λ e. refl;
  some_depth = λ e. absurd (e refl);
  short_depth = omega arith;
  algorithm = (omega arith, omega arith);
}

-- ---- the write with every component there

got_unit : (b c : ℕ) → c < 3 → IsWithin b (needed Gathers small_map first_byte [] 0 c) →
    IsGot old_bytes (position_of small_map 0 c) (offset_of small_map 0 b)
unfolding gathered changed own_columns own touches columns columns_between whole is_degraded positions_out out_from source
    source_from
got_unit b zero lt (inl w) = let z : b ≡ 0 = omega (arith, w.1) in rw z (inl refl)
got_unit b zero lt (inr w) = absurd w
got_unit b (suc zero) lt w = absurd w
got_unit b (suc (suc zero)) lt (inl w) = let z : b ≡ 0 = omega (arith, w.1) in rw z (inr (inl refl))
got_unit b (suc (suc zero)) lt (inr w) = absurd w
got_unit b (suc (suc (suc c))) lt w = absurd (omega (arith, lt))

fetched : IsFetched Gathers small_map first_byte old_bytes []
fetched s b c t lt n w = let z : s ≡ 0 = omega (arith, t.1) in rw z (got_unit b c lt (rw z at w))

can : unwritable small_map [] (stripes small_map first_byte) ≡ None
unfolding unwritable is_short stripes positions_out out_from source source_from
can = refl

may : MayScatter small_map first_byte (7 ∷ []) old_bytes []
may = record { checked = checked; long = refl; can = can; fetched = λ some. fetched }

sends : stores small_map first_byte (7 ∷ []) old_bytes [] ≡ new_bytes
unfolding stores stripes written written_stripe written_place asks asks_stripe asks_place asks_each without_each without
    changed own_columns own touches columns columns_between whole is_degraded positions_out out_from source source_from
    word_at new_at news_from parity_at known_from byte_at
sends = refl

-- ---- the write with a unit out

got_less : (b c : ℕ) → c < 3 → is_out small_map (1 ∷ []) (position_of small_map 0 c) ≡ false →
    IsWithin b (needed Gathers small_map first_byte (1 ∷ []) 0 c) →
    IsGot old_bytes (position_of small_map 0 c) (offset_of small_map 0 b)
unfolding gathered changed own_columns own touches columns columns_between whole is_degraded positions_out out_from source
    source_from
got_less b zero lt n (inl w) = let z : b ≡ 0 = omega (arith, w.1) in rw z (inl refl)
got_less b zero lt n (inr w) = absurd w
got_less b (suc zero) lt n w = absurd (cc n)
got_less b (suc (suc zero)) lt n (inl w) = let z : b ≡ 0 = omega (arith, w.1) in rw z (inr (inl refl))
got_less b (suc (suc zero)) lt n (inr w) = absurd w
got_less b (suc (suc (suc c))) lt n w = absurd (omega (arith, lt))

fetched_less : IsFetched Gathers small_map first_byte old_bytes (1 ∷ [])
fetched_less s b c t lt n w = let z : s ≡ 0 = omega (arith, t.1) in rw z (got_less b c lt n (rw z at w))

can_less : unwritable small_map (1 ∷ []) (stripes small_map first_byte) ≡ None
unfolding unwritable is_short stripes positions_out out_from source source_from
can_less = refl

sends_decoded : stores small_map first_byte (7 ∷ []) old_bytes (1 ∷ []) ≡ new_bytes
unfolding stores stripes written written_stripe written_place asks asks_stripe asks_place asks_each without_each without
    changed own_columns own touches columns columns_between whole is_degraded positions_out out_from source source_from
    word_at new_at news_from parity_at known_from byte_at lost_from decoded_at decoded repair_of two_to product
    product_bits where_odd double
sends_decoded = refl

scatter_is_met : ScatterIsMet
scatter_is_met = (
  may,
  sends,
  record { checked = checked; long = refl; can = can_less; fetched = λ some. fetched_less },
  sends_decoded,
)

-- ---- what it was shown

-- a column of one byte has that alone
where_got : (position byte p z : ℕ) → has_byte (one_byte position byte) p z ≡ true → (position ≡ p) × (z ≡ 0)
where_got position byte p z e = (grind (arith, nat_tests, e), grind (arith, nat_tests, e))

shown_are : IsShown small_map shown_old 0 old_bytes
unfolding byte_at
shown_are p z (inl e) =
    let w = where_got 0 5 p z e in
    rw (sym w.0, w.1) (record { entry = 0; at = 0; cells = λ y. one_cell 5 y }, inl refl, refl, omega arith, refl, refl)
shown_are p z (inr (inl e)) =
    let w = where_got 2 12 p z e in
    rw (sym w.0, w.1) (record { entry = 0; at = 2; cells = λ y. one_cell 12 y }, inr (inl refl), refl, omega arith, refl, refl)
shown_are p z (inr (inr e)) = absurd e

-- a touched column is the first
first_column : (x : ℕ) → touches_column small_map first_byte x ≡ true → x ≡ 0
unfolding some_unit_touched
first_column x e = omega (arith, div-add-mod' x 1, only_first (x / 1) (x % 1) e)
  where
    only_first : (s b : ℕ) → some_unit_touched small_map first_byte s b 0 2 ≡ true → s + b ≡ 0
    only_first s b f = grind (arith, nat_tests, f)

first_cell : (z x : ℕ) → z / 1 * 1 + z % 1 ≡ x → x ≡ 0 → z ≡ 0
first_cell z x col first = omega (arith, div-add-mod' z 1, col, first)

-- the cells that were shown have the words of the bytes
agrees : (x : ℕ) → touches_column small_map first_byte x ≡ true → Agrees shown_old 0 x bytes_before
agrees x e r (inl is) entry z cell col = rw (is, first_cell z x col (first_column x e)) refl
agrees x e r (inr (inl is)) entry z cell col = rw (is, first_cell z x col (first_column x e)) refl
agrees x e r (inr (inr is)) entry z cell col = absurd is

are_bytes : AreBytes bytes_before
are_bytes q = elim (cases_eq q 0) [
  | inl first ↦ rw first (omega arith)
  | inr later ↦ rw (ne_eqb q 0 later) (elim (cases_eq q 1) [
    | inl second ↦ rw second (omega arith)
    | inr past ↦ rw (ne_eqb q 1 past) (omega arith)
  ])
]

gather_is_met : GatherIsMet
gather_is_met = record {
  layout = refl;
  may = may;
  some = omega arith;
  small = λ k d lt. let z : k ≡ 0 = omega (arith, lt) in rw z (omega arith);
  left_out = λ k below e. absurd (cc e);
  shown = shown_are;
  seen_bytes = are_bytes;
  seen_agrees = agrees;
}

-- ---- the read

can_read : unreadable small_map first_byte (0 ∷ []) (stripes small_map first_byte) ≡ None
unfolding unreadable is_short stripes hit_from touches own positions_out out_from source source_from
can_read = refl

got_other : (b c : ℕ) → c < 3 → is_out small_map (0 ∷ []) (position_of small_map 0 c) ≡ false →
    IsWithin b (needed Reads small_map first_byte (0 ∷ []) 0 c) →
    IsGot other_bytes (position_of small_map 0 c) (offset_of small_map 0 b)
unfolding hit_from own_columns own touches columns columns_between whole positions_out out_from source source_from
got_other b zero lt n w = absurd (cc n)
got_other b (suc zero) lt n (inl w) = let z : b ≡ 0 = omega (arith, w.1) in rw z (inl refl)
got_other b (suc zero) lt n (inr w) = absurd w
got_other b (suc (suc zero)) lt n (inl w) = let z : b ≡ 0 = omega (arith, w.1) in rw z (inr (inl refl))
got_other b (suc (suc zero)) lt n (inr w) = absurd w
got_other b (suc (suc (suc c))) lt n w = absurd (omega (arith, lt))

fetched_others : IsFetched Reads small_map first_byte other_bytes (0 ∷ [])
fetched_others s b c t lt n w = let z : s ≡ 0 = omega (arith, t.1) in rw z (got_other b c lt n (rw z at w))

others_are : IsShown small_map shown_others 0 other_bytes
unfolding byte_at
others_are p z (inl e) =
    let w = where_got 1 9 p z e in
    rw (sym w.0, w.1) (record { entry = 0; at = 1; cells = λ y. one_cell 9 y }, inl refl, refl, omega arith, refl, refl)
others_are p z (inr (inl e)) =
    let w = where_got 2 12 p z e in
    rw (sym w.0, w.1) (record { entry = 0; at = 2; cells = λ y. one_cell 12 y }, inr (inl refl), refl, omega arith, refl, refl)
others_are p z (inr (inr e)) = absurd e

answers : answer_at small_map other_bytes (0 ∷ []) 0 ≡ 5
unfolding answer_in decoded_at decoded repair_of lost_from known_from byte_at source source_from two_to product product_bits
    where_odd double
answers = refl

pub examples_are_met : ExamplesAreMet
examples_are_met = (scatter_is_met, gather_is_met, (can_read, fetched_others, others_are, answers))
