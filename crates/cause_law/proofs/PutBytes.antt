-- Each byte of an answer that the plan put together has its cause.
use Rattle.std.proofs.Common.{◌≡◌, ◌<◌, ◌≤◌, ℕ, zero, suc, ◌+◌, true, false, List, length, get_or, sym, ap, subst, ◌∙◌, inl, inr, arith}
use Rattle.std.specs.Prelude.{slice_index, map}
use Rattle.std.specs.List.{range_with_len}
use Rattle.std.proofs.lemmas.Bool.{cases_Bool, lt-ltb}
use Rattle.std.proofs.lemmas.List.{get_or-take}
use Rattle.data_map.specs.declared.check.RawMap.{RawMap}
use Rattle.data_map.specs.Check.{IsChecked}
use Rattle.data_map.specs.Striping.{group_width, data_units, stripe_of, data_unit_of, column_of, position_of, offset_of}
use Rattle.data_map.proofs.Striping.{data_unit_below}
use Rattle.stripe_plan.specs.declared.plan.Aim.TheVariants.{Reads}
use Rattle.stripe_plan.specs.Touched.{end_of, touches, IsTouchedStripe}
use Rattle.stripe_plan.specs.Lost.{is_out, is_hit}
use Rattle.stripe_plan.specs.Asks.{own_columns, needed}
use Rattle.stripe_plan.specs.Words.{decoded_at, answer_in, answer_at, answered}
use Rattle.stripe_plan.specs.Laws.{IsGot, IsWithin}
use Rattle.stripe_plan.proofs.Covering.{column_touched, own_touched}
use Rattle.stripe_plan.proofs.Columning.{run_long}
use Rattle.stripe_plan.proofs.ReadLaws.{hit_is, few_lost, stripe_touched}
use Rattle.world_history.specs.ClientNames.{CallOp, Held, Span}
use Rattle.cause_law.specs.Met.{Met, out_in}
use Rattle.cause_law.specs.Read.{read_in, range_under}
use Rattle.cause_law.specs.ReadBytes.{HasCause}
use Rattle.cause_law.proofs.Fetching.{IsPut}
use Rattle.cause_law.proofs.ByteCauses.{given_at, position_below, data_of, the_data}

-- a run of numbers, mapped
run_at : (f : ℕ → ℕ) (a n k : ℕ) → k < n → get_or (map f (range_with_len a n)) k 0 ≡ f (a + k)
run_at f a zero k lt = absurd (omega (arith, lt))
run_at f a (suc n) zero lt = ap f (omega arith)
run_at f a (suc n) (suc k) lt = run_at f (a + 1) n k (omega (arith, lt)) ∙ ap f (omega arith)

module _ (h : Held) (op : CallOp) (ms : List Met) (bytes : List ℕ) (ch : IsChecked h.map) (x : IsPut h op ms bytes) where
  abbrev r : Span
  r = range_under h op

  pub put_long : length bytes ≡ r.length
  unfolding answered
  put_long = ap length x.answer ∙ run_long _ r.offset r.length

  module _ (l : ℕ) (from : r.offset ≤ l) (to : l < end_of r) where
    abbrev m : RawMap
    m = h.map

    abbrev out : List ℕ
    out = out_in h ms

    abbrev s : ℕ
    s = stripe_of m l

    abbrev c : ℕ
    c = data_unit_of m l

    abbrev b : ℕ
    b = column_of m l

    low : c < data_units m
    low = data_unit_below m l ch

    wide : c < group_width m
    wide = omega (arith, low)

    stripe : IsTouchedStripe m r s
    stripe = stripe_touched m r l ch from to

    touch : touches m r s c ≡ true
    unfolding touches
    touch = let inside = own_touched m r l ch from to in lt-ltb _ _ (omega (arith, inside.0, inside.1))

    within : IsWithin b (needed Reads m r out s c)
    unfolding own_columns
    within = elim (cases_Bool (is_hit m r out s)) [
      | inl hit ↦ rw hit (column_touched m r l ch from to)
      | inr free ↦ rw (free, lt-ltb c (data_units m) low, touch) (inl (own_touched m r l ch from to))
    ]

    pub cause : HasCause h ms s c b (answer_at m (read_in ms) out l)
    unfolding answer_in decoded_at
    cause = record {
      read = λ there.
          rw there (given_at h ms (position_of m s c) (offset_of m s b) (position_below h ch s c wide) x.met
          (x.fetched s b c stripe wide there within));
      decoded = λ gone small.
          let hit : is_hit m r out s ≡ true =
          hit_is m r out s 0 (data_units m) c (omega arith) (omega (arith, low)) touch gone in
          let few = few_lost m r out s ch x.some x.readable stripe hit in
          let had : (k : ℕ) → k < group_width m → is_out m out (position_of m s k) ≡ false
          → IsGot (read_in ms) (position_of m s k) (offset_of m s b) =
          λ k lt there. x.fetched s b k stripe lt there (rw hit (column_touched m r l ch from to)) in (
            data_of h ms s b c ch x.met low small gone few had,
            the_data h ms s b c ch x.met low small gone few had,
            rw gone (sym (get_or-take (data_units m) _ c 0 low)),
          );
    }

  pub each_cause : (i l : ℕ) → i < length bytes → l ≡ r.offset + i
      → HasCause h ms (stripe_of h.map l) (data_unit_of h.map l) (column_of h.map l) (slice_index bytes i)
  unfolding answered
  each_cause i l lt is =
      let inside : i < r.length = omega (arith, lt, put_long) in
      let value : slice_index bytes i ≡ answer_at h.map (read_in ms) (out_in h ms) l =
      ap (λ (xs : List ℕ). slice_index xs i) x.answer ∙ run_at _ r.offset r.length i inside
      ∙ ap (answer_at h.map (read_in ms) (out_in h ms)) (sym is) in
      subst (HasCause h ms (stripe_of h.map l) (data_unit_of h.map l) (column_of h.map l)) (sym value)
      (cause l (omega (arith, is)) (omega (arith, is, inside)))
