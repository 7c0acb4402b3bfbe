-- What can be written over a range can be over each range in it.
use Rattle.std.proofs.Common.{◌≡◌, ℕ, zero, suc, ◌+◌, ◌-◌, ◌<◌, ◌≤◌, false, List, [], refl, ap, ◌∙◌, arith, inl}
use Rattle.std.proofs.Common.{inr}
use Rattle.std.specs.Prelude.{None}
use Rattle.std.specs.List.{range_with_len}
use Rattle.std.proofs.lemmas.Bool.{cases_lt}
use Rattle.data_map.specs.declared.check.RawMap.{RawMap}
use Rattle.data_map.specs.Striping.{stripe_of, stripe_length}
use Rattle.data_map.proofs.Covering.{div_mono}
use Rattle.data_map.proofs.Shape.{some_stripe}
use Rattle.stripe_plan.specs.Touched.{end_of}
use Rattle.stripe_plan.specs.Lost.{is_short, unwritable}
use Rattle.stripe_plan.proofs.ReadLaws.{stripes_are}
use Rattle.stripe_plan.proofs.WriteFollows.{no_stripes}
use Rattle.stripe_plan.proofs.WriteLaws.{can_write}
use Rattle.plan_law.specs.Sending.{WritableWithin}

none_short : (m : RawMap) (out : List ℕ) (a n : ℕ) → ((s : ℕ) → a ≤ s → s < a + n → is_short m out s ≡ false) →
    unwritable m out (range_with_len a n) ≡ None
unfolding unwritable
none_short m out a zero fine = refl
none_short m out a (suc n) fine = rw (fine a (omega arith) (omega arith))
    (none_short m out (a + 1) n (λ s le lt. fine s (omega (arith, le)) (omega (arith, lt))))

nothing : (m : RawMap) (out : List ℕ) → unwritable m out [] ≡ None
unfolding unwritable
nothing m out = refl

pub writable_within : WritableWithin
writable_within m out r q c from to can = elim (cases_lt 0 q.length) [
  | inr none ↦ ap (unwritable m out) (no_stripes m q (omega (arith, none))) ∙ nothing m out
  | inl some ↦
      let more : 0 < r.length = omega (arith, from, to, some) in
      let all : unwritable m out (range_with_len (stripe_of m r.offset) (stripe_of m (end_of r - 1) + 1 - stripe_of m r.offset))
      ≡ None = rw (stripes_are m r more) at can in
      let low = div_mono r.offset q.offset (stripe_length m) (some_stripe m c) from in
      let high = div_mono (end_of q - 1) (end_of r - 1) (stripe_length m) (some_stripe m c) (omega (arith, to)) in
      ap (unwritable m out) (stripes_are m q some)
      ∙ none_short m out (stripe_of m q.offset) (stripe_of m (end_of q - 1) + 1 - stripe_of m q.offset)
      (λ s le lt. can_write m out (stripe_of m r.offset) (stripe_of m (end_of r - 1) + 1 - stripe_of m r.offset) s all
      (omega (arith, le, low)) (omega (arith, le, lt, low, high)))
]
