use Rattle.std.proofs.Common.{◌≡◌, ◌+◌, true≢false, refl, sym, subst, ◌∙◌, inl, inr, arith}
use Rattle.std.specs.Prelude.{slice_index, Contains}
use Rattle.std.proofs.lemmas.Bool.{cases_lt}
use Rattle.file_log.specs.Held.{values_in}
use Rattle.file_log.proofs.values.has_bytes.Goals as goal

pub returns-then-not-may_stand : goal.returns-then-not-may_stand
returns-then-not-may_stand c = (
  λ h. absurd (cc h),
  λ all. absurd
      (true≢false (sym (c.may_stand.ensures.1 (rw c.from.ensures (all c.loop-i.i c.loop-i-test.true)))
      ∙ c.if-not-may_stand.true)),
)

pub returns : goal.returns
returns c = (λ all i inside. c.loop-i.invariant i (omega (arith, inside, c.loop-i-test.false)), λ all. refl)

pub loop-i-preserved : goal.loop-i-preserved
loop-i-preserved c = λ k below. elim (cases_lt k c.loop-i.i) [
  | inl old ↦ c.loop-i.invariant k old
  | inr new ↦
      let here : k ≡ c.loop-i.i = omega (arith, new, below) in
      let found = c.may_stand.ensures.0 c.if-not-may_stand.false in
      subst (λ n. Contains (values_in c.args.values.now.entries (c.args.offset + n)) (slice_index c.args.piece.now n)) (sym here)
      (rw c.from.ensures at found)
]
