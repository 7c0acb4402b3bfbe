use Rattle.std.proofs.Common.{ℕ, ap, arith, slice_index, ◌∙◌}
use Rattle.std.proofs.lemmas.Nat.{and_mask}
use Rattle.hex.specs.Hex.{lower_digits}
use Rattle.hex.proofs.Pairs.{encode_step, encode_done}
use Rattle.scenario_text.proofs.write.spell.Goals as goal

pub loop-i-preserved : goal.loop-i-preserved
loop-i-preserved c =
    encode_step lower_digits c.args.bytes.now c.loop-i.text c.loop-i.i _ _ (omega arith) (omega arith) c.digit.ensures
    (c.digit-in-loop-i.ensures ∙ ap (λ (n : ℕ). slice_index lower_digits n) (and_mask (slice_index c.args.bytes.now c.loop-i.i) 4))
    c.loop-i.invariant

pub returns : goal.returns
returns c = encode_done lower_digits _ _ c.loop-i.i (omega arith) (omega arith) c.loop-i.invariant
