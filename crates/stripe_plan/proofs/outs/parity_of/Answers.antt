use Rattle.std.proofs.Common.{◌∙◌, sym}
use Rattle.data_map.specs.Striping.{parities}
use Rattle.stripe_plan.specs.Words.{decoded_at, parity_at}
use Rattle.stripe_plan.specs.Encoded.{encoded_parity, changed_parity}
use Rattle.stripe_plan.specs.Plans.{columns_of}
use Rattle.stripe_plan.proofs.Parities.{by_decoding, by_change, has_same}
use Rattle.stripe_plan.proofs.outs.parity_of.Goals as goal

pub returns-then-branch : goal.returns-then-branch
returns-then-branch c =
    let m = c.args.write.now.map.now in
    let got = columns_of m c.args.write.now.got.now in
    let f = decoded_at m got c.args.write.now.out.now.components c.args.stripe in
    has_same (parities m) c.args.columns (encoded_parity m c.args.write.now.range c.args.write.now.bytes.now c.args.stripe f)
    (parity_at m c.args.write.now.range c.args.write.now.bytes.now got c.args.write.now.out.now.components c.args.stripe)
    c.encode_new.new.rows
    (λ b row. by_decoding m c.args.write.now.range c.args.write.now.bytes.now got c.args.write.now.out.now.components
    c.args.stripe b row c.requires.part (sym c.in_ok-is_degraded.ensures ∙ c.if-branch.true))
    (c.encode_new.ensures f c.in_ok-rows.ensures)

pub returns : goal.returns
returns c =
    let m = c.args.write.now.map.now in
    let got = columns_of m c.args.write.now.got.now in
    has_same (parities m) c.args.columns (changed_parity m c.args.write.now.range c.args.write.now.bytes.now got c.args.stripe)
    (parity_at m c.args.write.now.range c.args.write.now.bytes.now got c.args.write.now.out.now.components c.args.stripe) _
    (λ b row. by_change m c.args.write.now.range c.args.write.now.bytes.now got c.args.write.now.out.now.components c.args.stripe
    b row c.requires.part (sym c.in_ok-is_degraded.ensures ∙ c.if-branch.false))
    c.in_ok-rows-2.ensures
