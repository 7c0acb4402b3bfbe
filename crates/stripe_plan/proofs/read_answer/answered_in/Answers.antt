use Rattle.std.proofs.Common.{◌≡◌, ◌∙◌, ap, sym, true, false, arith}
use Rattle.data_map.specs.Striping.{group_width, position_of}
use Rattle.stripe_plan.specs.Lost.{is_out}
use Rattle.stripe_plan.specs.Words.{decoded_at}
use Rattle.stripe_plan.specs.Plans.{columns_of}
use Rattle.stripe_plan.proofs.StripeRows.{row_is, answered_out, answered_got}
use Rattle.stripe_plan.proofs.read_answer.answered_in.Goals as goal

pub returns-then-is_out : goal.returns-then-is_out
returns-then-is_out c =
    let m = c.args.map.now in
    let out = c.args.out.now.components in
    let gone : is_out m out (position_of m c.args.stripe c.args.unit) ≡ true =
    sym (ap (is_out m out) c.position.ensures.value) ∙ sym c.is_out.ensures ∙ c.if-is_out.true in
    let row = c.as_slice.ensures
    ∙ row_is (group_width m) c.args.columns
    (decoded_at m (columns_of m c.args.got.now) out c.args.stripe) c.in_ok-rows.rows c.args.unit c.get.result.now
    c.in_ok-rows.ensures (omega (arith, c.requires.unit)) c.get.ensures
    ∙ answered_out m (columns_of m c.args.got.now) out c.args.stripe c.args.unit c.args.columns gone in
    rw row at c.copied.ensures

pub returns : goal.returns
returns c =
    let m = c.args.map.now in
    let out = c.args.out.now.components in
    let there : is_out m out (position_of m c.args.stripe c.args.unit) ≡ false =
    sym (ap (is_out m out) c.position.ensures.value) ∙ sym c.is_out.ensures ∙ c.if-is_out.false in
    rw (answered_got m (columns_of m c.args.got.now) out c.args.stripe c.args.unit c.args.columns there) at c.got_in.ensures
