use Rattle.std.proofs.Common.{◌∙◌}
use Rattle.parity_code.proofs.ColumnLaws.{same_count, same_row}
use Rattle.stripe_plan.proofs.Encodings.{parity_made, can_encode}
use Rattle.stripe_plan.proofs.new_parity.encode_new.Goals as goal

pub encode-requires : goal.encode-requires
encode-requires c =
    let count = same_count c.args.rows.now c.lay_new.new.rows c.lay_new.ensures.shape in
    rw c.code_of.ensures (can_encode c.args.map.now c.args.columns c.lay_new.new.rows c.known.ensures (count ∙ c.requires.count)
    (λ k d lt. same_row c.args.rows.now c.lay_new.new.rows k d c.lay_new.ensures.shape ∙ c.requires.even k d (rw count at lt)))

pub returns : goal.returns
returns c = λ f had.
    parity_made c.args.map.now c.args.range c.args.bytes.now c.args.stripe c.args.columns f c.args.rows.now c.lay_new.new.rows
    c.encode.new.rows c.known.ensures c.requires.inside c.requires.bytes had c.lay_new.ensures
    c.encode.ensures.shape (rw c.code_of.ensures at c.encode.ensures.coded)
