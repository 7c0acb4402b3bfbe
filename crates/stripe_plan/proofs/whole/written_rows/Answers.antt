use Rattle.stripe_plan.proofs.Encodings.{can_encode}
use Rattle.stripe_plan.proofs.Wholes.{even_rows, whole_words}
use Rattle.stripe_plan.specs.Encoded.{all_columns}
use Rattle.stripe_plan.proofs.whole.written_rows.Goals as goal

pub encode-requires : goal.encode-requires
encode-requires c =
    let had = c.in_ok-rows.ensures in
    rw c.code_of.ensures
    (can_encode c.args.map.now (all_columns c.args.map.now) c.in_ok-rows.rows c.known.ensures had.count
    (even_rows c.args.map.now c.args.range c.args.bytes.now c.args.stripe c.in_ok-rows.rows had))

pub returns : goal.returns
returns c = λ got out.
    let e = rw c.code_of.ensures at c.encode.ensures in
    whole_words c.args.map.now c.args.range c.args.bytes.now c.args.stripe c.in_ok-rows.rows c.encode.new.rows got out
    c.known.ensures c.requires.all c.in_ok-rows.ensures e.shape e.kept e.coded
