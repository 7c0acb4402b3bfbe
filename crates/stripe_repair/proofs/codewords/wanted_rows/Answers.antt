use Rattle.stripe_repair.proofs.CodewordLaws.{are_rows, encoded_are}
use Rattle.stripe_repair.proofs.codewords.wanted_rows.Goals as goal

pub encode-requires : goal.encode-requires
encode-requires c =
    rw (c.code_of.ensures, c.in_ok-rows.ensures)
    (are_rows c.args.map.now c.args.components.now c.args.stripe c.args.heard.now c.args.count c.known.ensures)

pub returns : goal.returns
returns c =
    let shape = rw c.in_ok-rows.ensures at c.encode.ensures.shape in
    let coded = rw (c.in_ok-rows.ensures, c.code_of.ensures) at c.encode.ensures.coded in
    encoded_are c.args.map.now c.args.components.now c.args.stripe c.args.heard.now c.args.count c.encode.new.rows c.known.ensures
    shape coded
