use Rattle.stripe_repair.proofs.CodewordLaws.{are_rows}
use Rattle.stripe_repair.proofs.RestoredLaws.{lost_are, can_decode, decoded_are}
use Rattle.stripe_repair.proofs.restored.restored_rows.Goals as goal

pub decode-decoded-requires-clause-rows : goal.decode-decoded-requires-clause-rows
decode-decoded-requires-clause-rows c =
    rw (c.code_of.ensures, c.in_ok-rows.ensures)
    (are_rows c.args.map.now c.args.components.now c.args.stripe c.args.heard.now c.args.count c.known.ensures)

pub decode-decoded-requires-clause-lost : goal.decode-decoded-requires-clause-lost
decode-decoded-requires-clause-lost c =
    rw (c.in_ok-rows.ensures, c.as_slice.ensures, c.in_ok-lost.ensures)
    (lost_are c.args.map.now c.args.components.now c.args.stripe c.args.heard.now c.args.count)

pub returns : goal.returns
returns c =
    let outcome = rw (c.code_of.ensures, c.as_slice.ensures, c.in_ok-lost.ensures) at c.decode-decoded.ensures.outcome in
    let exact = rw (
      outcome,
      can_decode c.args.map.now _ c.requires.lost,
      c.code_of.ensures,
      c.as_slice.ensures,
      c.in_ok-lost.ensures,
      c.in_ok-rows.ensures,
    ) at c.decode-decoded.ensures.exact in
    decoded_are c.args.map.now c.args.components.now c.args.stripe c.args.heard.now c.args.count c.decode-decoded.new.rows
    c.known.ensures
    (rw c.in_ok-rows.ensures at c.decode-decoded.ensures.shape) exact
