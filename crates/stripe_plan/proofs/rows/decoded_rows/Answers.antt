use Rattle.stripe_plan.specs.Plans.{columns_of}
use Rattle.stripe_plan.proofs.StripeRows.{known_are_rows, lost_positions, can_decode, decoded_columns}
use Rattle.stripe_plan.proofs.rows.decoded_rows.Goals as goal

pub decode-decoded-requires-clause-rows : goal.decode-decoded-requires-clause-rows
decode-decoded-requires-clause-rows c =
    rw (c.code_of.ensures, c.in_ok-rows.ensures)
    (known_are_rows c.args.map.now
    (columns_of c.args.map.now c.args.got.now) c.args.out.now.components c.args.stripe c.args.columns c.known.ensures)

pub decode-decoded-requires-clause-lost : goal.decode-decoded-requires-clause-lost
decode-decoded-requires-clause-lost c =
    rw (c.in_ok-rows.ensures, c.as_slice.ensures, c.in_ok-lost.ensures)
    (lost_positions c.args.map.now
    (columns_of c.args.map.now c.args.got.now) c.args.out.now.components c.args.stripe c.args.columns)

pub returns : goal.returns
returns c =
    let outcome = rw (c.code_of.ensures, c.as_slice.ensures, c.in_ok-lost.ensures) at c.decode-decoded.ensures.outcome in
    let exact = rw (
      outcome,
      can_decode c.args.map.now _ c.requires.few,
      c.code_of.ensures,
      c.as_slice.ensures,
      c.in_ok-lost.ensures,
      c.in_ok-rows.ensures,
    ) at c.decode-decoded.ensures.exact in
    decoded_columns c.args.map.now
    (columns_of c.args.map.now c.args.got.now) c.args.out.now.components c.args.stripe c.args.columns
    c.decode-decoded.new.rows c.known.ensures
    (rw c.in_ok-rows.ensures at c.decode-decoded.ensures.shape) exact
