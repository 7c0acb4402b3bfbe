use Rattle.std.proofs.Common.{sym, ap, ◌∙◌, ◌++◌, ◌+◌, drop, arith, append-nil, refl}
use Rattle.std.proofs.Math.ListN.{drop_of_length-le}
use Rattle.stripe_plan.specs.Plans.{columns_of}
use Rattle.call_io.specs.Emptied.{no_column}
use Rattle.call_io.proofs.Places.{fetched_step, same_column}
use Rattle.call_io.proofs.Taking.{all_left, one_taken}
use Rattle.call_io.proofs.reading.fetched.Goals as goal

pub loop-i-init : goal.loop-i-init
loop-i-init c =
    record { rest = all_left c.args.got; parts = ap (λ ps. columns_of c.args.map.now ps ++ c.args.got) c.new-parts.ensures }

pub take_column-column-requires : goal.take_column-column-requires
take_column-column-requires c = omega (arith, c.loop-i-test.true, c.len-i-end.ensures, c.loop-i.invariant.rest.0)

pub loop-i-preserved : goal.loop-i-preserved
loop-i-preserved c =
    let m = c.args.map.now in
    let i = c.loop-i.i in
    let column = c.take_column-column.result in
    record {
      rest = one_taken i c.loop-i.left c.take_column-column.new.got c.args.got no_column c.loop-i.invariant.rest
          c.take_column-column.ensures.left;
      parts =
          ap (λ ps. columns_of m ps ++ drop (i + 1) c.args.got) c.in_ok-push.ensures.ok
          ∙ fetched_step m c.args.got c.loop-i.parts i column _
          (sym (c.loop-i.invariant.rest.1 i (omega arith)) ∙ c.take_column-column.ensures.taken)
          (same_column m column c.replica.result column.bytes c.replica.ensures.value refl)
          c.loop-i.invariant.parts;
    }

pub returns : goal.returns
returns c =
    sym (append-nil (columns_of c.args.map.now c.loop-i.parts))
    ∙ ap (λ xs. columns_of c.args.map.now c.loop-i.parts ++ xs)
    (sym (drop_of_length-le c.args.got (omega (arith, c.loop-i-test.false, c.len-i-end.ensures))))
    ∙ c.loop-i.invariant.parts
