use Rattle.std.proofs.Common.{arith, ◌+◌}
use Rattle.server_requests.proofs.RowLaws.{end_low, first_before}
use Rattle.server_requests.proofs.get.asked.Goals as goal

pub returns-clause-low : goal.returns-clause-low
returns-clause-low c =
    let some = c.stripe_length-stripe.ensures.bound.0 in
    record {
      rises = first_before c.args.wanted.now.offset
          (c.args.wanted.now.offset + c.args.wanted.now.length) c.stripe_length-stripe.result some (omega arith);
      end = end_low (c.args.wanted.now.offset + c.args.wanted.now.length) c.stripe_length-stripe.result some c.requires;
    }
