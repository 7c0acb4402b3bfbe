use Rattle.std.proofs.Common.{◌+◌, arith}
use Rattle.std.proofs.lemmas.Simd.{length-chunk, get_or-chunk}
use Rattle.gf256.proofs.lanes.load.Goals as goal

pub returns : goal.returns
returns c =
    record {
      lanes = record {
        long = length-chunk c.args.at 64 c.args.s.now c.requires;
        each =
            λ k lt. get_or-chunk c.args.at 64 c.args.s.now k 0 lt;
      };
      bytes = λ k lt. rw (get_or-chunk c.args.at 64 c.args.s.now k 0 lt) (omega (arith, c.type_inv.s (c.args.at + k)));
    }
