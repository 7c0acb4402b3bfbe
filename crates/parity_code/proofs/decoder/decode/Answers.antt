use Rattle.std.proofs.Common.{sym, arith, length}
use Rattle.parity_code.specs.Codeword.{codeword}
use Rattle.parity_code.specs.Parity.{column}
use Rattle.parity_code.proofs.DecodeLaws.{decoded_by, decoded_none, back, coded, coded_plain, none_lost, no_position, one_position, two_positions, rising_few, count_most}
use Rattle.parity_code.proofs.decoder.decode.Goals as goal

pub overflow_cast-result : goal.overflow_cast-result
overflow_cast-result c =
    record {
      fits =
          omega (
            arith,
            rising_few (length c.args.rows.now) c.args.lost.now c.requires.lost.rising c.requires.lost.below,
            count_most c.args.code,
          );
    }

pub returns-in-empty-clause-exact : goal.returns-in-empty-clause-exact
returns-in-empty-clause-exact c =
    λ k lt. sym (rw (no_position c.args.lost.now (omega arith)) (decoded_none _ (column c.args.rows.now k)))

pub returns-in-len1-clause-exact : goal.returns-in-len1-clause-exact
returns-in-len1-clause-exact c =
    let lost = one_position c.args.lost.now (omega arith) in
    let restored = rw (sym lost) at c.restore_one.ensures in
    decoded_by c.args.code _ c.args.lost.now c.args.rows.now c.restore_one.new.rows restored (omega arith)

pub returns-in-len2-up-clause-exact : goal.returns-in-len2-up-clause-exact
returns-in-len2-up-clause-exact c =
    let lost = two_positions c.args.lost.now (omega (arith, count_most c.args.code)) in
    let restored = rw (sym lost) at c.restore_two.ensures in
    decoded_by c.args.code _ c.args.lost.now c.args.rows.now c.restore_two.new.rows restored (omega arith)

pub returns-in-empty-clause-whole : goal.returns-in-empty-clause-whole
returns-in-empty-clause-whole c = λ k ds lt bytes agree.
    none_lost (codeword c.args.code ds) (column c.args.rows.now k) (rw (no_position c.args.lost.now (omega arith)) at agree)

pub returns-in-len1-clause-whole : goal.returns-in-len1-clause-whole
returns-in-len1-clause-whole c =
    let lost = one_position c.args.lost.now (omega arith) in
    let restored = rw (sym lost) at c.restore_one.ensures in
    back c.args.code _ c.args.lost.now c.args.rows.now c.restore_one.new.rows restored (omega arith) (omega arith)

pub returns-in-len2-up-clause-whole : goal.returns-in-len2-up-clause-whole
returns-in-len2-up-clause-whole c =
    let lost = two_positions c.args.lost.now (omega (arith, count_most c.args.code)) in
    let restored = rw (sym lost) at c.restore_two.ensures in
    back c.args.code _ c.args.lost.now c.args.rows.now c.restore_two.new.rows restored (omega arith) (omega arith)

pub returns-in-empty-clause-coded : goal.returns-in-empty-clause-coded
returns-in-empty-clause-coded c = λ all k lt. coded_plain c.args.code c.args.rows.now k (omega arith)

pub returns-in-len1-clause-coded : goal.returns-in-len1-clause-coded
returns-in-len1-clause-coded c =
    let lost = one_position c.args.lost.now (omega arith) in
    let restored = rw (sym lost) at c.restore_one.ensures in
    coded c.args.code _ c.args.lost.now c.args.rows.now c.restore_one.new.rows restored (omega arith) (omega arith)

pub returns-in-len2-up-clause-coded : goal.returns-in-len2-up-clause-coded
returns-in-len2-up-clause-coded c =
    let lost = two_positions c.args.lost.now (omega (arith, count_most c.args.code)) in
    let restored = rw (sym lost) at c.restore_two.ensures in
    coded c.args.code _ c.args.lost.now c.args.rows.now c.restore_two.new.rows restored (omega arith) (omega arith)
