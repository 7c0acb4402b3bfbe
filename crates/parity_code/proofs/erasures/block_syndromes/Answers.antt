use Rattle.std.proofs.Common.{◌≡◌, ◌∙◌, ◌+◌, ap, refl, take}
use Rattle.parity_code.specs.Parity.{column, p_of, q_of}
use Rattle.parity_code.proofs.ColumnLaws.{take_column}
use Rattle.parity_code.proofs.erasures.block_syndromes.Goals as goal

pub returns-clause-p : goal.returns-clause-p
returns-clause-p c = record {
  long = c.sum.ensures.long;
  each = λ k lt.
      let front : p_of (column c.split_at.result.0.now (c.args.at + k)) ≡ p_of
      (take c.args.units (column c.args.rows.now (c.args.at + k))) =
      ap (λ rows. p_of (column rows (c.args.at + k))) c.split_at.ensures.front
      ∙ ap p_of (take_column c.args.units c.args.rows.now (c.args.at + k)) in
      c.sum.ensures.each k lt ∙ rw (c.block_p_and_q.ensures.p.each k lt, c.block_or_zero.ensures.each k lt, front) refl;
}

pub returns-clause-q : goal.returns-clause-q
returns-clause-q c = record {
  long = c.sum-2.ensures.long;
  each = λ k lt.
      let front : q_of (column c.split_at.result.0.now (c.args.at + k)) ≡ q_of
      (take c.args.units (column c.args.rows.now (c.args.at + k))) =
      ap (λ rows. q_of (column rows (c.args.at + k))) c.split_at.ensures.front
      ∙ ap q_of (take_column c.args.units c.args.rows.now (c.args.at + k)) in
      c.sum-2.ensures.each k lt ∙ rw (c.block_p_and_q.ensures.q.each k lt, c.block_or_zero-2.ensures.each k lt, front) refl;
}
