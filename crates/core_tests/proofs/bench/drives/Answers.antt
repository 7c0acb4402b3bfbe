use Rattle.std.proofs.Common.{arith}
use Rattle.server_rules.specs.Making.{add_drive}
use Rattle.core_tests.proofs.bench.drives.Goals as goal

-- each number is another than those before it
pub returns : goal.returns
unfolding add_drive
returns c = rw (
  c.in_ok-push-6.ensures.ok,
  c.in_ok-push-5.ensures.ok,
  c.in_ok-push-4.ensures.ok,
  c.in_ok-push-3.ensures.ok,
  c.in_ok-push-2.ensures.ok,
  c.in_ok-push.ensures.ok,
  c.new-table.ensures,
) (
  tt,
  omega arith,
  (
    (λ e. absurd (cc e), tt),
    omega arith,
    (
      (λ e. absurd (cc e), (λ e. absurd (cc e), tt)),
      omega arith,
      (
        (λ e. absurd (cc e), (λ e. absurd (cc e), (λ e. absurd (cc e), tt))),
        omega arith,
        (
          (λ e. absurd (cc e), (λ e. absurd (cc e), (λ e. absurd (cc e), (λ e. absurd (cc e), tt)))),
          omega arith,
          (
            (λ e. absurd (cc e), (λ e. absurd (cc e), (λ e. absurd (cc e), (λ e. absurd (cc e), (λ e. absurd (cc e), tt))))),
            omega arith,
            tt,
          ),
        ),
      ),
    ),
  ),
)
