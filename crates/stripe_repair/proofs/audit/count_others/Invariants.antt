use Rattle.std.proofs.Common.{◌≡◌, ◌≤◌, ◌+◌, drop, length, ℕ}
use Rattle.std.specs.Prelude.{List, filter, not}
use Rattle.server_rules.specs.Numbers.{among}
use Rattle.stripe_repair.proofs.audit.count_others.Given as goal

pub record Counted (marks numbers : List ℕ) (count index : ℕ) : Type 0 where
  pub all : count + length (filter (λ n. not (among n marks)) (drop index numbers)) ≡ length
      (filter (λ n. not (among n marks)) numbers)
  pub low : count ≤ index

abbrev pub invariant-loop-number : goal.invariant-loop-number
invariant-loop-number l = Counted l.fn.marks l.fn.numbers l.count l.number-index
