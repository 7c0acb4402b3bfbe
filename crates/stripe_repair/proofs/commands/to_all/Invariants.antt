use Rattle.std.proofs.Common.{◌≡◌, ◌≤◌, ◌+◌, ◌++◌, drop, ℕ}
use Rattle.std.specs.Prelude.{List}
use Rattle.server_rules.specs.declared.files.Kept.{Kept}
use Rattle.server_rules.specs.declared.jobs.Awaited.{Awaited}
use Rattle.server_rules.specs.Commands.{to_each, Ask, Which}
use Rattle.stripe_repair.specs.Asks.{asked, meant}
use Rattle.stripe_repair.proofs.commands.to_all.Given as goal

pub record Sent (f : Kept) (which : Which) (ask : Ask) (first : ℕ) (out : List Awaited) (nonce component index : ℕ) : Type 0 where
  pub all : out ++ to_each f which ask (drop index f.components) component nonce ≡ to_each f which ask f.components 0 first
  pub place : component ≡ index
  pub low : nonce ≤ first + index

abbrev pub invariant-loop-at : goal.invariant-loop-at
invariant-loop-at l = Sent l.fn.kept (meant l.which) (asked l.ask) l.first l.out l.nonce l.component l.at-index
