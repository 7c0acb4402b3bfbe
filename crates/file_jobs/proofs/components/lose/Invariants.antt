use Rattle.std.proofs.Common.{◌≡◌, ◌++◌, ◌∷◌, [], ℕ, List, drop}
use Rattle.server_rules.specs.declared.files.Component.{Component}
use Rattle.server_rules.specs.Standing.{lose_from}
use Rattle.file_jobs.proofs.components.lose.Given as goal

pub record Lost (lost : ℕ) (left cs : List Component) (k index : ℕ) : Type 0 where
  pub all : left ++ lose_from (lost ∷ []) (drop index cs) k ≡ lose_from (lost ∷ []) cs 0
  pub place : k ≡ index

abbrev pub invariant-loop-at : goal.invariant-loop-at
invariant-loop-at l = Lost l.lost l.left l.fn.components l.k l.at-index
