use Rattle.std.proofs.Common.{◌≡◌, ◌++◌, ℕ, List, drop, length}
use Rattle.server_rules.specs.declared.files.Component.{Component}
use Rattle.server_rules.specs.Standing.{lose_from}
use Rattle.server_requests.proofs.give_back.without_these.Given as goal

-- the first ones are as they are to be
pub record Lost (ks : List ℕ) (cs left : List Component) (number index : ℕ) : Type 0 where
  pub all : left ++ lose_from ks (drop index cs) number ≡ lose_from ks cs 0
  pub place : number ≡ index
  pub many : length left ≡ index

abbrev pub invariant-loop-at : goal.invariant-loop-at
invariant-loop-at l = Lost l.fn.numbers l.fn.components l.left l.number l.at-index
