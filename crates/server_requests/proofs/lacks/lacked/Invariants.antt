use Rattle.std.proofs.Common.{◌≡◌, ℕ, drop}
use Rattle.server_rules.specs.declared.files.Kept.{Kept}
use Rattle.server_rules.specs.declared.grants.Grant.{Grant}
use Rattle.server_rules.specs.Standing.{lacked_from}
use Rattle.server_requests.proofs.lacks.lacked.Given as goal

-- none of the first ones is lacked
pub record Looked (f : Kept) (g : Grant) (component index : ℕ) : Type 0 where
  pub rest : lacked_from f.map f.components g.first g.end
      (drop index f.components) component ≡ lacked_from f.map f.components g.first g.end f.components 0
  pub place : component ≡ index

abbrev pub invariant-loop-at : goal.invariant-loop-at
invariant-loop-at l = Looked l.fn.kept l.fn.grant l.component l.at-index
