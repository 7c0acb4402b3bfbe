use Rattle.std.proofs.Common.{◌≡◌, ℕ, List, drop}
use Rattle.server_rules.specs.declared.files.Component.{Component}
use Rattle.layout_types.specs.declared.ioerrs.IoErr.{IoErr}
use Rattle.server_rules.specs.Return.{named_from}
use Rattle.server_requests.proofs.reports.named_from.Given as goal

-- none of the first ones is named
pub record Looked (e : IoErr) (cs : List Component) (component index : ℕ) : Type 0 where
  pub rest : named_from e (drop index cs) component ≡ named_from e cs 0
  pub place : component ≡ index

abbrev pub invariant-loop-at : goal.invariant-loop-at
invariant-loop-at l = Looked l.fn.entry l.fn.components l.component l.at-index
