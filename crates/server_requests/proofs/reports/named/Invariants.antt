use Rattle.std.proofs.Common.{◌≡◌, ◌++◌, ◌<◌, ℕ, List, drop}
use Rattle.std.specs.Prelude.{All}
use Rattle.std.specs.Option.{option_map}
use Rattle.data_map.specs.declared.check.TheConstants.{MAX_COMPONENTS}
use Rattle.server_rules.specs.declared.files.Component.{Component}
use Rattle.layout_types.specs.declared.ioerrs.IoErr.{IoErr}
use Rattle.server_rules.specs.Return.{named}
use Rattle.server_requests.proofs.reports.named.Given as goal

-- the components that the first entries name
pub record Names (es : List IoErr) (cs : List Component) (numbers : List ℕ) (index : ℕ) : Type 0 where
  pub all : option_map (λ ks. numbers ++ ks) (named (drop index es) cs) ≡ named es cs
  pub inside : All (λ k. k < MAX_COMPONENTS) numbers

abbrev pub invariant-loop-entry : goal.invariant-loop-entry
invariant-loop-entry l = Names l.fn.report l.fn.components l.numbers l.entry-index
