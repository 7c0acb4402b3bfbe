use Rattle.std.proofs.Common.{◌≡◌, ℕ, List, drop}
use Rattle.server_rules.specs.declared.files.Component.{Component}
use Rattle.server_rules.specs.declared.server.Effects.{Effects}
use Rattle.server_state.specs.FileRequests.{reported}
use Rattle.server_state.proofs.layout_return.report.Given as goal

-- the first ones are noted
pub record Noted (ks : List ℕ) (cs : List Component) (file : ℕ) (was is : Effects) (component index : ℕ) : Type 0 where
  pub all : reported ks (drop index cs) component file is ≡ reported ks cs 0 file was
  pub place : component ≡ index

abbrev pub invariant-loop : goal.invariant-loop
invariant-loop l = Noted l.fn.numbers l.fn.file.kept.components l.fn.file.kept.number l.fn.effects l.effects l.component l.index
