use Rattle.std.proofs.Common.{rules, sym, ap, ◌∙◌, List}
use Rattle.client_rules.specs.declared.grants.Listed.{Listed}
use Rattle.client_rules.specs.Grants.{missing_from}
use Rattle.held_grants.proofs.Lacking.{none_lacking}
use Rattle.held_grants.proofs.taking.is_lacking.Goals as goal

pub returns-then-is_empty : goal.returns-then-is_empty
returns-then-is_empty c =
    sym (none_lacking c.args.held.now c.args.op.now
    (ap (λ (xs : List Listed). missing_from xs 0) (sym c.as_slice.ensures) ∙ sym c.in_ok-components.ensures ∙ search rules))
