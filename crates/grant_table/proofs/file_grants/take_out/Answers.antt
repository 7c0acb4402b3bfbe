use Rattle.std.proofs.Common.{rules, sym, ap, ◌∙◌, ◌++◌, take, List}
use Rattle.server_rules.specs.declared.grants.Grant.{Grant}
use Rattle.grant_table.proofs.GrantLists.{found_at, left_at, at_end}
use Rattle.grant_table.proofs.file_grants.take_out.Goals as goal

pub returns-then-index-number-clause-found : goal.returns-then-index-number-clause-found
returns-then-index-number-clause-found c =
    sym (found_at c.args.number c.loop-i.i c.loop-i.grants.items c.remove.result c.index.result.now
    (search rules) c.remove.ensures.value c.index.ensures c.if-index-number.true)
    ∙ c.loop-i.invariant.found

pub returns-then-index-number-clause-left : goal.returns-then-index-number-clause-left
returns-then-index-number-clause-left c =
    c.remove.ensures.items
    ∙ ap (λ (z : List Grant). take c.loop-i.i c.loop-i.grants.items ++ z)
    (sym (left_at c.args.number c.loop-i.i c.loop-i.grants.items c.index.result.now
    (search rules) c.index.ensures c.if-index-number.true))
    ∙ c.loop-i.invariant.left

pub returns-clause-found : goal.returns-clause-found
returns-clause-found c = sym (at_end c.args.number c.loop-i.i c.loop-i.grants.items (search rules)).0 ∙ c.loop-i.invariant.found

pub returns-clause-left : goal.returns-clause-left
returns-clause-left c = sym (at_end c.args.number c.loop-i.i c.loop-i.grants.items (search rules)).1 ∙ c.loop-i.invariant.left
