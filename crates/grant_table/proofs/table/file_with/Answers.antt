use Rattle.std.proofs.Common.{rules, sym, ap, ◌∙◌}
use Rattle.std.specs.Map.Iter.{deref_pair}
use Rattle.std.proofs.lemmas.Cmp.{nat_cmp_total}
use Rattle.std.proofs.lemmas.Map.Iter.{btree_map_turn, rest_all}
use Rattle.grant_table.proofs.TableLaws.{any_has, none_has, holds_there}
use Rattle.grant_table.proofs.table.file_with.Goals as goal

pub returns-then-has-clause-some : goal.returns-then-has-clause-some
returns-then-has-clause-some c =
    let turn = btree_map_turn deref_pair c.loop-file.yielded c.into_iter-file-iterator.result c.loop-file.file-iterator
    c.next.new.self c.next.result (c.in-Some.file, c.in-Some.grants)
    c.loop-file.yielded_by c.in-Some.is c.next.ensures.steps nat_cmp_total c.args.by_file.now
    (search rules) c.iter-file-items.ensures.ordered
    in holds_there c.args.number c.in-Some.file.now c.args.by_file.now.entries c.in-Some.grants.now turn.1
    (sym c.has.ensures ∙ c.if-has.true)

pub returns-clause-none : goal.returns-clause-none
returns-clause-none c =
    none_has c.args.number _
    (sym c.loop-file.invariant
    ∙ ap (any_has c.args.number) (rest_all deref_pair _ _ c.next.result c.in-None.is c.next.ensures.steps))
