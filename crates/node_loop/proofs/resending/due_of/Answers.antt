use Rattle.std.proofs.Common.{rules, ◌∙◌}
use Rattle.std.proofs.lemmas.List.{append-nil, drop_all}
use Rattle.std.specs.Ordering.{nat_cmp}
use Rattle.std.specs.BTreeMap.{get}
use Rattle.node_loop.specs.Nodes.{way_in}
use Rattle.node_loop.proofs.DueLaws.{due-more}
use Rattle.node_loop.proofs.resending.due_of.Goals as goal

pub loop-i-preserved : goal.loop-i-preserved
loop-i-preserved c =
    rw c.in_ok-push_due.ensures
    (due-more (get nat_cmp c.args.board.now.table) (way_in c.args.board.now.ways) c.loop-i.due c.args.messages.now c.loop-i.i
    c.get.result.now (search rules) ∙ c.loop-i.invariant)

pub returns : goal.returns
returns c =
    rw (drop_all c.loop-i.i c.args.messages.now (search rules), append-nil c.loop-i.due) at c.loop-i.invariant
