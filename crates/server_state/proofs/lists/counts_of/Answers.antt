use Rattle.std.proofs.Common.{rules, sym, subst, ◌≡◌}
use Rattle.server_state.specs.Tables.{Table}
use Rattle.std.specs.Map.Iter.{deref_pair}
use Rattle.std.proofs.lemmas.Map.Iter.{rest_all, rest_more}
use Rattle.server_state.proofs.CountLaws.{AreToCount, count_first, count_more, count_last}
use Rattle.server_state.proofs.lists.counts_of.Goals as goal

pub loop-file-init : goal.loop-file-init
loop-file-init c =
    let items : c.into_iter-file-iterator.result ≡ c.args.files.now.entries = search rules in
    subst (λ (t : Table). AreToCount c.new-counts.result t c.args.files.now.entries) (sym items)
    (count_first c.new-counts.result c.args.files.now.entries c.new-counts.ensures)

pub loop-file-preserved : goal.loop-file-preserved
loop-file-preserved c =
    count_more c.loop-file.counts c.add.new.self _ c.in-Some.file.now c.loop-file.file-iterator c.next.new.self
    c.args.files.now.entries
    (rest_more deref_pair _ _ c.next.result _ c.in-Some.is c.next.ensures.steps)
    (rw c.as_slice.ensures at c.in_ok-add.ensures) c.loop-file.invariant

pub returns : goal.returns
returns c =
    count_last c.loop-file.counts c.loop-file.file-iterator c.args.files.now.entries
    (rest_all deref_pair _ _ c.next.result c.in-None.is c.next.ensures.steps) c.loop-file.invariant
