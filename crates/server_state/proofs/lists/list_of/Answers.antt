use Rattle.std.proofs.Common.{rules, sym, subst, ◌≡◌, []}
use Rattle.server_state.specs.Index.{Keys}
use Rattle.server_state.specs.Tables.{Table}
use Rattle.std.specs.Map.Iter.{deref_pair}
use Rattle.std.proofs.lemmas.Map.Iter.{rest_all, rest_more}
use Rattle.server_state.proofs.ReplyLaws.{AreToList, at_first, at_last, one_more}
use Rattle.server_state.proofs.lists.list_of.Goals as goal

pub loop-number-init : goal.loop-number-init
loop-number-init c =
    let items : c.into_iter-number-iterator.result ≡ c.args.files.now.entries = search rules in
    subst (λ (ks : Keys). AreToList ks c.into_iter-number-iterator.result c.args.files.now.entries) (sym c.new-replies.ensures)
    (subst (λ (t : Table). AreToList [] t c.args.files.now.entries) (sym items)
    (at_first c.args.files.now.entries c.iter-number-items.ensures.ordered))

pub loop-number-preserved : goal.loop-number-preserved
loop-number-preserved c =
    one_more c.loop-number.replies c.add_of.new.replies c.in-Some.number.now c.in-Some.file.now c.loop-number.number-iterator
    c.next.new.self c.args.files.now.entries
    (rest_more deref_pair _ _ c.next.result (c.in-Some.number, c.in-Some.file) c.in-Some.is c.next.ensures.steps)
    c.in_ok-add_of.ensures c.loop-number.invariant

pub returns : goal.returns
returns c =
    at_last c.loop-number.replies c.loop-number.number-iterator c.args.files.now.entries
    (rest_all deref_pair _ _ c.next.result c.in-None.is c.next.ensures.steps) c.loop-number.invariant
