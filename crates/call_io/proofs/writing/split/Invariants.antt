use Rattle.std.proofs.Common.{◌≡◌, ◌++◌, [], length}
use Rattle.std.specs.Vec.Iter.{into_iter_items, into_iter_len}
use Rattle.client_rules.specs.Writes.{firsts, laters}
use Rattle.call_io.proofs.writing.split.Given as goal

abbrev pub invariant-loop-store : goal.invariant-loop-store
invariant-loop-store l = record {
  firsts : l.firsts.items ++ firsts l.seen (into_iter_items l.store-iterator) ≡ firsts [] l.fn.stores.items;
  long : into_iter_len l.store-iterator ≡ length (into_iter_items l.store-iterator);
  laters : l.queue ++ laters l.seen (into_iter_items l.store-iterator) ≡ laters [] l.fn.stores.items;
}
