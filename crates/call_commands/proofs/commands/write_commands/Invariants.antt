use Rattle.std.proofs.Common.{◌≡◌, ◌++◌, length}
use Rattle.std.specs.Prelude.{true}
use Rattle.std.specs.Vec.Iter.{into_iter_items, into_iter_len}
use Rattle.client_rules.specs.Commands.{numbered}
use Rattle.call_commands.proofs.commands.write_commands.Given as goal

abbrev pub invariant-loop-store : goal.invariant-loop-store
invariant-loop-store l = record {
  sent : l.sent ++ numbered l.fn.held true l.count
      (into_iter_items l.store-iterator) ≡ numbered l.fn.held true l.fn.held.count l.fn.stores.items;
  long : into_iter_len l.store-iterator ≡ length (into_iter_items l.store-iterator);
}
