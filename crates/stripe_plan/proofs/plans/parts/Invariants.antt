use Rattle.std.proofs.Common.{◌≡◌, ◌++◌, length}
use Rattle.std.specs.Vec.Iter.{into_iter_items, into_iter_len}
use Rattle.stripe_plan.specs.Plans.{parts_of}
use Rattle.stripe_plan.proofs.plans.parts.Given as goal

abbrev pub invariant-loop-store : goal.invariant-loop-store
invariant-loop-store l = record {
  parts : l.parts ++ parts_of (into_iter_items l.store-iterator) ≡ parts_of l.fn.stores.items;
  long : into_iter_len l.store-iterator ≡ length (into_iter_items l.store-iterator);
}
