use Rattle.std.proofs.Common.{rules, ap}
use Rattle.osd_objects.specs.Objects.{length_of}
use Rattle.osd_objects.proofs.Counting.{counted_new}
use Rattle.osd_objects.proofs.store.Store.create.Goals as goal

pub invariant_of-self-2 : goal.invariant_of-self-2
invariant_of-self-2 c =
    rw c.in_ok-insert.ensures.entries
    (counted_new c.self.inside.capacity c.self.inside.used c.self.inside.objects.entries c.args.object c.in_ok-made.made
    c.in_ok-insert.ensures.was_ordered (search rules) (ap length_of c.in_ok-made.ensures) c.self.invariant)
