use Rattle.std.proofs.Common.{sym, ap}
use Rattle.osd_objects.specs.Objects.{length_of}
use Rattle.osd_objects.proofs.Counting.{counted_same}
use Rattle.osd_objects.proofs.store.Store.set_tag.Goals as goal
use Rattle.osd_objects.proofs.store.Store.set_tag.Goals.{in-Some, in_default}

pub invariant_of-self : goal.invariant_of-self
invariant_of-self c = elim c.match-get_mut.branch [
  | in-Some w ↦
      rw (w.self-inside-is, (c.get_mut.follows.holds w.set_tag.new.self).0)
      (counted_same _ _ _ c.args.object w.in-Some.found.now w.set_tag.new.self (sym w.in-Some.ensures.value)
      (ap length_of w.set_tag.ensures) c.self.invariant)
  | in_default w ↦ rw (w.self-inside-is, c.get_mut.follows.holds-at-none) c.self.invariant
]
