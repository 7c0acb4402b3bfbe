use Rattle.std.proofs.Common.{rules, sym, ap, ◌∙◌}
use Rattle.osd_objects.specs.Objects.{length_of}
use Rattle.osd_objects.proofs.Counting.{counted_same, written_back}
use Rattle.osd_objects.proofs.store.Store.set_attr.Goals as goal
use Rattle.osd_objects.proofs.store.Store.set_attr.Goals.{in-Some+in_ok-set_attr, in_default}

pub invariant_of-self : goal.invariant_of-self
invariant_of-self c =
    rw (c.get_mut.follows.holds c.set_attr.new.self).0
    (counted_same _ _ _ c.args.object c.in-Some.found.now c.set_attr.new.self (sym c.in-Some.ensures.value)
    (ap length_of c.in_err-set_attr.ensures.err) c.self.invariant)

pub returns-in_err-set_attr-clause-err : goal.returns-in_err-set_attr-clause-err
returns-in_err-set_attr-clause-err c =
    let same = (c.get_mut.follows.holds c.set_attr.new.self).0
    ∙ written_back _ c.args.object c.in-Some.found.now c.set_attr.new.self
    (sym c.in-Some.ensures.value) c.in_err-set_attr.ensures.err in
    rw same (search (rules, c.self.view_is))

pub invariant_of-self-2 : goal.invariant_of-self-2
invariant_of-self-2 c = elim c.match-get_mut.branch [
  | in-Some+in_ok-set_attr w ↦
      rw (w.self-inside-is, (c.get_mut.follows.holds w.set_attr.new.self).0)
      (counted_same _ _ _ c.args.object w.in-Some.found.now w.set_attr.new.self (sym w.in-Some.ensures.value)
      (ap length_of w.in_ok-set_attr.ensures.ok) c.self.invariant)
  | in_default w ↦ rw (w.self-inside-is, c.get_mut.follows.holds-at-none) c.self.invariant
]
