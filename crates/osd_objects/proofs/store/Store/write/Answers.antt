use Rattle.std.proofs.Common.{rules, arith, ◌≡◌, ◌+◌, ◌-◌, ◌≤◌, sym, ap, ◌∙◌}
use Rattle.osd_objects.specs.Objects.{length_of}
use Rattle.osd_objects.specs.Store.{growth, used_of}
use Rattle.osd_objects.proofs.Counting.{counted_same, counted_more, written_back, length-written}
use Rattle.osd_objects.proofs.store.Store.write.Goals as goal

pub invariant_of-self : goal.invariant_of-self
invariant_of-self c =
    rw (c.get_mut.follows.holds c.write.new.self).0
    (counted_same _ _ _ c.args.object c.in-Some.found.now c.write.new.self (sym c.in-Some.ensures.value)
    (ap length_of c.in_err-write.ensures.err) c.self.invariant)

pub returns-in_err-write-clause-err : goal.returns-in_err-write-clause-err
returns-in_err-write-clause-err c =
    let same = (c.get_mut.follows.holds c.write.new.self).0
    ∙ written_back _ c.args.object c.in-Some.found.now c.write.new.self
    (sym c.in-Some.ensures.value) c.in_err-write.ensures.err in
    rw same (search (rules, c.self.view_is))

pub invariant_of-self-in-Some : goal.invariant_of-self-in-Some
invariant_of-self-in-Some c =
    let old = c.in-Some.found.now in
    let new = c.write.new.self in
    let more : length_of new ≡ length_of old + growth (length_of old) c.args.offset c.args.bytes.now =
    ap length_of c.in_ok-write.ensures.ok ∙ length-written old.content c.args.offset c.args.bytes.now in
    let space : growth
    (length_of old) c.args.offset c.args.bytes.now ≤ c.self.inside.capacity - used_of c.self.inside.objects.entries =
    rw (← c.self.view_is, ← c.in-Some.ensures.value) at c.requires.space in
    rw ((c.get_mut.follows.holds new).0, c.len.ensures, c.len-before.ensures)
    (counted_more _ _ _ c.args.object old new (sym c.in-Some.ensures.value) (omega (arith, more))
    (omega (arith, more, space, c.self.invariant.all, c.self.invariant.inside)) c.self.invariant)
