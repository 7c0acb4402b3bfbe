use Rattle.std.proofs.Common.{arith, refl, ap, Err, ◌≡◌, ◌∙◌}
use Rattle.osd_bytes.proofs.ReadLaws.{reads-none, reads-then, within-most}
use Rattle.osd_bytes.specs.declared.lines.TheConstants.{MAX_READ}
use Rattle.osd_bytes.specs.Put.{written_of}
use Rattle.osd_bytes.specs.Reading.{known_of}
use Rattle.osd_replay.proofs.Counting.{counted_none, counted_more, fails_at}
use Rattle.osd_replay.proofs.Promised.{nothing_ahead, at_end}
use Rattle.osd_replay.proofs.Inspecting.{nothing_inspected, inspects_on, all_inspected, no_line_inspected, inspection_stopped, part_answered}
use Rattle.osd_replay.proofs.inspect.inspect.Goals as goal

pub lines-init : goal.lines-init
lines-init g c = rw c.new-reader.ensures record {
  reader = refl;
  within = omega arith;
  read = reads-none 0 (g.S.Source.left c.args.source.now);
  bound = omega arith;
  number = omega arith;
  ended = λ h. absurd (cc h);
  reads = refl;
  writes = refl;
  newlines = rw (nothing_ahead (g.S.Source.left c.args.source.now)) (counted_none (g.S.Source.left c.args.source.now));
  so_far = rw (nothing_ahead (g.S.Source.left c.args.source.now))
      (nothing_inspected c.args.inspection c.args.kind (g.S.Source.left c.args.source.now) (g.K.Sink.taken c.args.sink.now));
}

pub returns-in-Ok-None-clause-promise : goal.returns-in-Ok-None-clause-promise
returns-in-Ok-None-clause-promise g c =
    let here = rw c.in-Ok-None.field-0-is at c.in-Ok-None.ensures in
    let inv = c.lines.invariant in
    all_inspected c.args.inspection c.args.kind _ _ _ _ c.lines.reader.taken c.lines.number inv.so_far here.lines
    (at_end _ _ _ _ here.at_end inv.ended (here.end refl)) (here.cause.same ∙ inv.reads) inv.writes

pub returns-in-Err-clause-promise : goal.returns-in-Err-clause-promise
returns-in-Err-clause-promise g c =
    let inv = c.lines.invariant in
    rw (c.stopped.ensures.status, c.stop_of.ensures)
    (no_line_inspected c.args.inspection c.args.kind _ _ _ c.lines.reader.taken (g.K.Sink.taken c.lines.sink) c.lines.number
    (g.K.Sink.faults c.lines.sink) c.stopped.ensures.puts.0 c.in-Err.e inv.so_far c.in-Err.ensures.answer
    (λ h. (
      rw inv.reads at (c.in-Err.ensures.cause.fault (ap (λ x. Err x) h)),
      fails_at _ c.next_line.new.self.ahead.ended _ _ _
          (known_of c.next_line.new.self.ahead (g.S.Source.left c.next_line.new.s)) _ c.in-Err.e inv.newlines
          c.in-Err.ensures.newlines h,
    )) inv.writes (rw c.stop_of.ensures at c.stopped.ensures.puts.1))

pub returns-in-Err-inspect_line-clause-promise : goal.returns-in-Err-inspect_line-clause-promise
returns-in-Err-inspect_line-clause-promise g c =
    let here = rw c.in-Ok-Some.field-0-is at c.in-Ok-Some.ensures in
    let inv = c.lines.invariant in
    rw c.stopped-in-Err-inspect_line.ensures.status
    (inspection_stopped c.args.inspection c.args.kind _ _ _ c.lines.reader.taken (g.K.Sink.taken c.lines.sink) c.lines.number
    (g.K.Sink.faults c.lines.sink) c.stopped-in-Err-inspect_line.ensures.puts.0 c.in-Ok-Some.line c.in-Err-inspect_line.stop
    inv.so_far here.answer c.in-Err-inspect_line.ensures.err inv.writes c.stopped-in-Err-inspect_line.ensures.puts.1)

pub returns-in-Err-put_all-clause-promise : goal.returns-in-Err-put_all-clause-promise
returns-in-Err-put_all-clause-promise g c =
    let here = rw c.in-Ok-Some.field-0-is at c.in-Ok-Some.ensures in
    let inv = c.lines.invariant in
    let bytes : c.as_slice.result.now ≡ c.in-Ok.text = c.as_slice.ensures in
    part_answered c.args.inspection c.args.kind _ _ _ _ c.lines.reader.taken c.next_line.new.self.taken
    (g.K.Sink.taken c.lines.sink) c.lines.number (written_of c.in-Err-put_all.field-0) c.in-Ok-Some.line c.in-Ok.text
    inv.so_far here.lines here.takes c.in-Ok.ensures.ok (rw bytes at c.in-Err-put_all.ensures.err)
    (rw inv.writes at c.in-Err-put_all.ensures.cause.failed)

pub lines-preserved : goal.lines-preserved
lines-preserved g c =
    let here = rw c.in-Ok-Some.field-0-is at c.in-Ok-Some.ensures in
    let inv = c.lines.invariant in
    let bytes : c.as_slice.result.now ≡ c.in-Ok.text = c.as_slice.ensures in
    record {
      reader = here.over.1 tt;
      within = here.within;
      read = reads-then 0 _ _ _ _ _ inv.read here.reads;
      bound = here.bound;
      number = omega (arith, inv.number, here.counts tt);
      ended = at_end _ _ _ _ here.at_end inv.ended;
      newlines = counted_more _ _ _ _ _ _ (g.S.Source.left c.next_line.new.s) c.in-Ok-Some.line inv.newlines here.newlines;
      reads = here.cause.same ∙ inv.reads;
      writes = c.in-Ok-put_all.ensures.cause.same ∙ inv.writes;
      so_far = inspects_on c.args.inspection c.args.kind _ _ _ c.lines.reader.taken c.next_line.new.self.taken _
          (g.K.Sink.taken c.lines.sink) _ c.lines.number c.in-Ok-Some.line c.in-Ok.text
          inv.so_far here.lines here.takes c.in-Ok.ensures.ok (rw bytes at c.in-Ok-put_all.ensures.ok);
    }

pub returns-in-Err-inspect_line-clause-input : goal.returns-in-Err-inspect_line-clause-input
returns-in-Err-inspect_line-clause-input g c =
    within-most 0 _ MAX_READ _ _ (reads-then 0 _ _ _ _ _ c.lines.invariant.read c.next_line.ensures.reads) c.next_line.ensures.bound

pub returns-in-Err-put_all-clause-input : goal.returns-in-Err-put_all-clause-input
returns-in-Err-put_all-clause-input g c =
    within-most 0 _ MAX_READ _ _ (reads-then 0 _ _ _ _ _ c.lines.invariant.read c.next_line.ensures.reads) c.next_line.ensures.bound

pub returns-in-Ok-None-clause-input : goal.returns-in-Ok-None-clause-input
returns-in-Ok-None-clause-input g c =
    within-most 0 _ MAX_READ _ _ (reads-then 0 _ _ _ _ _ c.lines.invariant.read c.next_line.ensures.reads) c.next_line.ensures.bound

pub returns-in-Err-clause-input : goal.returns-in-Err-clause-input
returns-in-Err-clause-input g c =
    within-most 0 _ MAX_READ _ _ (reads-then 0 _ _ _ _ _ c.lines.invariant.read c.next_line.ensures.reads) c.next_line.ensures.bound
