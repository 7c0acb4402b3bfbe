use Rattle.std.proofs.Common.{◌≡◌, ◌≤◌, ◌-◌, ◌+◌, true, false}
use Rattle.std.specs.Io.KnownBytes.{IsAtEnd}
use Rattle.osd_bytes.specs.declared.lines.TheConstants.{MAX_INPUT, MAX_READ}
use Rattle.osd_bytes.specs.Reading.{known_of, read_of, ReadsOn}
use Rattle.osd_replay.proofs.Counting.{Counted}
use Rattle.osd_replay.proofs.Inspecting.{Inspecting}
use Rattle.osd_replay.proofs.inspect.inspect.Given as goal

abbrev pub invariant-lines : goal.invariant-lines
invariant-lines g l = record {
  reader : l.reader.over ≡ false;
  within : l.reader.taken ≤ MAX_INPUT;
  read : ReadsOn 0 (read_of l.reader) (g.S.Source.left l.fn.source) (g.S.Source.left l.source);
  bound : read_of l.reader ≤ MAX_READ;
  number : l.number ≤ l.reader.taken;
  ended : l.reader.ahead.ended ≡ true → IsAtEnd (g.S.Source.left l.source);
  reads : g.S.Source.faults l.source ≡ g.S.Source.faults l.fn.source;
  writes : g.K.Sink.faults l.sink ≡ g.K.Sink.faults l.fn.sink;
  newlines : Counted l.reader.ahead.ended l.number (g.S.Source.left l.fn.source)
      (known_of l.reader.ahead (g.S.Source.left l.source));
  so_far : Inspecting l.inspection l.kind (g.S.Source.left l.fn.source)
      (known_of l.reader.ahead (g.S.Source.left l.source)) l.reader.taken (g.K.Sink.taken l.fn.sink)
      (g.K.Sink.taken l.sink) l.number;
}

abbrev pub decreases-lines : goal.decreases-lines
decreases-lines g l = MAX_INPUT + 1 - l.reader.taken
