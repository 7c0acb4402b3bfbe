use Rattle.std.proofs.Common.{◌≡◌, take}
use Rattle.std.specs.List.{flat_map}
use Rattle.std.specs.Io.KnownBytes.{Appends}
use Rattle.osd_replay.proofs.put_line.put_pieces.Given as goal

abbrev pub invariant-loop-piece : goal.invariant-loop-piece
invariant-loop-piece g l = record {
  out : Appends (g.K.Sink.taken l.initial.sink) (g.K.Sink.taken l.sink)
      (flat_map (λ piece. piece.now) (take l.piece-index l.pieces));
  faults : g.K.Sink.faults l.sink ≡ g.K.Sink.faults l.initial.sink;
  loan : g.K.Sink.loan l.sink ≡ g.K.Sink.loan l.initial.sink;
}
