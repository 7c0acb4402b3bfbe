use Rattle.std.proofs.Common.{false, arith, ap, sym, ◌∙◌, length}
use Rattle.std.proofs.lemmas.List.{append-nil}
use Rattle.osd_bytes.specs.Reading.{known_of}
use Rattle.osd_bytes.proofs.Known.{SeesEnd-then}
use Rattle.osd_bytes.proofs.ReadLaws.{reads-ahead, reads-same}
use Rattle.osd_bytes.proofs.NextLine.{Consumes-then, consumes_piece, piece_lengths, quiet_line, nothing_known, more_known, some_unless, fails_to_read, is_full, ends_line, is_last, is_long}
use Rattle.osd_bytes.proofs.lines.line_from.Goals as goal
use Rattle.osd_bytes.proofs.lines.line_from.Goals.{then-is_empty, else-is_empty}

pub returns-in-Err-clause-newlines : goal.returns-in-Err-clause-newlines
returns-in-Err-clause-newlines g c =
    fails_to_read c.in-Err.e c.pieces.line _ c.fill.new.self.ended _ _ _
    (known_of c.fill.new.self (g.S.Source.left c.fill.new.s)) c.pieces.window c.pieces.invariant.3 c.pieces.invariant.5
    c.pieces.invariant.8 c.in-Err.ensures.err

pub returns-then-len-eq0-clause-answer : goal.returns-then-len-eq0-clause-answer
returns-then-len-eq0-clause-answer g c =
    let none = c.if-len-eq0.true in
    let whole = rw append-nil at (Consumes-then _ _ _ _ _ c.pieces.invariant.5 c.in-Ok.ensures.bytes) in
    let end = nothing_known c.fill.new.self (g.S.Source.left c.fill.new.s) (omega arith) (c.in-Ok.ensures.end (omega arith)) in
    let all = is_last c.args.taken.now _ _ c.pieces.line whole end c.pieces.invariant.3 (omega arith) (omega arith) in
    elim c.if-is_empty.branch [
      | then-is_empty w ↦ rw w.result-is (all.1 (ap length (c.is_empty.ensures.0 w.if-is_empty.true)))
      | else-is_empty w ↦ rw w.result-is (all.0 (some_unless _ c.pieces.line c.is_empty.ensures w.if-is_empty.false))
    ]

pub returns-then-len-eq0-clause-rest : goal.returns-then-len-eq0-clause-rest
returns-then-len-eq0-clause-rest g c =
    let whole = rw append-nil at (Consumes-then _ _ _ _ _ c.pieces.invariant.5 c.in-Ok.ensures.bytes) in
    let end = nothing_known c.fill.new.self (g.S.Source.left c.fill.new.s) (omega arith) (c.in-Ok.ensures.end (omega arith)) in
    (is_last c.args.taken.now _ _ c.pieces.line whole end c.pieces.invariant.3 (omega arith) (omega arith)).2

pub returns-then-taken-eq-MAX_INPUT-clause-answer :
    goal.returns-then-taken-eq-MAX_INPUT-clause-answer
returns-then-taken-eq-MAX_INPUT-clause-answer g c =
    let whole = rw append-nil at (Consumes-then _ _ _ _ _ c.pieces.invariant.5 c.in-Ok.ensures.bytes) in
    let more = more_known c.fill.new.self (g.S.Source.left c.fill.new.s) (omega arith) in
    is_full c.args.taken.now _ _ c.pieces.line whole more c.pieces.invariant.3 (omega arith) (omega arith)

pub returns-then-branch-clause-answer : goal.returns-then-branch-clause-answer
returns-then-branch-clause-answer g c =
    let p = rw c.if-branch.true at c.in_ok-take_piece.ensures.piece in
    let so_far = rw append-nil at (Consumes-then _ _ _ _ _ c.pieces.invariant.5 c.in-Ok.ensures.bytes) in
    (ends_line c.args.taken.now _ c.fill.new.self c.take_piece.new.window
    (g.S.Source.left c.fill.new.s) c.pieces.line c.take_piece.new.line c.pieces.taken c.take_piece.new.taken so_far p
    c.take_piece.ensures.same c.pieces.invariant.3 c.pieces.invariant.1 c.take_piece.ensures.bound).0

pub returns-then-branch-clause-rest : goal.returns-then-branch-clause-rest
returns-then-branch-clause-rest g c =
    let p = rw c.if-branch.true at c.in_ok-take_piece.ensures.piece in
    let so_far = rw append-nil at (Consumes-then _ _ _ _ _ c.pieces.invariant.5 c.in-Ok.ensures.bytes) in
    (ends_line c.args.taken.now _ c.fill.new.self c.take_piece.new.window
    (g.S.Source.left c.fill.new.s) c.pieces.line c.take_piece.new.line c.pieces.taken c.take_piece.new.taken so_far p
    c.take_piece.ensures.same c.pieces.invariant.3 c.pieces.invariant.1 c.take_piece.ensures.bound).1

pub returns-then-branch-clause-newlines : goal.returns-then-branch-clause-newlines
returns-then-branch-clause-newlines g c =
    let p = rw c.if-branch.true at c.in_ok-take_piece.ensures.piece in
    let so_far = rw append-nil at (Consumes-then _ _ _ _ _ c.pieces.invariant.5 c.in-Ok.ensures.bytes) in
    λ h. (
      c.pieces.invariant.8 (c.in-Ok.ensures.open (sym c.take_piece.ensures.same ∙ h)),
      (ends_line c.args.taken.now _ c.fill.new.self c.take_piece.new.window
          (g.S.Source.left c.fill.new.s) c.pieces.line c.take_piece.new.line c.pieces.taken c.take_piece.new.taken so_far p
          c.take_piece.ensures.same c.pieces.invariant.3 c.pieces.invariant.1 c.take_piece.ensures.bound).2,
    )

pub pieces-preserved : goal.pieces-preserved
pieces-preserved g c =
    let p = rw c.if-branch.false at c.in_ok-take_piece.ensures.piece in
    let so_far = rw append-nil at (Consumes-then _ _ _ _ _ c.pieces.invariant.5 c.in-Ok.ensures.bytes) in
    let whole = rw append-nil at
    (consumes_piece (known_of c.args.window.now (g.S.Source.left c.args.s.now)) c.fill.new.self c.take_piece.new.window
    (g.S.Source.left c.fill.new.s) c.pieces.line c.take_piece.new.line c.pieces.taken c.take_piece.new.taken false so_far p
    c.take_piece.ensures.same) in
    let long = piece_lengths _ _ _ _ _ _ _ p in (
      c.take_piece.ensures.bound,
      omega (arith, long.0),
      omega (arith, long.1),
      quiet_line _ _ _ _ _ _ _ c.pieces.invariant.3 p,
      c.in-Ok.ensures.same ∙ c.pieces.invariant.4,
      whole,
      c.fill.ensures.loan ∙ c.pieces.invariant.6,
      λ h. SeesEnd-then _ _ _ _ _ _ c.pieces.invariant.7 c.in-Ok.ensures.at_end (sym c.take_piece.ensures.same ∙ h),
      λ h. c.pieces.invariant.8 (c.in-Ok.ensures.open (sym c.take_piece.ensures.same ∙ h)),
      omega (arith, c.take_piece.ensures.read, c.fill.ensures.within, c.pieces.invariant.0),
      reads-same _ _ _ _ _ (reads-ahead _ c.pieces.taken _ _ _ _ _ c.pieces.invariant.10 c.fill.ensures.reads)
          c.take_piece.ensures.read,
    )

pub returns-clause-answer : goal.returns-clause-answer
returns-clause-answer g c =
    is_long c.args.taken.now _ _ c.pieces.line c.pieces.invariant.5 c.pieces.invariant.3 (omega arith) (omega arith)

pub returns-in-Err-clause-reads : goal.returns-in-Err-clause-reads
returns-in-Err-clause-reads g c =
    reads-ahead _ c.pieces.taken _ _ _ _ _ c.pieces.invariant.10 c.fill.ensures.reads

pub returns-then-len-eq0-clause-reads : goal.returns-then-len-eq0-clause-reads
returns-then-len-eq0-clause-reads g c =
    reads-ahead _ c.pieces.taken _ _ _ _ _ c.pieces.invariant.10 c.fill.ensures.reads

pub returns-then-taken-eq-MAX_INPUT-clause-reads : goal.returns-then-taken-eq-MAX_INPUT-clause-reads
returns-then-taken-eq-MAX_INPUT-clause-reads g c =
    reads-ahead _ c.pieces.taken _ _ _ _ _ c.pieces.invariant.10 c.fill.ensures.reads

pub returns-then-branch-clause-reads : goal.returns-then-branch-clause-reads
returns-then-branch-clause-reads g c =
    reads-same _ _ _ _ _ (reads-ahead _ c.pieces.taken _ _ _ _ _ c.pieces.invariant.10 c.fill.ensures.reads)
    c.take_piece.ensures.read

pub returns-in_err-take_piece-clause-reads : goal.returns-in_err-take_piece-clause-reads
returns-in_err-take_piece-clause-reads g c =
    reads-same _ _ _ _ _ (reads-ahead _ c.pieces.taken _ _ _ _ _ c.pieces.invariant.10 c.fill.ensures.reads)
    c.take_piece.ensures.read
