use Rattle.std.proofs.Common.{ℕ, ◌+◌, ◌<◌, List, [], length, take, get_or, arith, Bor}
use Rattle.std.specs.List.{flat_map}
use Rattle.std.proofs.lemmas.List.Folds.{length-flat_map-take}
use Rattle.osd_bytes.specs.Put.{written_of}
use Rattle.osd_bytes.proofs.Known.{Appends-then}
use Rattle.osd_replay.proofs.Pieces.{cut_in_piece}
use Rattle.osd_replay.proofs.put_line.put_pieces.Goals as goal

pub returns-in-Err-clause-puts : goal.returns-in-Err-clause-puts
returns-in-Err-clause-puts g c =
    let n : ℕ = written_of c.in-Err.field-0 in
    let none : Bor (List ℕ) = record { ref_ptr = (0, 0); now = [] } in
    let bytes : Bor (List ℕ) → List ℕ = λ piece. piece.now in
    let pieces : List (Bor (List ℕ)) = c.args.pieces.now in
    let i : ℕ = c.loop-piece.piece-index in
    let short : n < length (get_or pieces i none).now = c.in-Err.ensures.part in
    let fits = length-flat_map-take bytes pieces i none c.loop-piece-test.true in (
      length (flat_map bytes (take i pieces)) + n,
      omega (arith, fits, short),
      rw (cut_in_piece bytes pieces i n none c.loop-piece-test.true (omega (arith, short)))
          (Appends-then _ _ _ _ _ c.loop-piece.invariant.out c.in-Err.ensures.err),
      rw c.loop-piece.invariant.faults at c.in-Err.ensures.cause.failed,
    )
