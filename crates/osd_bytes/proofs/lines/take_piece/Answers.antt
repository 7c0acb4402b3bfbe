use Rattle.std.proofs.Common.{◌++◌, ap, ◌∙◌, arith, ℕ, List}
use Rattle.osd_bytes.proofs.Pieces.{takes_newline, takes_all}
use Rattle.osd_bytes.proofs.lines.take_piece.Goals as goal

pub returns-in_ok-extend_from_slice-in-Some-clause-piece :
    goal.returns-in_ok-extend_from_slice-in-Some-clause-piece
returns-in_ok-extend_from_slice-in-Some-clause-piece c =
    takes_newline _ _ _ _ _ _ _ _ c.front-front.ensures c.in-Some.ensures
    (c.in_ok-extend_from_slice-in-Some.ensures.ok
    ∙ ap (λ (t : List ℕ). c.args.line.now ++ t) c.split_at.ensures.front) c.advance.ensures.bytes (omega arith)

pub returns-in_ok-extend_from_slice-in-None-clause-piece :
    goal.returns-in_ok-extend_from_slice-in-None-clause-piece
returns-in_ok-extend_from_slice-in-None-clause-piece c =
    takes_all _ _ _ _ _ _ _ c.front-front.ensures c.in-None.ensures c.in_ok-extend_from_slice-in-None.ensures.ok
    c.advance-in-None.ensures.bytes (omega arith) (omega arith) (omega arith)
