use Rattle.std.proofs.Common.{◌≡◌, length, ℕ}
use Rattle.std.specs.Prelude.{List}
use Rattle.std.specs.List.{All}
use Rattle.server_rules.specs.declared.files.Kept.{Kept}
use Rattle.server_rules.specs.declared.jobs.Piece.{Piece}
use Rattle.stripe_repair.specs.Pieces.{IsPiece}
use Rattle.stripe_repair.specs.Auditing.{inspects}
use Rattle.stripe_repair.proofs.audit.inspect_on.Given as goal

pub record Inspected (f : Kept) (nonce : ℕ) (todo : List Piece) (short : List ℕ) (first : List Piece)
    (marked : List ℕ) : Type 0 where
  pub same : inspects f nonce todo short ≡ inspects f nonce first marked
  pub pieces : All IsPiece todo

abbrev pub invariant-loop-piece : goal.invariant-loop-piece
invariant-loop-piece l = Inspected l.fn.kept l.nonce l.todo l.short l.fn.todo l.fn.short

abbrev pub decreases-loop-piece : goal.decreases-loop-piece
decreases-loop-piece l = length l.todo
