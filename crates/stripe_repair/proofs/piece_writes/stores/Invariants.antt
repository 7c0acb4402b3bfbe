use Rattle.std.proofs.Common.{◌≡◌, ◌≤◌, ◌+◌, ◌++◌, drop, ℕ}
use Rattle.std.specs.Prelude.{List}
use Rattle.server_rules.specs.declared.files.Kept.{Kept}
use Rattle.server_rules.specs.declared.jobs.Piece.{Piece}
use Rattle.server_rules.specs.declared.jobs.Heard.{Heard}
use Rattle.server_rules.specs.declared.jobs.Awaited.{Awaited}
use Rattle.server_rules.specs.Columns.{unit_rows}
use Rattle.server_rules.specs.Pieces.{stores_from}
use Rattle.stripe_repair.proofs.piece_writes.stores.Given as goal

pub record Stored (f : Kept) (p : Piece) (rows : List (List ℕ)) (heard : List Heard) (first : ℕ) (out : List Awaited)
    (nonce component index : ℕ) : Type 0 where
  pub all : out ++ stores_from f p rows heard
      (drop index f.components) component nonce ≡ stores_from f p rows heard f.components 0 first
  pub place : component ≡ index
  pub low : nonce ≤ first + index

abbrev pub invariant-loop-at : goal.invariant-loop-at
invariant-loop-at l =
    Stored l.fn.kept l.fn.piece
    (unit_rows l.fn.kept.map l.fn.kept.components l.fn.piece.stripe l.fn.heard l.fn.piece.count) l.fn.heard l.first l.out
    l.nonce l.component l.at-index
