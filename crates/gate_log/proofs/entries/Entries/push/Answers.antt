use Rattle.std.proofs.Common.{◌-◌, ℕ, List, ◌++◌, sym, ◌∙◌, ap, arith}
use Rattle.std.specs.Prelude.{slice_set}
use Rattle.gate_log.specs.declared.entry.TheConstants.{OPEN_GATE}
use Rattle.gate_log.specs.Entries.{piece_of}
use Rattle.gate_log.proofs.Joining.{are_joined, first_joins, next_joins}
use Rattle.gate_log.proofs.entries.Entries.push.Goals as goal

pub returns-then-end-eq0-clause-ok : goal.returns-then-end-eq0-clause-ok
returns-then-end-eq0-clause-ok c bodies h = record {
  are_bodies = are_joined bodies c.args.entry.now h.are_bodies c.piece.ensures.is_body;
  bytes_are = c.in_ok-extend_from_slice.ensures.ok
      ∙ ap (λ (l : List ℕ). c.args.self.now.pieces ++ l) c.piece.ensures.bytes
      ∙ first_joins bodies c.args.entry.now c.args.self.now.pieces h.bytes_are (sym c.len-end.ensures ∙ c.if-end-eq0.true);
}

pub returns-clause-ok : goal.returns-clause-ok
returns-clause-ok c bodies h = record {
  are_bodies = are_joined bodies c.args.entry.now h.are_bodies c.piece.ensures.is_body;
  bytes_are = ap (λ (l : List ℕ). slice_set l (c.len-end.result - 1) OPEN_GATE)
      (c.in_ok-extend_from_slice.ensures.ok ∙ ap (λ (l : List ℕ). c.args.self.now.pieces ++ l) c.piece.ensures.bytes)
      ∙ ap (λ (n : ℕ). slice_set (c.args.self.now.pieces ++ piece_of c.args.entry.now) (n - 1) OPEN_GATE) c.len-end.ensures
      ∙ next_joins bodies c.args.entry.now c.args.self.now.pieces h.bytes_are
      (omega (arith, c.if-end-eq0.false, c.len-end.ensures));
}
