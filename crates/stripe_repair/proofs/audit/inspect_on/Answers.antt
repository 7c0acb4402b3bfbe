use Rattle.std.proofs.Common.{sym, ◌∙◌}
use Rattle.std.proofs.lemmas.List.Elements.{All-drop}
use Rattle.osd_lists.proofs.Options.{none_but}
use Rattle.stripe_repair.specs.Pieces.{IsPiece}
use Rattle.stripe_repair.proofs.RepairLaws.{some_of, none_of}
use Rattle.stripe_repair.proofs.AuditLaws.{look_past, look_stops, look_ends}
use Rattle.stripe_repair.proofs.audit.inspect_on.Goals as goal

pub returns-then-not-is_empty-clause-exact : goal.returns-then-not-is_empty-clause-exact
returns-then-not-is_empty-clause-exact c =
    let l = c.loop-piece in
    rw c.in_ok-mark_short.ensures.ok
    (look_stops c.args.kept.now c.args.nonce l.todo l.short c.in-Some.piece c.in_ok-reads.reads
    (sym c.first.ensures ∙ c.in-Some.is) c.in_ok-reads.ensures
    (some_of c.is_empty.result c.in_ok-reads.reads c.is_empty.ensures c.if-not-is_empty.true)
    ∙ l.invariant.same)

pub loop-piece-preserved : goal.loop-piece-preserved
loop-piece-preserved c =
    let l = c.loop-piece in
    record {
      same =
          rw (c.advance.ensures, c.in_ok-mark_short.ensures.ok)
          (look_past c.args.kept.now c.args.nonce l.todo l.short c.in-Some.piece (sym c.first.ensures ∙ c.in-Some.is)
          (sym c.in_ok-reads.ensures ∙ none_of c.is_empty.result c.in_ok-reads.reads c.is_empty.ensures c.if-not-is_empty.false)
          ∙ l.invariant.same);
      pieces = rw c.advance.ensures (All-drop IsPiece 1 l.todo l.invariant.pieces);
    }

pub returns-clause-exact : goal.returns-clause-exact
returns-clause-exact c =
    let l = c.loop-piece in
    rw c.new.ensures
    (look_ends c.args.kept.now c.args.nonce l.todo l.short
    (sym c.first.ensures ∙ none_but c.first.result c.in_default.not-Some) ∙ l.invariant.same)
