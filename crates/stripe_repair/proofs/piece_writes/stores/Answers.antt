use Rattle.std.proofs.Common.{arith, [], sym, ap, ◌∙◌, ◌++◌, ◌∷◌}
use Rattle.std.proofs.lemmas.List.{append_assoc}
use Rattle.osd_lists.proofs.Options.{none_but}
use Rattle.stripe_repair.specs.Pieces.{rows_of}
use Rattle.stripe_repair.proofs.StoreLaws.{next_some, next_none}
use Rattle.stripe_repair.proofs.piece_writes.stores.Goals as goal
use Rattle.stripe_repair.proofs.piece_writes.stores.Goals.{in-Some+in_ok-push, in_default}

pub loop-at-preserved : goal.loop-at-preserved
loop-at-preserved c =
    let f = c.args.kept.now in
    let rows = rows_of f c.args.piece c.args.heard.now in
    let l = c.loop-at in
    let inside = rw c.as_slice-components.ensures at c.loop-at-test.true in
    let o = c.in_ok-write.field-0 in
    let is = rw c.as_slice-components.ensures at c.in_ok-write.ensures in
    elim c.match-branch-3.branch [
      | in-Some+in_ok-push w ↦ record {
        all =
            rw (w.out-is, w.nonce-is) (rw w.in_ok-push.ensures.ok (append_assoc l.out (w.in-Some.write ∷ []) _
            ∙ ap (λ xs. l.out ++ xs)
            (sym (next_some f c.args.piece rows c.args.heard.now f.components l.at-index l.component l.nonce _ o
            w.in-Some.write inside is w.in-Some.is))
            ∙ l.invariant.all));
        place = omega (arith, l.invariant.place);
        low = omega (arith, l.invariant.low, w.nonce-is);
      }
      | in_default w ↦ record {
        all =
            rw (w.out-is, w.nonce-is)
            (ap (λ xs. l.out ++ xs)
            (sym (next_none f c.args.piece rows c.args.heard.now f.components l.at-index l.component l.nonce _ o inside is
            (none_but o w.in_default.not-Some)))
            ∙ l.invariant.all);
        place = omega (arith, l.invariant.place);
        low = omega (arith, l.invariant.low, w.nonce-is);
      }
    ]
