use Rattle.std.specs.Prelude.{[], ◌∷◌}
use Rattle.std.proofs.Common.{arith, ◌∙◌}
use Rattle.std.proofs.lemmas.Result.{IfOk-weaker}
use Rattle.file_jobs.proofs.Placements.{is_present, is_passed, is_made_on}
use Rattle.file_jobs.proofs.places.place_missing.Goals as goal
use Rattle.file_jobs.proofs.places.place_missing.Goals.{then-get+in_ok-drive+in-None+in_ok-note-in-None, else-get}

pub returns-in-Some-clause-turn : goal.returns-in-Some-clause-turn
returns-in-Some-clause-turn g c = IfOk-weaker c.create_on.result _ _ (λ turn h. (
  c.in-Some.drive ∷ [],
  λ a l.
      h a
      ∙ is_made_on c.args.kept.now c.loop-k.effects a c.loop-k.k c.in-Some.drive c.get.result.now
      (omega (arith, c.loop-k-test.true, c.len.ensures)) c.get.ensures c.if-get.true
      (rw c.in-Some.is at (c.in_ok-drive.ensures a.drives l))
      ∙ c.loop-k.invariant.rest (record a { chosen = c.in-Some.drive ∷ a.chosen }) l,
)) c.create_on.ensures.turn

pub loop-k-preserved : goal.loop-k-preserved
loop-k-preserved g c = elim c.if-get.branch [
  | then-get+in_ok-drive+in-None+in_ok-note-in-None w ↦ rw (w.effects-is ∙ w.in_ok-note-in-None.ensures) (record {
    rest = λ a l. is_passed c.args.kept.now c.loop-k.effects a c.loop-k.k c.get.result.now
        (omega (arith, c.loop-k-test.true, c.len.ensures)) c.get.ensures w.if-get.true
        (rw w.in-None.is at (w.in_ok-drive.ensures a.drives l)) ∙ c.loop-k.invariant.rest a l;
    nonce = c.loop-k.invariant.nonce;
    object = c.loop-k.invariant.object;
  })
  | else-get w ↦ rw w.effects-is (record {
    rest = λ a l. is_present c.args.kept.now c.loop-k.effects a c.loop-k.k c.get.result.now
        (omega (arith, c.loop-k-test.true, c.len.ensures)) c.get.ensures w.if-get.false ∙ c.loop-k.invariant.rest a l;
    nonce = c.loop-k.invariant.nonce;
    object = c.loop-k.invariant.object;
  })
]
