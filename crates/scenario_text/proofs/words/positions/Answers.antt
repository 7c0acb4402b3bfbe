use Rattle.std.proofs.Common.{inr, sym, ◌∙◌}
use Rattle.std.proofs.lemmas.Bool.{false≢true}
use Rattle.std.proofs.lemmas.Result.{err_from_is_err_and}
use Rattle.scenario_text.specs.Reading.{positions_of}
use Rattle.scenario_text.proofs.Positions.{positions_err, positions_step, positions_done}
use Rattle.scenario_text.proofs.words.positions.Goals as goal

pub returns-in_err-position : goal.returns-in_err-position
unfolding positions_of
returns-in_err-position c =
    let p = err_from_is_err_and c.from_residual.result c.from_residual.ensures.1 in
    rw (p.1, p.2)
    (inr (sym (positions_err _ c.loop-parts.positions c.loop-parts.least c.loop-parts.parts c.in_err-position.field-0.0
    c.loop-parts.invariant
    (λ is. false≢true (sym c.loop-parts-test.true ∙ c.is_done.ensures.1 is)) (sym c.in_err-position.ensures.value))))

pub loop-parts-preserved : goal.loop-parts-preserved
loop-parts-preserved c =
    rw (c.in_ok-push.ensures.ok, c.from-least.ensures, c.in_ok-position.ensures.rest)
    (positions_step _ c.loop-parts.positions c.loop-parts.least c.in_ok-position.position c.loop-parts.parts
    c.loop-parts.invariant
    (sym c.in_ok-position.ensures.value))

pub returns : goal.returns
unfolding positions_of
returns c =
    inr (sym (positions_done _ c.loop-parts.positions c.loop-parts.least c.loop-parts.parts c.loop-parts.invariant
    (c.is_done.ensures.0 c.loop-parts-test.false)))
